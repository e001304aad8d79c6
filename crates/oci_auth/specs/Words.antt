-- Lists of challenges as sets of texts (RFC 9110, sections 5.6 and 11).
use Rattle.std.specs.Prelude.{◌≡◌, ◌≢◌, ◌==◌, ◌⊎◌, ◌&&◌, ℕ, List, [], ◌∷◌, ◌++◌, Bool, false, not, IsTrue, Option, Some}
use Rattle.std.specs.Prelude.{None}
use Rattle.std.specs.List.{list_all}
use Rattle.std.specs.Option.{option_to_list}
use Rattle.oci_auth.specs.declared.challenge.Challenge.{Challenge}
use Rattle.oci_auth.specs.Element.{with_parameter}
use Rattle.oci_auth.specs.Grammar.{is_blank_byte, is_token_byte, past_blanks}

-- white space, or nothing
abbrev pub Blanks : List ℕ → Type 0
Blanks text = IsTrue (list_all is_blank_byte text)

-- one or more letters, digits and marks
abbrev pub Token : List ℕ → Type 0
Token text = (text ≢ []) × IsTrue (list_all is_token_byte text)

-- neither a quote nor a backslash
abbrev pub is_plain_byte : ℕ → Bool
is_plain_byte b = not (b == 34) && not (b == 92)

-- the text between two quotes, and its content: `\` escapes the next byte
pub data Unescapes : List ℕ → List ℕ → Type 0 where
  nothing : Unescapes [] []
  plain : (b : ℕ) (text content : List ℕ) → IsTrue (is_plain_byte b) → Unescapes text content
      → Unescapes (b ∷ text) (b ∷ content)
  literal : (b : ℕ) (text content : List ℕ) → Unescapes text content → Unescapes (92 ∷ b ∷ text) (b ∷ content)

-- a quoted string, and its content
pub record Quoted (text content : List ℕ) : Type 0 where
  pub inner : List ℕ
  pub is : text ≡ 34 ∷ (inner ++ 34 ∷ [])
  pub says : Unescapes inner content

-- the value of a parameter: a token, or the content of a quoted string
abbrev pub Value : List ℕ → List ℕ → Type 0
Value text value = (Token text × (value ≡ text)) ⊎ Quoted text value

-- a parameter: a name, white space, `=` and a value
pub record IsParameter (text : List ℕ) (parameter : List ℕ × List ℕ) : Type 0 where
  pub gap : List ℕ
  pub written : List ℕ
  pub is : text ≡ parameter.0 ++ (gap ++ 61 ∷ written)
  pub name : Token parameter.0
  pub blanks : Blanks gap
  pub value : Value written parameter.1

-- a parameter surrounded by white space
pub record AddsParameter (text : List ℕ) (parameter : List ℕ × List ℕ) : Type 0 where
  pub front : List ℕ
  pub word : List ℕ
  pub back : List ℕ
  pub is : text ≡ front ++ (word ++ back)
  pub before : Blanks front
  pub parameter_is : IsParameter word parameter
  pub behind : Blanks back

-- no parameter, or one after white space
abbrev pub FirstParameter : List ℕ → List (List ℕ × List ℕ) → Type 0
FirstParameter text params =
    (Blanks text × (params ≡ []))
    ⊎ ((b : ℕ) × (rest : List ℕ) × (parameter : List ℕ × List ℕ) × (text ≡ b ∷ rest)
    × IsTrue (is_blank_byte b) × AddsParameter rest parameter × (params ≡ parameter ∷ []))

-- a scheme surrounded by white space, with its first parameter if it has one
pub record BeginsChallenge (text : List ℕ) (challenge : Challenge) : Type 0 where
  pub front : List ℕ
  pub rest : List ℕ
  pub is : text ≡ front ++ (challenge.scheme ++ rest)
  pub before : Blanks front
  pub scheme : Token challenge.scheme
  pub params : FirstParameter rest challenge.params

-- the first byte, if there is one, passes the test
abbrev pub begins : (ℕ → Bool) → List ℕ → Bool
begins p [] = false
begins p (b ∷ text) = p b

-- the text begins with a scheme: a complete token that is not followed by optional white space and `=`
pub record BeginsScheme (text : List ℕ) : Type 0 where
  pub front : List ℕ
  pub scheme : List ℕ
  pub rest : List ℕ
  pub is : text ≡ front ++ (scheme ++ rest)
  pub before : Blanks front
  pub token : Token scheme
  pub ends : begins is_token_byte rest ≡ false
  pub no_value : begins (λ b. b == 61) (past_blanks rest) ≡ false

-- a comma followed by this text, or nothing
abbrev pub behind_comma : Option (List ℕ) → List ℕ
behind_comma None = []
behind_comma (Some text) = 44 ∷ text

-- These challenges are complete in a list, of which the first may have begun before this text: the
-- elements of the list are separated by commas, each is empty, adds a parameter, or begins a challenge,
-- and a challenge is complete if the next one begins or the text ends.
pub data Whole : Option Challenge → Option (List ℕ) → List Challenge → Type 0 where
  at_end : (last : Option Challenge) → Whole last None (option_to_list last)
  at_scheme : (last : Option Challenge) (text : List ℕ) → BeginsScheme text
      → Whole last (Some text) (option_to_list last)
  empty : (last : Option Challenge) (part : List ℕ) (tail : Option (List ℕ)) (found : List Challenge)
      → Blanks part → Whole last tail found → Whole last (Some (part ++ behind_comma tail)) found
  adds : (challenge : Challenge) (parameter : List ℕ × List ℕ) (part : List ℕ) (tail : Option (List ℕ))
      (found : List Challenge) → AddsParameter part parameter
      → Whole (Some (with_parameter challenge parameter)) tail found
      → Whole (Some challenge) (Some (part ++ behind_comma tail)) found
  next : (last : Option Challenge) (challenge : Challenge) (part : List ℕ) (tail : Option (List ℕ))
      (found : List Challenge) → BeginsChallenge part challenge → Whole (Some challenge) tail found
      → Whole last (Some (part ++ behind_comma tail)) (option_to_list last ++ found)

-- the challenges of a text: they are complete in it, and as many as possible, so that no other one is
-- complete before the first malformed element
pub record AreChallenges (text : List ℕ) (found : List Challenge) : Type 0 where
  pub whole : (found ≡ []) ⊎ Whole None (Some text) found
  pub most : (others : List Challenge) → Whole None (Some text) others
      → (more : List Challenge) × (found ≡ others ++ more)
