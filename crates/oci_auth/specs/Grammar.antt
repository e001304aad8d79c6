-- The words of a list of challenges (RFC 9110, sections 5.6 and 11.2).
use Rattle.std.specs.Prelude.{ℕ, ◌==◌, Bool, true, false, ◌&&◌, ◌||◌, not, List, [], ◌∷◌, ◌++◌, Option, Some, None}
use Rattle.std.specs.Prelude.{drop, codes, if◌then◌else◌, option_map}
use Rattle.std.specs.List.{list_all, list_any, prefix_len, take_while}
use Rattle.std.specs.Char.{is_ascii_alphanumeric}

-- white space consists of spaces and tabs
abbrev pub is_blank_byte : ℕ → Bool
is_blank_byte b = b == 32 || b == 9

abbrev pub is_mark : ℕ → Bool
is_mark b = list_any (λ mark. mark == b) (codes "!#$%&'*+-.^_`|~")

-- a byte of a token: an ASCII letter, a digit or a mark
abbrev pub is_token_byte : ℕ → Bool
is_token_byte b = is_ascii_alphanumeric b || is_mark b

abbrev pub is_empty : List ℕ → Bool
is_empty [] = true
is_empty (b ∷ text) = false

-- the rest after this byte, if the text begins with it
abbrev pub after_byte : ℕ → List ℕ → Option (List ℕ)
after_byte byte [] = None
after_byte byte (b ∷ text) = if b == byte then Some text else None

abbrev pub past_blanks : List ℕ → List ℕ
past_blanks text = drop (prefix_len is_blank_byte text) text

-- the leading token, which may be empty
abbrev pub token_in : List ℕ → List ℕ
token_in text = take_while is_token_byte text

abbrev pub past_token : List ℕ → List ℕ
past_token text = drop (prefix_len is_token_byte text) text

abbrev pub is_blank : List ℕ → Bool
is_blank text = list_all is_blank_byte text

-- the content of a quoted string whose opening quote is before this text: `\` escapes the next byte, and only white
-- space follows the closing quote
unfoldable pub unquoted : List ℕ → Option (List ℕ)
unquoted [] = None
unquoted (b ∷ []) = if b == 34 then Some [] else None
unquoted (b ∷ c ∷ text) =
    if b == 34 then (if is_blank (c ∷ text) then Some [] else None)
    else (if b == 92 then option_map (λ content. c ∷ content) (unquoted text)
    else option_map (λ content. b ∷ content) (unquoted (c ∷ text)))

-- the same content after this prefix
abbrev pub behind : List ℕ → Option (List ℕ) → Option (List ℕ)
behind front None = None
behind front (Some content) = Some (front ++ content)

-- the length of a leading quote or escaped byte
abbrev pub literal_len : List ℕ → ℕ
literal_len [] = 0
literal_len (b ∷ text) = if b == 34 || b == 92 then 1 else 0

-- a token followed by white space only
abbrev pub token_value : List ℕ → Option (List ℕ)
token_value text = if not (is_empty (token_in text)) && is_blank (past_token text) then Some (token_in text) else None

abbrev pub string_or_token : List ℕ → Option (List ℕ) → Option (List ℕ)
string_or_token text (Some quoted) = unquoted quoted
string_or_token text None = token_value text

-- the value of a parameter: a quoted string or a token
unfoldable pub value_in : List ℕ → Option (List ℕ)
value_in text = string_or_token text (after_byte 34 text)

-- a name and the value after its `=`
abbrev pub assigned : List ℕ → Option (List ℕ) → Option (List ℕ × List ℕ)
assigned name None = None
assigned name (Some text) = if is_empty name then None else option_map (λ value. (name, value)) (value_in text)

-- a parameter: a token, white space, `=` and a value
unfoldable pub parameter_in : List ℕ → Option (List ℕ × List ℕ)
parameter_in text = assigned (token_in text) (after_byte 61 (past_blanks (past_token text)))
