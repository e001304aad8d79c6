-- Challenges are a list of elements, separated by commas: each begins a challenge, or adds a parameter
-- to the last one.
use Rattle.std.specs.Prelude.{ℕ, ◌+◌, List, [], ◌∷◌, ◌++◌, Option, Some, None, map, if◌then◌else◌}
use Rattle.std.specs.Option.{option_to_list}
use Rattle.oci_auth.specs.declared.challenge.Challenge.{Challenge}
use Rattle.oci_auth.specs.declared.element.Element.{Element}
use Rattle.oci_auth.specs.declared.element.Element.TheVariants.{Empty, Parameter, Begins, BreaksOff, Unreadable}
use Rattle.oci_auth.specs.declared.split.Place.TheVariants.{Outside}
use Rattle.oci_auth.specs.Grammar.{is_empty, past_blanks, token_in, past_token, after_byte, assigned}
use Rattle.oci_auth.specs.Grammar.{parameter_in}
use Rattle.oci_auth.specs.Split.{split_from}

-- a challenge with this parameter, or one that is malformed after its scheme
abbrev pub begun : List ℕ → Option (List ℕ × List ℕ) → Element
begun scheme (Some parameter) = Begins (record { scheme = scheme; params = parameter ∷ [] })
begun scheme None = BreaksOff

abbrev pub added : Option (List ℕ × List ℕ) → Element
added (Some parameter) = Parameter parameter
added None = Unreadable

abbrev pub scheme_or_parameter : List ℕ → List ℕ → Option (List ℕ) → Element
scheme_or_parameter token text (Some value) = added (assigned token (Some value))
scheme_or_parameter token text None = begun token (parameter_in text)

-- a token that is not followed by `=` is a scheme
abbrev pub after_token : List ℕ → List ℕ → Element
after_token token text =
    if is_empty text
    then Begins (record { scheme = token; params = [] })
    else scheme_or_parameter token text (after_byte 61 text)

-- an element without its leading white space
abbrev pub element_in : List ℕ → Element
element_in text =
    if is_empty text then Empty
    else (if is_empty (token_in text) then Unreadable
    else after_token (token_in text) (past_blanks (past_token text)))

unfoldable pub element_of : List ℕ → Element
element_of text = element_in (past_blanks text)

-- the challenge with this parameter added last
abbrev pub with_parameter : Challenge → List ℕ × List ℕ → Challenge
with_parameter challenge parameter = record challenge { params = challenge.params ++ parameter ∷ [] }

-- parsing goes from left to right and stops at the first malformed element; a challenge is complete if the next one
-- begins or the text ends
abbrev pub whole : Option Challenge → List Element → List Challenge
whole last [] = option_to_list last
whole last (Empty ∷ elements) = whole last elements
whole None (Parameter parameter ∷ elements) = []
whole (Some challenge) (Parameter parameter ∷ elements) = whole (Some (with_parameter challenge parameter)) elements
whole last (Begins challenge ∷ elements) = option_to_list last ++ whole (Some challenge) elements
whole last (BreaksOff ∷ elements) = option_to_list last
whole last (Unreadable ∷ elements) = []

-- the challenges of a text
unfoldable pub challenges_of : List ℕ → List Challenge
challenges_of text = whole None (map element_of (split_from Outside text))
