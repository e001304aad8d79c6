-- What is decided from the tokens of a JSON text.
use Rattle.std.specs.Prelude.{◌≡◌, ℕ, List, Bool, true, false, Option, option_and_then, is_some, IfSome}
use Rattle.json.specs.Token.{Token}
use Rattle.json.specs.Json.{if_last, members, value}
use Rattle.serde_json.specs.Data.{Data, Members}
use Rattle.serde_json.specs.Read.{of_json, of_members, converted, max_depth}
use Rattle.json_tables.specs.Objects.{only, names_within}

-- whether an object begins with this token
abbrev pub opens_object : Token → Bool
opens_object Token.begin_object = true
opens_object Token.end_object = false
opens_object Token.begin_array = false
opens_object Token.end_array = false
opens_object (Token.key s) = false
opens_object (Token.string s) = false
opens_object (Token.number s) = false
opens_object (Token.boolean b) = false
opens_object Token.null = false
opens_object Token.bad = false

-- the data that these tokens denote
abbrev pub data_of : List Token → Option Data
data_of ts = option_and_then of_json (option_and_then (λ p. if_last p.0 p.1) (value max_depth ts))

-- if the tokens denote data, whether that is an object with no other members than these
abbrev pub DecidesOnly : List (List ℕ) → List Token → Bool → Type 0
DecidesOnly names ts holds = IfSome (data_of ts) (λ d. holds ≡ is_some (only names d))

-- If the tokens go on with the members of an object, after some with these names alone: whether all have these names.
-- The number bounds the members.
abbrev pub DecidesRest : List (List ℕ) → List Token → Bool → Type 0
DecidesRest names ts holds =
    (n : ℕ) → (found : Members) → names_within names found ≡ true
    → IfSome (converted (λ ms. of_members ms found) (members (value 126) n ts)) (λ p. holds ≡ names_within names p.0)
