-- Challenges of the scheme Bearer (RFC 6750, section 3).
use Rattle.std.specs.Prelude.{◌≡◌, ℕ, ◌==◌, Bool, ◌&&◌, ◌||◌, nat_le, List, [], ◌∷◌, Option, Some, None, Result, Ok}
use Rattle.std.specs.Prelude.{Err, codes, bytes_eq, if◌then◌else◌}
use Rattle.std.specs.Option.{option_or}
use Rattle.std.specs.Result.{result_or}
use Rattle.std.specs.List.{list_all}
use Rattle.std.specs.Str.{str_to_ascii_lowercase}
use Rattle.oci_auth.specs.declared.challenge.Challenge.{Challenge}
use Rattle.oci_auth.specs.declared.bearer.BearerChallenge.{BearerChallenge}
use Rattle.oci_auth.specs.declared.bearer.ChallengeError.{ChallengeError}
use Rattle.oci_auth.specs.declared.bearer.ChallengeError.TheVariants.{NotText, NoBearer, OtherScheme, NoRealm}
use Rattle.oci_auth.specs.declared.bearer.ChallengeError.TheVariants.{WantOfMemory}
use Rattle.oci_auth.specs.Element.{challenges_of}

-- the texts are equal, ignoring the case of ASCII letters
abbrev pub is_named : List ℕ → List ℕ → Bool
is_named name text = bytes_eq (str_to_ascii_lowercase text) (str_to_ascii_lowercase name)

abbrev pub value_if_named : List ℕ → List ℕ × List ℕ → Option (List ℕ)
value_if_named name parameter = if is_named name parameter.0 then Some parameter.1 else None

-- the last value with this name
abbrev pub last_value : List ℕ → List (List ℕ × List ℕ) → Option (List ℕ)
last_value name [] = None
last_value name (parameter ∷ params) = option_or (last_value name params) (value_if_named name parameter)

abbrev pub with_realm : Option (List ℕ) → Option (List ℕ) → Result BearerChallenge ChallengeError
with_realm (Some realm) service = Ok (record { realm = realm; service = service })
with_realm None service = Err NoRealm

unfoldable pub bearer_of : Challenge → Result BearerChallenge ChallengeError
bearer_of challenge =
    if is_named (codes "bearer") challenge.scheme
    then with_realm (last_value (codes "realm") challenge.params) (last_value (codes "service") challenge.params)
    else Err OtherScheme

-- this challenge if it is valid, otherwise the first of those
abbrev pub first_bearer : List Challenge → Result BearerChallenge ChallengeError
first_bearer [] = Err NoBearer
first_bearer (challenge ∷ challenges) = result_or (bearer_of challenge) (first_bearer challenges)

-- a byte of a text: a tab, a space or visible ASCII
abbrev pub is_text_byte : ℕ → Bool
is_text_byte b = b == 9 || (nat_le 32 b && nat_le b 126)

abbrev pub is_text : List ℕ → Bool
is_text value = list_all is_text_byte value

-- the value, if it is text
abbrev pub text_of : List ℕ → Option (List ℕ)
text_of value = if is_text value then Some value else None

-- the first challenge of the scheme Bearer that has a realm, in a header's value
unfoldable pub in_header : List ℕ → Result BearerChallenge ChallengeError
in_header value = if is_text value then first_bearer (challenges_of value) else Err NotText

-- the result is out of memory, or this error
abbrev pub IsRefusal : Result BearerChallenge ChallengeError → ChallengeError → Type 0
IsRefusal answer WantOfMemory = Unit {0}
IsRefusal answer e = answer ≡ Err e
