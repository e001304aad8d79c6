-- How long a token is stored (RFC 7519, 4.1.4, for the member `exp`).
use Rattle.std.specs.Prelude.{ℕ, ◌+◌, ◌-◌, ◌^◌, ◌==◌, List, [], ◌∷◌, codes, min, Option, Some, None, option_map}
use Rattle.std.specs.Prelude.{unwrap_or}
use Rattle.std.specs.List.{slice_split}
use Rattle.base64.specs.Engines.{url_safe_no_pad}
use Rattle.base64.specs.GeneralPurpose.{decoded_of}
use Rattle.serde_json.specs.Data.{Data}
use Rattle.serde_json.specs.Find.{as_object}
use Rattle.json_values.specs.JsonText.{plain_json_of}
use Rattle.json_tables.specs.Reading.{u64_of, ◌>>=◌}
use Rattle.json_tables.specs.Member.{optional}

-- a sum of moments, saturating at `u64::MAX`
abbrev pub later : ℕ → ℕ → ℕ
later moment seconds = min (moment + seconds) (2 ^ 64 - 1)

abbrev pub middle : List (List ℕ) → Option (List ℕ)
middle (first ∷ payload ∷ last ∷ []) = Some payload
middle parts = None

-- the parts between the dots
abbrev pub parts_of : List ℕ → List (List ℕ)
parts_of text = slice_split (λ b. b == 46) text

-- the middle part, if the text has exactly three parts
abbrev pub payload_in : List ℕ → Option (List ℕ)
payload_in text = middle (parts_of text)

-- the expiration in an object, if it has one: an integer, which may be missing or null
abbrev pub named_expiration : Data → Option (Option ℕ)
named_expiration d = as_object d >>= λ members. optional u64_of (codes "exp") d

-- the same for a payload: unpadded URL-safe base64 (RFC 4648, 5) of JSON without floats
abbrev pub claimed_expiration : List ℕ → Option (Option ℕ)
claimed_expiration payload =
    decoded_of url_safe_no_pad payload >>= plain_json_of >>= named_expiration

-- a token without exactly three parts has the default life; one of three parts expires when its payload says so, but
-- after at most a day
abbrev pub expiration_by : Option (List ℕ) → ℕ → ℕ → Option ℕ
expiration_by None default moment = Some (later moment default)
expiration_by (Some payload) default moment =
    option_map
    (λ named. min (unwrap_or named (later moment default)) (later moment 86400))
    (claimed_expiration payload)

abbrev pub expiration_of : List ℕ → ℕ → ℕ → Option ℕ
expiration_of text default moment = expiration_by (payload_in text) default moment
