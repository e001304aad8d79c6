-- Recorded cases: what to pull, under which policy, and what the registry responds with.
use Rattle.std.specs.Prelude.{ℕ, nat_lt, false, List, [], ◌∷◌, Option, Some, None, is_ok, IsOk, length, codes}
use Rattle.std.specs.FinMap.{empty}
use Rattle.serde_json.specs.Data.{Data}
use Rattle.json_values.specs.JsonText.{plain_json_of}
use Rattle.json_tables.specs.Reading.{◌>>=◌, text_of, bool_of, u64_of, list_of}
use Rattle.json_tables.specs.Member.{required, optional, at_name}
use Rattle.json_tables.specs.Objects.{only}
use Rattle.json_tables.specs.Bytes.{bytes_of}
use Rattle.oci_names.specs.Reference.{reference_of}
use Rattle.oci_auth.specs.declared.auth.RegistryAuth.TheVariants.{Anonymous}
use Rattle.engine_terms.specs.declared.settings.ClientProtocol.{ClientProtocol}
use Rattle.engine_terms.specs.declared.settings.ClientProtocol.TheVariants.{Https}
use Rattle.recorded_case.specs.Auth.{auth_of}
use Rattle.recorded_case.specs.Constraint.{constraint_of}
use Rattle.recorded_case.specs.Members.{unless_absent, number_of, passing, protocol_named}
use Rattle.recorded_case.specs.Platform.{platform_of}
use Rattle.recorded_case.specs.Registry.{registry_of, Leads}
use Rattle.recorded_case.specs.Trust.{signature_of, judge_of, judge_by, log_keys_of}
use Rattle.recorded_case.specs.declared.case.Case.{Case}

-- a string that parses as a reference
unfoldable pub reference_text_of : Data → Option (List ℕ)
reference_text_of d = text_of d >>= passing (λ text. is_ok (reference_of text))

unfoldable pub protocol_of : Data → Option ClientProtocol
protocol_of d = text_of d >>= protocol_named

-- a list with at least one moment
unfoldable pub moments_of : Data → Option (List ℕ)
moments_of d = list_of u64_of d >>= passing (λ moments. nat_lt 0 (length moments))

-- the members of a case
abbrev pub members : List (List ℕ)
members =
    codes "reference"
    ∷ codes "protocol"
    ∷ codes "auth"
    ∷ codes "accepted"
    ∷ codes "platform"
    ∷ codes "caching"
    ∷ codes "moments"
    ∷ codes "limit"
    ∷ codes "keys"
    ∷ codes "constraints"
    ∷ codes "log_keys"
    ∷ codes "signatures"
    ∷ codes "vouched"
    ∷ codes "answers"
    ∷ codes "shelf"
    ∷ []

-- An object with no other members. Members may be absent: the protocol (then `https`), the credentials (then
-- anonymous), the platform (then none, as with null), `caching` (then off), the limit of a body (then the client's
-- default), the keys of logs and the vouched certificates (then none). Exactly one of `answers` and `shelf` is
-- present.
unfoldable pub case_of : Data → Option Case
case_of d = do
  known ← only members d
  registry ← registry_of d
  reference ← required reference_text_of (codes "reference") d
  protocol ← at_name (unless_absent Https protocol_of) (codes "protocol") d
  auth ← at_name (unless_absent Anonymous auth_of) (codes "auth") d
  accepted ← required (list_of text_of) (codes "accepted") d
  platform ← optional platform_of (codes "platform") d
  caching ← at_name (unless_absent false bool_of) (codes "caching") d
  moments ← required moments_of (codes "moments") d
  limit ← at_name (unless_absent None number_of) (codes "limit") d
  keys ← required (list_of bytes_of) (codes "keys") d
  constraints ← required (list_of constraint_of) (codes "constraints") d
  log_keys ← at_name (unless_absent empty log_keys_of) (codes "log_keys") d
  signatures ← required (list_of signature_of) (codes "signatures") d
  vouched ← at_name (unless_absent (judge_by []) judge_of) (codes "vouched") d
  Some (record {
    reference = reference;
    protocol = protocol;
    auth = auth;
    accepted = accepted;
    platform = platform;
    caching = caching;
    moments = moments;
    limit = limit;
    keys = keys;
    constraints = constraints;
    log_keys = log_keys;
    signatures = signatures;
    vouched = vouched;
    registry = registry;
  })

-- the case in a JSON text without floats
abbrev pub case_in : List ℕ → Option Case
case_in bytes = plain_json_of bytes >>= case_of

-- its reference parses, and the redirects of its shelf all end
abbrev pub IsReady : Case → Type 0
IsReady case = IsOk (reference_of case.reference) × Leads case.registry
