-- The settings of a live pull.
use Rattle.std.specs.Prelude.{ℕ, false, List, [], ◌∷◌, ◌++◌, Option, Some, None, option_map, IsOk, codes}
use Rattle.std.specs.FinMap.{FinMap, empty}
use Rattle.serde_json.specs.Data.{Data}
use Rattle.json_values.specs.Places.{by_bytes}
use Rattle.json_tables.specs.Reading.{◌>>=◌, text_of, u64_of, bool_of, list_of, map_of}
use Rattle.json_tables.specs.Objects.{only}
use Rattle.json_tables.specs.Member.{required, optional, at_name}
use Rattle.json_tables.specs.Bytes.{base64_of}
use Rattle.oci_names.specs.Reference.{reference_of}
use Rattle.oci_auth.specs.declared.auth.RegistryAuth.TheVariants.{Anonymous}
use Rattle.engine_terms.specs.declared.settings.ClientProtocol.TheVariants.{Https}
use Rattle.recorded_case.specs.Auth.{auth_of}
use Rattle.recorded_case.specs.Case.{reference_text_of, protocol_of}
use Rattle.recorded_case.specs.Constraint.{constraint_of}
use Rattle.recorded_case.specs.Members.{unless_absent, number_of}
use Rattle.recorded_case.specs.Platform.{platform_of}
use Rattle.recorded_case.specs.declared.constraint.WrittenConstraint.{WrittenConstraint}
use Rattle.recorded_case.specs.declared.constraint.WrittenConstraint.TheVariants.{Statements}
use Rattle.live_host.specs.Names.{frame_named}
use Rattle.live_pull.specs.declared.settings.LiveSettings.{LiveSettings}

-- the members of the settings
abbrev pub members : List (List ℕ)
members =
    codes "reference"
    ∷ codes "protocol"
    ∷ codes "auth"
    ∷ codes "accepted"
    ∷ codes "platform"
    ∷ codes "moment"
    ∷ codes "limit"
    ∷ codes "keys"
    ∷ codes "constraints"
    ∷ codes "log_keys"
    ∷ codes "statements"
    ∷ codes "blobs"
    ∷ codes "frame"
    ∷ []

-- the bytes of a key
unfoldable pub key_of : Data → Option (List ℕ)
key_of d = base64_of d

abbrev pub keys_of : Data → Option (List (List ℕ))
keys_of = list_of key_of

abbrev pub log_keys_of : Data → Option (FinMap by_bytes (List ℕ))
log_keys_of = map_of key_of

-- which statements bundles may sign, for a member that may be absent
abbrev pub statements_of : Data → Option (Option (List (List ℕ)))
statements_of d = option_map Some (list_of text_of d)

-- the constraints, and the one on statements if there is one
abbrev pub with_statements : List WrittenConstraint → Option (List (List ℕ)) → List WrittenConstraint
with_statements constraints None = constraints
with_statements constraints (Some types) = constraints ++ Statements types ∷ []

-- The frame `settings`, with no other members. They mean the same as those of a recorded case, but keys are base64
-- strings. `statements` are the types of predicates of which a bundle's statement must have one, and `blobs` is whether
-- the blobs of layers are sent.
unfoldable pub settings_of : Data → Option LiveSettings
settings_of d = do
  known ← only members d
  name ← frame_named (codes "settings") d
  reference ← required reference_text_of (codes "reference") d
  protocol ← at_name (unless_absent Https protocol_of) (codes "protocol") d
  auth ← at_name (unless_absent Anonymous auth_of) (codes "auth") d
  accepted ← required (list_of text_of) (codes "accepted") d
  platform ← optional platform_of (codes "platform") d
  moment ← required u64_of (codes "moment") d
  limit ← at_name (unless_absent None number_of) (codes "limit") d
  keys ← required keys_of (codes "keys") d
  constraints ← required (list_of constraint_of) (codes "constraints") d
  log_keys ← at_name (unless_absent empty log_keys_of) (codes "log_keys") d
  statements ← at_name (unless_absent None statements_of) (codes "statements") d
  blobs ← required bool_of (codes "blobs") d
  Some (record {
    reference = reference;
    protocol = protocol;
    auth = auth;
    accepted = accepted;
    platform = platform;
    moment = moment;
    limit = limit;
    keys = keys;
    constraints = with_statements constraints statements;
    log_keys = log_keys;
    blobs = blobs;
  })

-- The frame `documents`, with no other members: those of the settings but `blobs`. No blob is sent.
abbrev pub document_members : List (List ℕ)
document_members =
    codes "reference"
    ∷ codes "protocol"
    ∷ codes "auth"
    ∷ codes "accepted"
    ∷ codes "platform"
    ∷ codes "moment"
    ∷ codes "limit"
    ∷ codes "keys"
    ∷ codes "constraints"
    ∷ codes "log_keys"
    ∷ codes "statements"
    ∷ codes "frame"
    ∷ []

unfoldable pub documents_of : Data → Option LiveSettings
documents_of d = do
  known ← only document_members d
  name ← frame_named (codes "documents") d
  reference ← required reference_text_of (codes "reference") d
  protocol ← at_name (unless_absent Https protocol_of) (codes "protocol") d
  auth ← at_name (unless_absent Anonymous auth_of) (codes "auth") d
  accepted ← required (list_of text_of) (codes "accepted") d
  platform ← optional platform_of (codes "platform") d
  moment ← required u64_of (codes "moment") d
  limit ← at_name (unless_absent None number_of) (codes "limit") d
  keys ← required keys_of (codes "keys") d
  constraints ← required (list_of constraint_of) (codes "constraints") d
  log_keys ← at_name (unless_absent empty log_keys_of) (codes "log_keys") d
  statements ← at_name (unless_absent None statements_of) (codes "statements") d
  Some (record {
    reference = reference;
    protocol = protocol;
    auth = auth;
    accepted = accepted;
    platform = platform;
    moment = moment;
    limit = limit;
    keys = keys;
    constraints = with_statements constraints statements;
    log_keys = log_keys;
    blobs = false;
  })

-- its reference parses
abbrev pub IsReady : LiveSettings → Type 0
IsReady settings = IsOk (reference_of settings.reference)
