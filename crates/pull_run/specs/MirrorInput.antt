-- The input of `mirror`: an image, and where it is mirrored to.
use Rattle.std.specs.Prelude.{◌≡◌, ℕ, Bool, true, false, List, [], ◌∷◌, length, Option, Some, IsOk, codes}
use Rattle.serde_json.specs.Data.{Data}
use Rattle.json_values.specs.JsonText.{plain_json_of}
use Rattle.json_tables.specs.Member.{required, at_name}
use Rattle.json_tables.specs.Objects.{only}
use Rattle.json_tables.specs.Reading.{◌>>=◌, list_of}
use Rattle.oci_names.specs.Reference.{reference_of}
use Rattle.oci_auth.specs.declared.auth.RegistryAuth.TheVariants.{Anonymous}
use Rattle.engine_terms.specs.declared.settings.ClientProtocol.TheVariants.{Https}
use Rattle.recorded_case.specs.Answer.{answer_of}
use Rattle.recorded_case.specs.Auth.{auth_of}
use Rattle.recorded_case.specs.Case.{case_of, protocol_of, reference_text_of, IsReady}
use Rattle.recorded_case.specs.Members.{passing, unless_absent}
use Rattle.recorded_case.specs.declared.case.Case.{Case}
use Rattle.pull_run.specs.declared.mirror_input.MirrorInput.{MirrorInput}
use Rattle.pull_run.specs.declared.mirror_input.Target.{Target}

-- the members of a target
abbrev pub target_members : List (List ℕ)
target_members = codes "reference" ∷ codes "protocol" ∷ codes "auth" ∷ codes "answers" ∷ []

-- An object with no other members, each as in a case: the protocol (then `https`) and the credentials (then anonymous)
-- may be absent.
unfoldable pub target_of : Data → Option Target
target_of d = do
  known ← only target_members d
  reference ← required reference_text_of (codes "reference") d
  protocol ← at_name (unless_absent Https protocol_of) (codes "protocol") d
  auth ← at_name (unless_absent Anonymous auth_of) (codes "auth") d
  answers ← required (list_of answer_of) (codes "answers") d
  Some (record { reference = reference; protocol = protocol; auth = auth; answers = answers })

abbrev pub has_one : List ℕ → Bool
has_one (moment ∷ []) = true
has_one moments = false

abbrev pub once_only : Case → Option Case
once_only case = passing (λ c. has_one c.moments) case

-- a case with one moment
unfoldable pub source_of : Data → Option Case
source_of d = case_of d >>= once_only

-- a case and a target; no other members
unfoldable pub mirror_input_of : Data → Option MirrorInput
mirror_input_of d = do
  known ← only (codes "case" ∷ codes "target" ∷ []) d
  target ← required target_of (codes "target") d
  case ← required source_of (codes "case") d
  Some (record { case = case; target = target })

-- the case and the target in a JSON text without floats
abbrev pub mirror_input_in : List ℕ → Option MirrorInput
mirror_input_in bytes = plain_json_of bytes >>= mirror_input_of

-- the case can be pulled once, and the reference of the target parses
pub record IsForMirror (input : MirrorInput) : Type 0 where
  pub ready : IsReady input.case
  pub once : length input.case.moments ≡ 1
  pub target : IsOk (reference_of input.target.reference)
