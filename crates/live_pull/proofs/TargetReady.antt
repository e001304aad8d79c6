-- A property of all targets: the reference parses.
use Rattle.std.proofs.Common.{◌≡◌, Option, Some, None, IfSome, subst, codes}
use Rattle.std.specs.Prelude.{IsOk}
use Rattle.serde_json.specs.Data.{Data}
use Rattle.serde_json.specs.Find.{get}
use Rattle.json_tables.specs.Reading.{◌>>=◌}
use Rattle.json_tables.specs.Objects.{only}
use Rattle.json_tables.specs.Member.{required, at_name}
use Rattle.oci_names.specs.Reference.{reference_of}
use Rattle.oci_auth.specs.declared.auth.RegistryAuth.TheVariants.{Anonymous}
use Rattle.engine_terms.specs.declared.settings.ClientProtocol.TheVariants.{Https}
use Rattle.recorded_case.specs.Auth.{auth_of}
use Rattle.recorded_case.specs.Case.{reference_text_of, protocol_of}
use Rattle.recorded_case.specs.Members.{unless_absent}
use Rattle.recorded_case.proofs.CaseParts.{reads_as_reference, through}
use Rattle.live_pull.specs.Target.{target_members, target_of}
use Rattle.live_pull.specs.declared.target.TargetSettings.{TargetSettings}

abbrev HasRead : Data → TargetSettings → Type 0
HasRead d target = required reference_text_of (codes "reference") d ≡ Some target.reference

reference_is : (d : Data) → IfSome (target_of d) (HasRead d)
unfolding target_of
reference_is d =
    through (HasRead d) (only target_members d) _ (λ known _.
    through (HasRead d) (required reference_text_of (codes "reference") d) _ (λ reference is_reference.
    through (HasRead d) (at_name (unless_absent Https protocol_of) (codes "protocol") d) _ (λ protocol _.
    through (HasRead d) (at_name (unless_absent Anonymous auth_of) (codes "auth") d) _ (λ auth _.
    is_reference))))

target_by : (d : Data) (o : Option TargetSettings) (target : TargetSettings) → o ≡ Some target → IfSome o (HasRead d) → IsOk (reference_of target.reference)
target_by d None target is h = absurd (cc is)
target_by d (Some found) target is h = reads_as_reference (get (codes "reference") d) target.reference (subst (HasRead d) (some_is is) h) where
  some_is : Some found ≡ Some target → found ≡ target
  some_is e = cc e

pub target_ready : (o : Option Data) (target : TargetSettings) → (o >>= target_of) ≡ Some target → IsOk (reference_of target.reference)
target_ready None target is = absurd (cc is)
target_ready (Some d) target is = target_by d (target_of d) target is (reference_is d)
