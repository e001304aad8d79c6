-- A property of all settings: their reference parses.
use Rattle.std.proofs.Common.{◌≡◌, Option, Some, None, IfSome, subst, codes}
use Rattle.std.specs.FinMap.{empty}
use Rattle.serde_json.specs.Data.{Data}
use Rattle.serde_json.specs.Find.{get}
use Rattle.json_tables.specs.Reading.{text_of, u64_of, bool_of, list_of}
use Rattle.json_tables.specs.Objects.{only}
use Rattle.json_tables.specs.Member.{required, optional, at_name}
use Rattle.oci_auth.specs.declared.auth.RegistryAuth.TheVariants.{Anonymous}
use Rattle.engine_terms.specs.declared.settings.ClientProtocol.TheVariants.{Https}
use Rattle.recorded_case.specs.Auth.{auth_of}
use Rattle.recorded_case.specs.Case.{reference_text_of, protocol_of}
use Rattle.recorded_case.specs.Constraint.{constraint_of}
use Rattle.recorded_case.specs.Members.{unless_absent, number_of}
use Rattle.recorded_case.specs.Platform.{platform_of}
use Rattle.recorded_case.proofs.CaseParts.{reads_as_reference, through}
use Rattle.live_host.specs.Names.{frame_named}
use Rattle.live_pull.specs.Settings.{IsReady, document_members, documents_of, keys_of, log_keys_of, members, settings_of, statements_of}
use Rattle.live_pull.specs.declared.settings.LiveSettings.{LiveSettings}

abbrev HasRead : Data → LiveSettings → Type 0
HasRead d settings = required reference_text_of (codes "reference") d ≡ Some settings.reference

reference_is : (d : Data) → IfSome (settings_of d) (HasRead d)
unfolding settings_of
reference_is d =
    through (HasRead d) (only members d) _ (λ known _.
    through (HasRead d) (frame_named (codes "settings") d) _ (λ name _.
    through (HasRead d) (required reference_text_of (codes "reference") d) _ (λ reference is_reference.
    through (HasRead d) (at_name (unless_absent Https protocol_of) (codes "protocol") d) _ (λ protocol _.
    through (HasRead d) (at_name (unless_absent Anonymous auth_of) (codes "auth") d) _ (λ auth _.
    through (HasRead d) (required (list_of text_of) (codes "accepted") d) _ (λ accepted _.
    through (HasRead d) (optional platform_of (codes "platform") d) _ (λ platform _.
    through (HasRead d) (required u64_of (codes "moment") d) _ (λ moment _.
    through (HasRead d) (at_name (unless_absent None number_of) (codes "limit") d) _ (λ limit _.
    through (HasRead d) (required keys_of (codes "keys") d) _ (λ keys _.
    through (HasRead d) (required (list_of constraint_of) (codes "constraints") d) _ (λ constraints _.
    through (HasRead d) (at_name (unless_absent empty log_keys_of) (codes "log_keys") d) _ (λ log_keys _.
    through (HasRead d) (at_name (unless_absent None statements_of) (codes "statements") d) _ (λ statements _.
    through (HasRead d) (required bool_of (codes "blobs") d) _ (λ blobs _.
    is_reference))))))))))))))

ready_by : (d : Data) (o : Option LiveSettings) (settings : LiveSettings) → o ≡ Some settings → IfSome o (HasRead d) → IsReady settings
ready_by d None settings is h = cc is
ready_by d (Some found) settings is h = reads_as_reference (get (codes "reference") d) settings.reference (subst (HasRead d) (some_is is) h) where
  some_is : Some found ≡ Some settings → found ≡ settings
  some_is e = cc e

pub ready : (d : Data) (settings : LiveSettings) → settings_of d ≡ Some settings → IsReady settings
ready d settings is = ready_by d (settings_of d) settings is (reference_is d)

document_reference_is : (d : Data) → IfSome (documents_of d) (HasRead d)
unfolding documents_of
document_reference_is d =
    through (HasRead d) (only document_members d) _ (λ known _.
    through (HasRead d) (frame_named (codes "documents") d) _ (λ name _.
    through (HasRead d) (required reference_text_of (codes "reference") d) _ (λ reference is_reference.
    through (HasRead d) (at_name (unless_absent Https protocol_of) (codes "protocol") d) _ (λ protocol _.
    through (HasRead d) (at_name (unless_absent Anonymous auth_of) (codes "auth") d) _ (λ auth _.
    through (HasRead d) (required (list_of text_of) (codes "accepted") d) _ (λ accepted _.
    through (HasRead d) (optional platform_of (codes "platform") d) _ (λ platform _.
    through (HasRead d) (required u64_of (codes "moment") d) _ (λ moment _.
    through (HasRead d) (at_name (unless_absent None number_of) (codes "limit") d) _ (λ limit _.
    through (HasRead d) (required keys_of (codes "keys") d) _ (λ keys _.
    through (HasRead d) (required (list_of constraint_of) (codes "constraints") d) _ (λ constraints _.
    through (HasRead d) (at_name (unless_absent empty log_keys_of) (codes "log_keys") d) _ (λ log_keys _.
    through (HasRead d) (at_name (unless_absent None statements_of) (codes "statements") d) _ (λ statements _.
    is_reference)))))))))))))

pub documents_ready : (d : Data) (settings : LiveSettings) → documents_of d ≡ Some settings → IsReady settings
documents_ready d settings is = ready_by d (documents_of d) settings is (document_reference_is d)
