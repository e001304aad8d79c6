-- The calls for the log itself (Rekor's API).
use Rattle.std.specs.Prelude.{ℕ, List, [], ◌∷◌, ◌++◌, Option, Some, None, codes}
use Rattle.std.specs.Fmt.{decimal}
use Rattle.serde_json.specs.Data.{Data}
use Rattle.oci_transport.specs.declared.message.Method.TheVariants.{Get}
use Rattle.sig_services.specs.Exchange.{Row}
use Rattle.sig_services.specs.Body.{text_body, json_body}
use Rattle.sig_services.specs.Call.{call}
use Rattle.sig_services.specs.Request.{queried}
use Rattle.sig_services.specs.Entities.{public_key_error, log_info_error, log_proof_error}
use Rattle.sig_services.specs.declared.configuration.Configuration.{Configuration}
use Rattle.sig_services.specs.declared.error.Error.{Error}
use Rattle.sig_services.specs.declared.entities.GetPublicKeyError.{GetPublicKeyError}
use Rattle.sig_services.specs.declared.entities.GetLogInfoError.{GetLogInfoError}
use Rattle.sig_services.specs.declared.entities.GetLogProofError.{GetLogProofError}

-- a field of a form, if its value is given
abbrev pub field : List ℕ → Option (List ℕ) → List (List ℕ × List ℕ)
field name (Some value) = (name, value) ∷ []
field name None = []

abbrev pub key_path : Option (List ℕ) → List ℕ
key_path (Some tree) = queried (codes "/log/publicKey") ((codes "treeID", tree) ∷ [])
key_path None = codes "/log/publicKey"

abbrev pub proof_path : ℕ → Option (List ℕ) → Option (List ℕ) → List ℕ
proof_path last first tree = queried (codes "/log/proof")
    (field (codes "firstSize") first ++ (codes "lastSize", decimal last) ∷ field (codes "treeID") tree)

abbrev pub get_public_key : Configuration → Option (List ℕ) → Row (Error GetPublicKeyError) (List ℕ)
get_public_key c tree = call text_body public_key_error c Get (key_path tree) None

abbrev pub get_log_info : Configuration → Row (Error GetLogInfoError) Data
get_log_info c = call json_body log_info_error c Get (codes "/log") None

abbrev pub get_log_proof : Configuration → ℕ → Option (List ℕ) → Option (List ℕ) → Row (Error GetLogProofError) Data
get_log_proof c last first tree = call json_body log_proof_error c Get (proof_path last first tree) None
