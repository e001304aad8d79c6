-- What the parts of an image lead to.
use Rattle.std.proofs.Common.{◌≡◌, ℕ, List, Some, Result, Ok, Err}
use Rattle.std.specs.Result.{IsErrAnd}
use Rattle.std.proofs.lemmas.Result.{err_from_is_err_and}
use Rattle.oci_names.specs.declared.reference.Reference.{Reference}
use Rattle.oci_auth.specs.declared.auth_state.AuthState.{AuthState}
use Rattle.oci_manifests.specs.declared.manifest.OciImageManifest.{OciImageManifest}
use Rattle.oci_protocol.specs.Proto.{Done}
use Rattle.oci_protocol.specs.Runs.{Meets}
use Rattle.oci_transport.specs.Link.{Link}
use Rattle.engine_terms.specs.Contexts.{Context}
use Rattle.engine_terms.specs.Error.{is_memory}
use Rattle.engine_terms.specs.declared.error.OciDistributionError.{OciDistributionError}
use Rattle.engine_rows.specs.Rows.{Row}
use Rattle.engine_rows.specs.declared.image.ImageData.{ImageData}
use Rattle.engine_pull.specs.Parts.{Parts, with_parts, LeadsTo}

-- the image that the parts form, with its manifest and the digest of that
abbrev pub image_with : OciImageManifest → List ℕ → Parts → Row ImageData
image_with manifest digest parts = Done (Ok (record { layers = parts.1; digest = Some digest; config = parts.0; manifest = Some manifest }))

pub parts_refused : (s : Context) (image : Reference) (accepted : List (List ℕ)) (manifest : OciImageManifest) (next : Parts → Row ImageData) {old new : Link} {k l : AuthState} {e : OciDistributionError} (r : Result Parts OciDistributionError)
    → IsErrAnd r (λ x. x ≡ e) → Meets is_memory (with_parts s image accepted manifest next) old new k l (Err e) → LeadsTo s image accepted manifest old new k l r next
parts_refused s image accepted manifest next r is met = let at = err_from_is_err_and r is in rw (at.1, at.2) met
