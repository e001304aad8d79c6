-- Why a push of a manifest or of an image was refused.
use Rattle.std.specs.Prelude.{◌≡◌, ◌⊎◌, ℕ, List, [], ◌∷◌, ◌++◌, Option, Some, None, map}
use Rattle.std.specs.List.{Contains}
use Rattle.oci_manifests.specs.declared.blob.Config.{Config}
use Rattle.oci_manifests.specs.declared.blob.ImageLayer.{ImageLayer}
use Rattle.oci_names.specs.declared.reference.Reference.{Reference}
use Rattle.oci_transport.specs.declared.message.Exchange.{Exchange}
use Rattle.oci_transport.specs.declared.message.Method.{Method}
use Rattle.oci_transport.specs.declared.message.Method.TheVariants.{Put}
use Rattle.engine_terms.specs.declared.error.OciDistributionError.{OciDistributionError}
use Rattle.engine_terms.specs.declared.error.OciDistributionError.TheVariants as refusal
use Rattle.engine_terms.specs.declared.settings.Settings.{Settings}
use Rattle.engine_requests.specs.Addresses.{registry_text, manifest_text}
use Rattle.engine_rows.specs.Causes.{BadHeader}
use Rattle.engine_rows.specs.Held.{Entry}
use Rattle.push_rows.specs.Causes.{of_upload, PushText, PushCause, OfNothing}

-- the request of a manifest, and the status that it expects
abbrev pub of_manifest : Method → Option ℕ
of_manifest Put = Some 201
of_manifest _ = None

-- the URL of the registry or of the manifest is parsed
abbrev pub ManifestText : Settings → Reference → List Exchange → List ℕ → Type 0
ManifestText s image c text = (text ≡ registry_text s image) ⊎ (text ≡ manifest_text s image)

-- why a manifest of this content type was not pushed
abbrev pub ManifestPushCause : List ℕ → Entry → Settings → List Exchange → ℕ → OciDistributionError → Type 0
ManifestPushCause kind x s c now e =
    PushCause of_manifest (ManifestText s x.image) OfNothing (BadHeader x s kind) s c now e

-- the URL of the registry, of its uploads or of the manifest is parsed, or a location
abbrev pub ImageText : Settings → Reference → List Exchange → List ℕ → Type 0
ImageText s image c text = PushText s image c text ⊎ (text ≡ manifest_text s image)

-- a blob is empty, which can be refused
abbrev pub OfBlobs : List (List ℕ) → OciDistributionError → Type 0
OfBlobs blobs refusal.PushNoDataError = Contains blobs []
OfBlobs blobs _ = ⊥

-- the blobs of an image
abbrev pub blobs_of : List ImageLayer → Config → List (List ℕ)
blobs_of layers config = map (λ (layer : ImageLayer). layer.content) layers ++ config.content ∷ []

-- why an image was not pushed whose manifest has this content type
abbrev pub ImagePushCause : List (List ℕ) → List ℕ → Entry → Settings → List Exchange → ℕ → OciDistributionError → Type 0
ImagePushCause blobs kind x s c now e =
    PushCause of_upload (ImageText s x.image) (OfBlobs blobs) (BadHeader x s kind) s c now e
