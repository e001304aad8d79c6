-- A push of signatures.
use Rattle.std.specs.Prelude.{◌≡◌, ◌⊎◌, List, Option, Some, Result, Err}
use Rattle.oci_transport.specs.Link.{Link}
use Rattle.oci_names.specs.declared.reference.Reference.{Reference}
use Rattle.oci_auth.specs.declared.auth.RegistryAuth.{RegistryAuth}
use Rattle.oci_protocol.specs.Runs.{Meets}
use Rattle.engine_terms.specs.Contexts.{Context}
use Rattle.push_rows.specs.declared.responses.PushResponse.{PushResponse}
use Rattle.registry_calls.specs.Calls.{push_call}
use Rattle.registry_calls.specs.Clients.{Kept}
use Rattle.registry_calls.specs.Error.{is_memory}
use Rattle.registry_calls.specs.declared.error.SigstoreError.{SigstoreError}
use Rattle.registry_calls.specs.declared.error.SigstoreError.TheVariants.{WantOfMemory}
use Rattle.cosign_parts.specs.Shown.{Notes}
use Rattle.cosign_parts.specs.declared.layer.SignatureLayer.{SignatureLayer}
use Rattle.cosign_client.specs.Signature.{IsSignatureImage}
use Rattle.cosign_client.specs.declared.signature.SignatureImage.{SignatureImage}

-- the call pushes the image of these signature layers, and sends nothing else
pub record PushesImage (found : List SignatureLayer) (annotations : Option Notes) (s : Context) (image : Reference)
    (a : RegistryAuth) (before after : Kept) (old new : Link) (r : Result PushResponse SigstoreError) : Type 0 where
  pub pushed : SignatureImage
  pub built : IsSignatureImage found annotations pushed
  pub met : Meets is_memory (push_call s image pushed.layers pushed.config a (Some pushed.manifest))
      old new before after r

-- memory ran out before anything was sent, and nothing changed
pub record IsUnsent (before after : Kept) (old new : Link) (r : Result PushResponse SigstoreError) : Type 0 where
  pub sent : new ≡ old
  pub kept : after ≡ before
  pub memory : r ≡ Err WantOfMemory

abbrev pub PushesSignatures : List SignatureLayer → Option Notes → Context → Reference → RegistryAuth
    → Kept → Kept → Link → Link → Result PushResponse SigstoreError → Type 0
PushesSignatures found annotations s image a before after old new r =
    PushesImage found annotations s image a before after old new r ⊎ IsUnsent before after old new r
