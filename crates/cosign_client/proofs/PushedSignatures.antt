-- The outcomes of a push of signatures.
use Rattle.std.proofs.Common.{◌≡◌, inl, inr, ℕ, List, [], Option, Some, Result, Err, refl, ap, ◌∙◌}
use Rattle.std.specs.Result.{IsErrAnd}
use Rattle.std.proofs.lemmas.Result.{err_from_is_err_and}
use Rattle.oci_transport.specs.Link.{Link}
use Rattle.oci_names.specs.declared.reference.Reference.{Reference}
use Rattle.oci_auth.specs.declared.auth.RegistryAuth.{RegistryAuth}
use Rattle.oci_auth.specs.declared.auth_state.AuthState.{AuthState}
use Rattle.oci_auth.specs.declared.token_type.RegistryOperation.TheVariants.{Push}
use Rattle.oci_protocol.specs.Runs.{Meets, Told}
use Rattle.oci_protocol.proofs.Conversations.{Extends-none}
use Rattle.engine_terms.specs.Contexts.{Context, within}
use Rattle.engine_terms.specs.declared.settings.Settings.{Settings}
use Rattle.engine_rows.specs.Confined.{Within}
use Rattle.engine_rows.specs.Held.{asking}
use Rattle.push_rows.specs.declared.responses.PushResponse.{PushResponse}
use Rattle.registry_calls.specs.Calls.{push_call}
use Rattle.registry_calls.specs.Clients.{Kept}
use Rattle.registry_calls.specs.Error.{is_memory}
use Rattle.registry_calls.specs.declared.error.SigstoreError.{SigstoreError}
use Rattle.registry_calls.specs.declared.error.SigstoreError.TheVariants.{WantOfMemory}
use Rattle.cosign_parts.specs.Shown.{Notes}
use Rattle.cosign_parts.specs.declared.layer.SignatureLayer.{SignatureLayer}
use Rattle.cosign_client.specs.Signature.{IsSignatureImage}
use Rattle.cosign_client.specs.PushedSignatures.{PushesSignatures}
use Rattle.cosign_client.specs.declared.signature.SignatureImage.{SignatureImage}

-- nothing was sent
pub nothing_pushed : (k : AuthState) (moment : ℕ) (image : Reference) (handed : Option RegistryAuth) (t : Settings) (link : Link) → Told (Within (asking k (within t moment) image Push handed) t k) link link
nothing_pushed k moment image handed t link = record {
  conversation = [];
  told = Extends-none link;
  holds = record { confined = tt; kept = λ key at token there. inl there; stored = λ registry a there. inl there };
}

pub unsent : (found : List SignatureLayer) (annotations : Option Notes) (s : Context) (image : Reference) (a : RegistryAuth) {k : Kept} {link : Link} (r : Result PushResponse SigstoreError) → IsErrAnd r (λ e. e ≡ WantOfMemory) → PushesSignatures found annotations s image a k k link link r
unsent found annotations s image a r is = let at = err_from_is_err_and r is in inr (record { sent = refl; kept = refl; memory = at.1 ∙ ap Err at.2 })

pub pushes : (found : List SignatureLayer) (annotations : Option Notes) (s : Context) (image : Reference) (a : RegistryAuth) (pushed : SignatureImage) {before after : Kept} {old new : Link} (r : Result PushResponse SigstoreError) → IsSignatureImage found annotations pushed → Meets is_memory (push_call s image pushed.layers pushed.config a (Some pushed.manifest)) old new before after r → PushesSignatures found annotations s image a before after old new r
pushes found annotations s image a pushed r built met = inl (record { pushed = pushed; built = built; met = met })
