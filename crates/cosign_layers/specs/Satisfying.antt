-- Which layers are signed and accepted under a policy.
use Rattle.std.specs.Prelude.{◌≡◌, ℕ, Bool, IsTrue, ◌&&◌, ◌<◌, List, length, Option, Some, None, false}
use Rattle.std.specs.List.{list_all, list_any, Any, All}
use Rattle.std.specs.Option.{option_map_or}
use Rattle.std.specs.declared.alloc.Global.{Global}
use Rattle.std.specs.declared.dyn_box.DynBox.{DynBox}
use Rattle.base64.specs.Engines.{standard}
use Rattle.base64.specs.GeneralPurpose.{decoded_of}
use Rattle.cosign_layers.specs.Constraint.{accepts}
use Rattle.cosign_parts.specs.Layer.{LayerOf, IsAboutImage}
use Rattle.cosign_parts.specs.Envelope.{signed_text}
use Rattle.cosign_parts.specs.Trust.{Trust, Valid}
use Rattle.cosign_parts.specs.declared.certificate.CertificateSignature.{CertificateSignature}
use Rattle.cosign_parts.specs.declared.layer.SignatureLayer.{SignatureLayer}
use Rattle.cosign_layers.specs.declared.policy.PullPolicy.{PullPolicy}

-- what the caller passes in: the policy, the verdicts of custom constraints, and whom the reader of layers trusts
pub record PolicyContext (V : Type 0) (H : V → Type 0) : Type 0 where
  pub policy : PullPolicy V H
  pub own : DynBox V Global H → SignatureLayer → Bool
  pub trust : Trust

abbrev pub policy_context : {V : Type 0} {H : V → Type 0} → PullPolicy V H → (DynBox V Global H → SignatureLayer → Bool)
    → Trust → PolicyContext V H
policy_context policy own trust = record { policy = policy; own = own; trust = trust }

-- whether these bytes sign the text under the certificate's key or, without a certificate, under one of the keys
abbrev pub signs : Valid → List (List ℕ) → Option CertificateSignature → List ℕ → List ℕ → Bool
signs valid keys None text bytes = list_any (λ key. valid key text bytes) keys
signs valid keys (Some c) text bytes = valid c.vouched.key text bytes

-- the same as a proposition
abbrev pub SignedUnder : Valid → List (List ℕ) → Option CertificateSignature → List ℕ → List ℕ → Type 0
SignedUnder valid keys None text bytes = Any (λ key. IsTrue (valid key text bytes)) keys
SignedUnder valid keys (Some c) text bytes = IsTrue (valid c.vouched.key text bytes)

-- the text that the layer's signature signs
abbrev pub text_of : SignatureLayer → List ℕ
text_of layer = signed_text layer.kind layer.content

-- whether the layer's signature decodes to bytes that sign its text under the certificate's key, or one of these
abbrev pub is_signed_by : Valid → List (List ℕ) → SignatureLayer → Bool
is_signed_by valid keys layer =
    option_map_or (signs valid keys layer.certificate_signature (text_of layer))
    (decoded_of standard layer.signature) false

-- the same under one of the policy's keys
abbrev pub is_signed : {V : Type 0} {H : V → Type 0} → Valid → PullPolicy V H → SignatureLayer → Bool
is_signed valid policy layer = is_signed_by valid policy.keys layer

-- the layer's signature decodes to bytes that sign its text, under the certificate's key or one of the policy's
pub record Signed {V : Type 0} {H : V → Type 0} (valid : Valid) (policy : PullPolicy V H) (layer : SignatureLayer)
    : Type 0 where
  pub bytes : List ℕ
  pub spells : decoded_of standard layer.signature ≡ Some bytes
  pub under : SignedUnder valid policy.keys layer.certificate_signature (text_of layer) bytes

-- the verdicts of custom constraints
abbrev pub CustomVerdict : (V : Type 0) → (V → Type 0) → Type 0
CustomVerdict V H = DynBox V Global H → SignatureLayer → Bool

-- whether each constraint of the policy accepts the layer
abbrev pub is_accepted : {V : Type 0} {H : V → Type 0} → PullPolicy V H → CustomVerdict V H → SignatureLayer → Bool
is_accepted policy own layer = list_all (λ c. accepts own c layer) policy.constraints

-- whether the layer is signed and accepted
unfoldable pub satisfies_policy : {V : Type 0} {H : V → Type 0} → Valid → PullPolicy V H → CustomVerdict V H
    → SignatureLayer → Bool
satisfies_policy valid policy own layer = is_signed valid policy layer && is_accepted policy own layer

-- the layer is signed, and each constraint accepts it
pub record SatisfiesPolicy {V : Type 0} {H : V → Type 0} (valid : Valid) (policy : PullPolicy V H)
    (own : CustomVerdict V H)
    (layer : SignatureLayer) : Type 0 where
  pub signed : Signed valid policy layer
  pub accepted : All (λ c. IsTrue (accepts own c layer)) policy.constraints

-- the layer stands for the image: it is what its bytes state, is about the image, is signed, and is accepted by each
-- constraint of a policy that has at least one
pub record StandsFor {V : Type 0} {H : V → Type 0} (policy_context : PolicyContext V H) (d : List ℕ)
    (layer : SignatureLayer) : Type 0 where
  pub layer_of : LayerOf policy_context.trust layer
  pub is_named : IsAboutImage layer d
  pub constrained : 0 < length policy_context.policy.constraints
  pub supports : SatisfiesPolicy policy_context.trust.valid policy_context.policy policy_context.own layer
