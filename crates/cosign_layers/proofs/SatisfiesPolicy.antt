-- A layer satisfies the policy if and only if it is signed and each constraint accepts it.
use Rattle.std.proofs.Common.{◌≡◌, ◌↔◌, ◌&&◌, ◌<◌, ℕ, Bool, true, false, IsTrue, List, Option, Some, None, refl, sym, ap, ◌∙◌, Result, Ok, Err, IfOk, length}
use Rattle.std.proofs.lemmas.List.Folds.{Any-from_list_any, list_any-from_Any}
use Rattle.std.proofs.lemmas.List.Sums.{AllPass-from_list_all, list_all-from_AllPass}
use Rattle.std.specs.Option.{option_map_or}
use Rattle.base64.specs.Engines.{standard}
use Rattle.base64.specs.GeneralPurpose.{decoded_of}
use Rattle.cosign_parts.specs.Layer.{LayerOf, IsAboutImage}
use Rattle.cosign_layers.specs.Satisfying.{PolicyContext, CustomVerdict, signs, SignedUnder, is_signed, Signed, is_accepted, satisfies_policy, StandsFor, SatisfiesPolicy, text_of}
use Rattle.cosign_parts.specs.Trust.{Valid}
use Rattle.cosign_parts.specs.declared.certificate.CertificateSignature.{CertificateSignature}
use Rattle.cosign_parts.specs.declared.layer.SignatureLayer.{SignatureLayer}
use Rattle.cosign_layers.specs.declared.policy.PullPolicy.{PullPolicy}

under : (valid : Valid) (keys : List (List ℕ)) (c : Option CertificateSignature) (text bytes : List ℕ) → signs valid keys c text bytes ≡ true → SignedUnder valid keys c text bytes
under valid keys None text bytes e = Any-from_list_any _ keys e
under valid keys (Some c) text bytes e = e

signs_under : (valid : Valid) (keys : List (List ℕ)) (c : Option CertificateSignature) (text bytes : List ℕ) → SignedUnder valid keys c text bytes → signs valid keys c text bytes ≡ true
signs_under valid keys None text bytes h = list_any-from_Any _ keys h
signs_under valid keys (Some c) text bytes h = h

spelled_and : (o : Option (List ℕ)) (f : List ℕ → Bool) → option_map_or f o false ≡ true → (bytes : List ℕ) × (o ≡ Some bytes) × (f bytes ≡ true)
spelled_and None f e = cc
spelled_and (Some bytes) f e = (bytes, refl, e)

both : (a b : Bool) → (a && b) ≡ true → (a ≡ true) × (b ≡ true)
both true b e = (refl, e)
both false b e = cc

module _ {V : Type 0} {H : V → Type 0} (valid : Valid) (policy : PullPolicy V H) (own : CustomVerdict V H) (layer : SignatureLayer) where
  pub is_signed_exact : is_signed valid policy layer ≡ true → Signed valid policy layer
  is_signed_exact e =
      let found = spelled_and (decoded_of standard layer.signature) (signs valid policy.keys layer.certificate_signature (text_of layer)) e in
      record { bytes = found.0; spells = found.1; under = under _ _ layer.certificate_signature _ _ found.2 }

  pub signed_is : Signed valid policy layer → is_signed valid policy layer ≡ true
  signed_is s =
      ap (λ o. option_map_or (signs valid policy.keys layer.certificate_signature (text_of layer)) o false) s.spells
      ∙ signs_under _ _ layer.certificate_signature _ _ s.under

  pub supports : IsTrue (satisfies_policy valid policy own layer) → SatisfiesPolicy valid policy own layer
  unfolding satisfies_policy
  supports e =
      let two = both (is_signed valid policy layer) (is_accepted policy own layer) e in
      record { signed = is_signed_exact two.0; accepted = AllPass-from_list_all _ policy.constraints two.1 }

  pub stands_by : SatisfiesPolicy valid policy own layer → IsTrue (satisfies_policy valid policy own layer)
  unfolding satisfies_policy
  stands_by s =
      ap (λ b. b && is_accepted policy own layer) (signed_is s.signed)
      ∙ list_all-from_AllPass _ policy.constraints s.accepted

  pub answered : {E : Type 0} (result : Result Bool E) → IfOk result (λ b. b ≡ satisfies_policy valid policy own layer) → IfOk result (λ b. IsTrue b ↔ SatisfiesPolicy valid policy own layer)
  answered (Ok b) e = (λ t. supports (sym e ∙ t), λ s. e ∙ stands_by s)
  answered (Err x) e = tt

-- if the other conditions are given, the test decides whether the layer stands for an image
pub stands_for : {V : Type 0} {H : V → Type 0} (policy_context : PolicyContext V H) (layer : SignatureLayer) (d : List ℕ)
    → LayerOf policy_context.trust layer → IsAboutImage layer d → 0 < length policy_context.policy.constraints
    → IsTrue (satisfies_policy policy_context.trust.valid policy_context.policy policy_context.own layer) ↔ StandsFor policy_context d layer
stands_for policy_context layer d layer_of is_named constrained =
    (λ e. record { layer_of = layer_of; is_named = is_named; constrained = constrained; supports = supports _ _ _ layer e }, λ s. stands_by _ _ _ layer s.supports)
