-- Whether the signature layer of an entry stands for its digest.
use Rattle.std.proofs.Common.{◌≡◌, ◌↔◌, ◌<◌, ℕ, Bool, true, false, IsTrue, zero, suc, List, length, MatchBool, refl, sym, ap, subst, ◌∙◌, arith}
use Rattle.std.specs.Prelude.{◌==◌}
use Rattle.std.proofs.lemmas.Bool.{eqb-true}
use Rattle.cosign_layers.specs.Checks.{Input}
use Rattle.cosign_layers.specs.Read.{Gives, HasOneOutcome, Rejected, RejectedUnlessMemory, input_of as input_of_layer}
use Rattle.cosign_layers.specs.Rejection.{is_memory}
use Rattle.cosign_layers.specs.Satisfying.{PolicyContext, StandsFor, SatisfiesPolicy}
use Rattle.cosign_parts.specs.Trust.{Trust}
use Rattle.cosign_parts.specs.declared.layer.SignatureLayer.{SignatureLayer}
use Rattle.cosign_layers.specs.declared.rejection.LayerRejection.{LayerRejection}
use Rattle.pull_lock.specs.Locked.{locked_signature}
use Rattle.pull_lock.specs.Tests.{IsSigned, input_with, input_of}
use Rattle.pull_lock.specs.declared.lock.LockEntry.{LockEntry}
use Rattle.pull_lock.specs.declared.lock.LockedSignature.{LockedSignature}

-- the written form of an input
abbrev pub written : Input → LockedSignature
written i = record { kind = i.kind; oci_digest = i.oci_digest; content = i.content; annotations = i.annotations }

-- a layer that stands for the digest is what the entry's bytes give
given : {V : Type 0} {H : V → Type 0} (m : PolicyContext V H) (e : LockEntry) → (s : IsSigned m e) → Gives m.trust e.digest (input_of e.signature) s.layer
given m e s = record { from = ap input_of (sym s.is); layer_of = s.stands.layer_of; is_named = s.stands.is_named }

-- without a constraint, no layer stands for it
pub unconstrained : {V : Type 0} {H : V → Type 0} (m : PolicyContext V H) (e : LockEntry) {X : Type 0} (xs : List X) → length xs ≡ length m.policy.constraints → true ≡ (length xs == 0)
    → IsTrue false ↔ IsSigned m e
unconstrained m e xs same none = (
  λ h. absurd (cc h),
  λ s.
      let less : 0 < length m.policy.constraints = s.stands.constrained in
      let zero : length xs ≡ 0 = eqb-true (length xs) 0 (sym none) in
      absurd (omega (arith, less, zero, same)),
)

-- the layer that was read stands for it if and only if it satisfies the policy
signed_as : {V : Type 0} {H : V → Type 0} (m : PolicyContext V H) (e : LockEntry) (layer : SignatureLayer) (b : Bool)
    → Gives m.trust e.digest (input_of e.signature) layer → HasOneOutcome m.trust e.digest (input_of e.signature)
    → {X : Type 0} (xs : List X) → length xs ≡ length m.policy.constraints → false ≡ (length xs == 0)
    → (IsTrue b ↔ SatisfiesPolicy m.trust.valid m.policy m.own layer) → IsTrue b ↔ IsSigned m e
signed_as m e layer b gives law xs long not_none exact = (
  λ h. record {
    layer = layer;
    is = sym (ap written gives.from);
    stands = record {
      layer_of = gives.layer_of;
      is_named = gives.is_named;
      constrained = rw (← long) (some (length xs) not_none);
      supports = exact.0 h;
    };
  },
  λ s.
      let same : s.layer ≡ layer = law.one_layer s.layer layer (given m e s) gives in
      exact.1 (subst (λ (l : SignatureLayer). SatisfiesPolicy m.trust.valid m.policy m.own l) same s.stands.supports),
) where
  some : (n : ℕ) → false ≡ (n == 0) → 0 < n
  some zero is = absurd (cc is)
  some (suc n) is = omega arith

-- the same of the content that was copied
pub signed : {V : Type 0} {H : V → Type 0} (m : PolicyContext V H) (e : LockEntry) (content : List ℕ) (layer : SignatureLayer) (b : Bool) → content ≡ e.signature.content
    → Gives m.trust e.digest (input_with content e.signature) layer → HasOneOutcome m.trust e.digest (input_with content e.signature)
    → {X : Type 0} (xs : List X) → length xs ≡ length m.policy.constraints → false ≡ (length xs == 0)
    → (IsTrue b ↔ SatisfiesPolicy m.trust.valid m.policy m.own layer) → IsTrue b ↔ IsSigned m e
signed m e content layer b is gives law xs long not_none exact =
    signed_as m e layer b (subst (λ (t : List ℕ). Gives m.trust e.digest (input_with t e.signature) layer) is gives)
    (subst (λ (t : List ℕ). HasOneOutcome m.trust e.digest (input_with t e.signature)) is law) xs long not_none exact

-- bytes that are rejected give no layer
rejected_as : {V : Type 0} {H : V → Type 0} (m : PolicyContext V H) (e : LockEntry) (x : LayerRejection)
    → RejectedUnlessMemory m.trust e.digest (input_of e.signature) x → is_memory x ≡ false
    → HasOneOutcome m.trust e.digest (input_of e.signature) → IsTrue false ↔ IsSigned m e
rejected_as m e x rejects no_memory law = (
  λ h. absurd (cc h),
  λ s. absurd (law.not_both s.layer x (given m e s) (of (is_memory x) no_memory rejects)),
) where
  of : (b : Bool) → b ≡ false → MatchBool b (Unit {0}) (Rejected m.trust e.digest (input_of e.signature) x)
      → Rejected m.trust e.digest (input_of e.signature) x
  of true is r = absurd (cc is)
  of false is r = r

pub rejected : {V : Type 0} {H : V → Type 0} (m : PolicyContext V H) (e : LockEntry) (content : List ℕ) (x : LayerRejection) → content ≡ e.signature.content
    → RejectedUnlessMemory m.trust e.digest (input_with content e.signature) x → is_memory x ≡ false
    → HasOneOutcome m.trust e.digest (input_with content e.signature) → IsTrue false ↔ IsSigned m e
rejected m e content x is rejects no_memory law =
    rejected_as m e x (subst (λ (t : List ℕ). RejectedUnlessMemory m.trust e.digest (input_with t e.signature) x) is rejects) no_memory
    (subst (λ (t : List ℕ). HasOneOutcome m.trust e.digest (input_with t e.signature)) is law)
