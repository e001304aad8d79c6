-- Written constraints accept the same whatever a policy's boxes mean, since none of them is a box.
use Rattle.std.proofs.Common.{◌≡◌, ◌<◌, ℕ, suc, Bool, ◌&&◌, IsTrue, List, [], ◌∷◌, length, refl, ap, ◌∙◌, subst}
use Rattle.std.specs.List.{All, list_all}
use Rattle.std.proofs.lemmas.List.Elements.{All-nil, All-cons, All-head, All-tail}
use Rattle.cosign_layers.specs.Constraint.{accepts}
use Rattle.cosign_parts.specs.Items.{has_no_item}
use Rattle.cosign_layers.specs.Satisfying.{CustomVerdict, StandsFor, is_signed, policy_context, satisfies_policy}
use Rattle.cosign_layers.specs.declared.constraint.Constraint.{Constraint}
use Rattle.cosign_layers.specs.declared.policy.PullPolicy.{PullPolicy}
use Rattle.cosign_parts.specs.Trust.{Trust, Valid}
use Rattle.cosign_parts.specs.declared.layer.SignatureLayer.{SignatureLayer}
use Rattle.recorded_case.specs.Policy.{constraint_by, constraints_by}
use Rattle.recorded_case.specs.declared.constraint.WrittenConstraint.{WrittenConstraint}
use Rattle.recorded_case.specs.declared.constraint.WrittenConstraint.TheVariants.{Annotations, Email, Url, Statements}

pub no_item_same : (V W : Type 0) (H : V → Type 0) (I : W → Type 0) (written : List WrittenConstraint)
    → has_no_item (constraints_by {V = V} {H = H} written) ≡ has_no_item (constraints_by {V = W} {H = I} written)
no_item_same V W H I [] = refl
no_item_same V W H I (c ∷ written) = refl

module _ (V W : Type 0) (H : V → Type 0) (I : W → Type 0) (own : CustomVerdict V H) (other : CustomVerdict W I) (layer : SignatureLayer) where
  pub accepts_same : (c : WrittenConstraint)
      → accepts {V = V} {H = H} own (constraint_by c) layer ≡ accepts {V = W} {H = I} other (constraint_by c) layer
  accepts_same (Annotations asked) = refl
  accepts_same (Email asked) = refl
  accepts_same (Url asked) = refl
  accepts_same (Statements types) = refl

  all_same : (written : List WrittenConstraint)
      → list_all (λ c. accepts {V = V} {H = H} own c layer) (constraints_by written)
      ≡ list_all (λ c. accepts {V = W} {H = I} other c layer) (constraints_by written)
  all_same [] = refl
  all_same (c ∷ written) =
      ap (λ (b : Bool). b && list_all (λ c. accepts {V = V} {H = H} own c layer) (constraints_by written)) (accepts_same c)
      ∙ ap (λ (b : Bool). accepts {V = W} {H = I} other (constraint_by c) layer && b) (all_same written)

pub stands_same : (V W : Type 0) (H : V → Type 0) (I : W → Type 0) (own : CustomVerdict V H) (other : CustomVerdict W I)
    (keys : List (List ℕ)) (written : List WrittenConstraint) (valid : Valid) (layer : SignatureLayer)
    → satisfies_policy {V = V} {H = H} valid (record { keys = keys; constraints = constraints_by written }) own layer
    ≡ satisfies_policy {V = W} {H = I} valid (record { keys = keys; constraints = constraints_by written }) other layer
unfolding satisfies_policy
stands_same V W H I own other keys written valid layer =
    ap (λ (b : Bool). is_signed {V = V} {H = H} valid (record { keys = keys; constraints = constraints_by written }) layer && b)
    (all_same V W H I own other layer written)

-- ---- a layer that stands for a digest

module _ (V W : Type 0) (H : V → Type 0) (I : W → Type 0) (own : CustomVerdict V H) (other : CustomVerdict W I) (layer : SignatureLayer) where
  Accepts : Constraint V H → Type 0
  Accepts c = IsTrue (accepts {V = V} {H = H} own c layer)

  Others : Constraint W I → Type 0
  Others c = IsTrue (accepts {V = W} {H = I} other c layer)

  all_hold : (written : List WrittenConstraint) → All Accepts (constraints_by written) → All Others (constraints_by written)
  unfolding Accepts Others
  all_hold [] h = All-nil Others
  all_hold (c ∷ written) h =
      All-cons Others _ (constraints_by written) (subst IsTrue (accepts_same V W H I own other layer c) (All-head Accepts _ (constraints_by written) h))
      (all_hold written (All-tail Accepts _ (constraints_by written) h))

count_same : (V W : Type 0) (H : V → Type 0) (I : W → Type 0) (written : List WrittenConstraint) → length (constraints_by {V = V} {H = H} written) ≡ length (constraints_by {V = W} {H = I} written)
count_same V W H I [] = refl
count_same V W H I (c ∷ written) = ap (λ n. suc n) (count_same V W H I written)

-- the policy of written constraints, whatever a box is
abbrev pub written_policy : {V : Type 0} {H : V → Type 0} → List (List ℕ) → List WrittenConstraint → PullPolicy V H
written_policy keys written = record { keys = keys; constraints = constraints_by written }

-- a layer stands for a digest under the same conditions
pub stood_same : (V W : Type 0) (H : V → Type 0) (I : W → Type 0) (own : CustomVerdict V H) (other : CustomVerdict W I) (keys : List (List ℕ)) (written : List WrittenConstraint) (t : Trust) (d : List ℕ) (layer : SignatureLayer)
    → StandsFor (policy_context (written_policy {V = V} {H = H} keys written) own t) d layer → StandsFor (policy_context (written_policy {V = W} {H = I} keys written) other t) d layer
unfolding Accepts Others
stood_same V W H I own other keys written t d layer h = record {
  layer_of = h.layer_of;
  is_named = h.is_named;
  constrained = subst (λ n. 0 < n) (count_same V W H I written) h.constrained;
  supports = record {
    signed = record { bytes = h.supports.signed.bytes; spells = h.supports.signed.spells; under = h.supports.signed.under };
    accepted = all_hold V W H I own other layer written h.supports.accepted;
  };
}
