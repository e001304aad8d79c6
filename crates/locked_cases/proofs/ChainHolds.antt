-- When a written chain holds.
use Rattle.std.proofs.Common.{◌≡◌, ◌↔◌, ℕ, Bool, false, IsTrue, List, Option, Some, None, Ok, Result, Err, refl, sym, subst, ◌∙◌}
use Rattle.std.specs.Prelude.{IfOk}
use Rattle.oci_names.specs.Reference.{reference_of}
use Rattle.oci_names.specs.declared.reference.Reference.{Reference}
use Rattle.oci_manifests.specs.declared.promise.ResolverPromise.{ResolverPromise}
use Rattle.cosign_layers.specs.Satisfying.{PolicyContext, CustomVerdict, policy_context}
use Rattle.cosign_parts.specs.Trust.{Trust}
use Rattle.cosign_layers.specs.declared.policy.PullPolicy.{PullPolicy}
use Rattle.cosign_chain.specs.Chain.{Chain}
use Rattle.cosign_chain.specs.declared.image.VerifiedImage.{VerifiedImage}
use Rattle.recorded_case.specs.Policy.{constraints_by, trust_of, meaning_of}
use Rattle.recorded_case.specs.declared.case.Case.{Case}
use Rattle.recorded_case.specs.declared.constraint.WrittenConstraint.{WrittenConstraint}
use Rattle.recorded_case.proofs.Written.{stood_same, written_policy}
use Rattle.locked_cases.specs.Built.{Builds}
use Rattle.locked_cases.specs.Holds.{HoldsUnder, Holds}
use Rattle.locked_cases.specs.declared.chain_input.ChainInput.{ChainInput}
use Rattle.locked_cases.specs.declared.chain_input.WrittenChain.{WrittenChain}

-- the chain of the one image that was built
built_holds : {V : Type 0} {H : V → Type 0} (m : PolicyContext V H) (image : Reference) (accepted : List (List ℕ)) (promise : Option ResolverPromise) (chain : WrittenChain) (found : VerifiedImage) (holds : Bool)
    → Builds m.trust chain (Some found) → IsTrue holds ↔ Chain m image accepted promise found → IsTrue holds ↔ HoldsUnder m image accepted promise chain
built_holds m image accepted promise chain found holds built exact = (
  λ h. record { found = found; built = built.0; holds = exact.0 h },
  λ under. exact.1 (subst (λ (v : VerifiedImage). Chain m image accepted promise v) (built.1 under.found under.built) under.holds),
)

-- if none can be built
none_holds : {V : Type 0} {H : V → Type 0} (m : PolicyContext V H) (image : Reference) (accepted : List (List ℕ)) (promise : Option ResolverPromise) (chain : WrittenChain)
    → Builds m.trust chain None → IsTrue false ↔ HoldsUnder m image accepted promise chain
none_holds m image accepted promise chain none = ((λ h. absurd (cc h)), (λ under. absurd (none under.found under.built)))

-- the checks on the image that was built
pub checked_holds : {V : Type 0} {H : V → Type 0} {E : Type 0} (m : PolicyContext V H) (image : Reference) (accepted given : List (List ℕ)) (promise asked : Option ResolverPromise) (chain : WrittenChain) (read : Option VerifiedImage) (found : VerifiedImage) (r : Result Bool E)
    → given ≡ accepted → asked ≡ promise → read ≡ Some found → Builds m.trust chain read
    → IfOk r (λ holds. IsTrue holds ↔ Chain m image given asked found) → IfOk r (λ holds. IsTrue holds ↔ HoldsUnder m image accepted promise chain)
checked_holds m image accepted given promise asked chain read found (Err e) given_is asked_is read_is built exact = tt
checked_holds m image accepted given promise asked chain read found (Ok holds) given_is asked_is read_is built exact =
    built_holds m image accepted promise chain found holds (rw read_is at built)
    (subst (λ (a : List (List ℕ)). IsTrue holds ↔ Chain m image a promise found) given_is
    (subst (λ (p : Option ResolverPromise). IsTrue holds ↔ Chain m image given p found) asked_is exact))

pub not_built : {V : Type 0} {H : V → Type 0} (m : PolicyContext V H) (image : Reference) (accepted : List (List ℕ)) (promise : Option ResolverPromise) (chain : WrittenChain) (read : Option VerifiedImage)
    → read ≡ None → Builds m.trust chain read → IsTrue false ↔ HoldsUnder m image accepted promise chain
not_built m image accepted promise chain read none built = none_holds m image accepted promise chain (rw none at built)

-- ---- the case's policy, whatever a caller's boxes mean

chain_same : (V W : Type 0) (H : V → Type 0) (I : W → Type 0) (own : CustomVerdict V H) (other : CustomVerdict W I) (keys : List (List ℕ)) (written : List WrittenConstraint) (t : Trust) (image : Reference) (accepted : List (List ℕ)) (promise : Option ResolverPromise) (v : VerifiedImage)
    → Chain (policy_context (written_policy {V = V} {H = H} keys written) own t) image accepted promise v → Chain (policy_context (written_policy {V = W} {H = I} keys written) other t) image accepted promise v
chain_same V W H I own other keys written t image accepted promise v h = record {
  named = h.named;
  asked = h.asked;
  manifest = h.manifest;
  config = h.config;
  some = h.some;
  layers = h.layers;
  signature = stood_same V W H I own other keys written t v.digest v.signature h.signature;
}

under_same : (V W : Type 0) (H : V → Type 0) (I : W → Type 0) (own : CustomVerdict V H) (other : CustomVerdict W I) (keys : List (List ℕ)) (written : List WrittenConstraint) (t : Trust) (image : Reference) (accepted : List (List ℕ)) (promise : Option ResolverPromise) (chain : WrittenChain)
    → HoldsUnder (policy_context (written_policy {V = V} {H = H} keys written) own t) image accepted promise chain → HoldsUnder (policy_context (written_policy {V = W} {H = I} keys written) other t) image accepted promise chain
under_same V W H I own other keys written t image accepted promise chain h = record {
  found = h.found;
  built = h.built;
  holds = chain_same V W H I own other keys written t image accepted promise h.found h.holds;
}

policy_is : {V : Type 0} {H : V → Type 0} (policy : PullPolicy V H) (keys : List (List ℕ)) (written : List WrittenConstraint) → policy.keys ≡ keys → policy.constraints ≡ constraints_by written → policy ≡ written_policy keys written
policy_is policy keys written keys_are constraints_are = rw (← keys_are, ← constraints_are) refl

one_reference : {image other : Reference} (case : Case) → reference_of case.reference ≡ Ok image → reference_of case.reference ≡ Ok other → image ≡ other
one_reference case a b = cc (sym a ∙ b)

-- under the policy of the case
case_holds : {V : Type 0} {H : V → Type 0} (policy : PullPolicy V H) (own : CustomVerdict V H) (input : ChainInput) (image : Reference) (holds : Bool)
    → reference_of input.case.reference ≡ Ok image → policy.keys ≡ input.case.keys → policy.constraints ≡ constraints_by input.case.constraints
    → IsTrue holds ↔ HoldsUnder (policy_context policy own (trust_of input.case)) image input.case.accepted input.case.platform input.chain → IsTrue holds ↔ Holds input
case_holds {V} {H} policy own input image holds reads keys constraints exact =
    let case = input.case in
    let same = policy_is policy case.keys case.constraints keys constraints in
    let other : CustomVerdict ⊥ (λ v. ⊥) = λ box layer. false in (
      λ h. record {
        image = image;
        reads = reads;
        under = under_same V ⊥ H (λ v. ⊥) own other case.keys case.constraints (trust_of case) image case.accepted case.platform input.chain
            (subst (λ (p : PullPolicy V H). HoldsUnder (policy_context p own (trust_of case)) image case.accepted case.platform input.chain) same (exact.0 h));
      },
      λ h. exact.1 (subst (λ (p : PullPolicy V H). HoldsUnder (policy_context p own (trust_of case)) image case.accepted case.platform input.chain) (sym same)
          (under_same ⊥ V (λ v. ⊥) H other own case.keys case.constraints (trust_of case) image case.accepted case.platform input.chain
          (subst (λ (r : Reference). HoldsUnder (meaning_of case) r case.accepted case.platform input.chain) (one_reference case h.reads reads) h.under))),
    )

pub case_answers : {V : Type 0} {H : V → Type 0} {E : Type 0} (policy : PullPolicy V H) (own : CustomVerdict V H) (input : ChainInput) (image : Reference) (r : Result Bool E)
    → reference_of input.case.reference ≡ Ok image → policy.keys ≡ input.case.keys → policy.constraints ≡ constraints_by input.case.constraints
    → IfOk r (λ holds. IsTrue holds ↔ HoldsUnder (policy_context policy own (trust_of input.case)) image input.case.accepted input.case.platform input.chain) → IfOk r (λ holds. IsTrue holds ↔ Holds input)
case_answers policy own input image (Err e) reads keys constraints exact = tt
case_answers policy own input image (Ok holds) reads keys constraints exact = case_holds policy own input image holds reads keys constraints exact
