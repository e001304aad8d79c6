-- Both parts under another meaning with the same trust, by which the same layers satisfy the policy, are the same.
use Rattle.std.proofs.Common.{◌≡◌, ℕ, Bool, false, List, refl, sym, ap, ◌∙◌}
use mathlib.Core.Path.{fun_ext}
use Rattle.std.specs.Prelude.{find}
use Rattle.oci_names.specs.declared.reference.Reference.{Reference}
use Rattle.oci_auth.specs.declared.auth.RegistryAuth.{RegistryAuth}
use Rattle.oci_protocol.specs.Proto.{Done, ◌>>=◌, ◌>>◌}
use Rattle.engine_terms.specs.Contexts.{Context}
use Rattle.cosign_layers.specs.Satisfying.{CustomVerdict, PolicyContext, policy_context}
use Rattle.cosign_layers.specs.declared.policy.PullPolicy.{PullPolicy}
use Rattle.cosign_parts.specs.Trust.{Trust}
use Rattle.cosign_parts.specs.declared.layer.SignatureLayer.{SignatureLayer}
use Rattle.cosign_chain.specs.declared.verified_documents.VerifiedDocuments.{VerifiedDocuments}
use Rattle.cosign_rows.specs.Search.{searched}
use Rattle.cosign_rows.specs.Verified.{Whole, constrained, is_unconstrained, readable, part_of, signed_digest, stands_by}
use Rattle.cosign_rows.specs.declared.found.TrustedLayers.{TrustedLayers}
use Rattle.cosign_rows.specs.Again.{read_again}
use Rattle.cosign_rows.specs.Rows.{collected, decided, documents_after, selected}
use Rattle.recorded_case.specs.Policy.{constraints_by}
use Rattle.recorded_case.specs.declared.constraint.WrittenConstraint.{WrittenConstraint}
use Rattle.recorded_case.proofs.Written.{no_item_same, stands_same}

collect_by : Context → Reference → RegistryAuth → Bool → Trust → Whole TrustedLayers
collect_by s image a none trusted = do
  Done (constrained none)
  Done (readable image)
  part_of (searched trusted s image a)

collect_is : {V : Type 0} {H : V → Type 0} (m : PolicyContext V H) (s : Context) (image : Reference) (a : RegistryAuth) → collected m s image a ≡ collect_by s image a (is_unconstrained m.policy) m.trust
unfolding collected collect_by
collect_is m s image a = refl

decide_by : Context → Reference → RegistryAuth → TrustedLayers → Bool → (SignatureLayer → Bool) → Trust → Whole VerifiedDocuments
decide_by s image a found none fits trusted = do
  Done (constrained none)
  stood ← Done (signed_digest (read_again trusted found) (find fits (read_again trusted found).collected))
  selected s image a stood

decide_is : {V : Type 0} {H : V → Type 0} (m : PolicyContext V H) (s : Context) (image : Reference) (a : RegistryAuth) (found : TrustedLayers) → decided m s image a found ≡ decide_by s image a found (is_unconstrained m.policy) (stands_by m) m.trust
unfolding decided documents_after decide_by
decide_is m s image a found = refl

abbrev pub policy_by : {V : Type 0} {H : V → Type 0} → List (List ℕ) → List WrittenConstraint → PullPolicy V H
policy_by keys written = record { keys = keys; constraints = constraints_by written }

-- the search by a written policy
pub collected_same : {V : Type 0} {H : V → Type 0} (own : CustomVerdict V H) (keys : List (List ℕ)) (written : List WrittenConstraint) (trusted : Trust) (s : Context) (image : Reference) (a : RegistryAuth)
    → collected (policy_context (policy_by {V = V} {H = H} keys written) own trusted) s image a ≡ collected (policy_context (policy_by {V = ⊥} {H = λ v. ⊥} keys written) (λ box layer. false) trusted) s image a
collected_same {V} {H} own keys written trusted s image a =
    let m : PolicyContext V H = policy_context (policy_by keys written) own trusted in
    let n : PolicyContext ⊥ (λ v. ⊥) = policy_context (policy_by keys written) (λ box layer. false) trusted in
    collect_is m s image a
    ∙ ap (λ (b : Bool). collect_by s image a b trusted) (no_item_same V ⊥ H (λ v. ⊥) written)
    ∙ sym (collect_is n s image a)

-- the decision by a written policy
pub decided_same : {V : Type 0} {H : V → Type 0} (own : CustomVerdict V H) (keys : List (List ℕ)) (written : List WrittenConstraint) (trusted : Trust) (s : Context) (image : Reference) (a : RegistryAuth) (found : TrustedLayers)
    → decided (policy_context (policy_by {V = V} {H = H} keys written) own trusted) s image a found ≡ decided (policy_context (policy_by {V = ⊥} {H = λ v. ⊥} keys written) (λ box layer. false) trusted) s image a found
decided_same {V} {H} own keys written trusted s image a found =
    let m : PolicyContext V H = policy_context (policy_by keys written) own trusted in
    let n : PolicyContext ⊥ (λ v. ⊥) = policy_context (policy_by keys written) (λ box layer. false) trusted in
    decide_is m s image a found
    ∙ ap (λ (b : Bool). decide_by s image a found b (stands_by m) trusted) (no_item_same V ⊥ H (λ v. ⊥) written)
    ∙ ap (λ (f : SignatureLayer → Bool). decide_by s image a found (is_unconstrained n.policy) f trusted) (fun_ext (λ layer. stands_same V ⊥ H (λ v. ⊥) own (λ box layer. false) keys written trusted.valid layer))
    ∙ sym (decide_is n s image a found)
