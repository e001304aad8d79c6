-- A lock is judged the same under the policy of a case, whatever a caller's boxes mean, since none of its constraints is a box.
use Rattle.std.proofs.Common.{◌≡◌, ℕ, false, List, Option, subst}
use Rattle.std.proofs.lemmas.List.Elements.{All-weaker}
use Rattle.oci_manifests.specs.declared.promise.ResolverPromise.{ResolverPromise}
use Rattle.cosign_layers.specs.Satisfying.{CustomVerdict, policy_context}
use Rattle.cosign_layers.specs.declared.constraint.Constraint.{Constraint}
use Rattle.cosign_parts.specs.Trust.{Trust}
use Rattle.recorded_case.specs.Policy.{constraints_by, trust_of, meaning_of}
use Rattle.recorded_case.specs.declared.case.Case.{Case}
use Rattle.recorded_case.specs.declared.constraint.WrittenConstraint.{WrittenConstraint}
use Rattle.recorded_case.proofs.Written.{stood_same, written_policy}
use Rattle.pull_lock.specs.Locked.{Locked, Judges}
use Rattle.pull_lock.specs.declared.checking.LockVerdict.{LockVerdict}
use Rattle.pull_lock.specs.declared.checking.LockVerdict.TheVariants.{Holds, Fails}
use Rattle.pull_lock.specs.declared.lock.LockEntry.{LockEntry}

locked_same : (V W : Type 0) (H : V → Type 0) (I : W → Type 0) (own : CustomVerdict V H) (other : CustomVerdict W I) (keys : List (List ℕ)) (written : List WrittenConstraint) (t : Trust) (promise : Option ResolverPromise) (e : LockEntry)
    → Locked (policy_context (written_policy {V = V} {H = H} keys written) own t) promise e → Locked (policy_context (written_policy {V = W} {H = I} keys written) other t) promise e
locked_same V W H I own other keys written t promise e h = record {
  image = h.image;
  whole = h.whole;
  reads = h.reads;
  found = h.found;
  is = h.is;
  named = h.named;
  asked = h.asked;
  manifest = h.manifest;
  some = h.some;
  accepted = h.accepted;
  signature = stood_same V W H I own other keys written t e.digest h.found.signature h.signature;
}

judges_same : (P Q : LockEntry → Type 0) → ((e : LockEntry) → P e → Q e) → ((e : LockEntry) → Q e → P e) → (entries : List LockEntry) (verdict : LockVerdict) → Judges P entries verdict → Judges Q entries verdict
judges_same P Q to from entries Holds h = All-weaker P Q to entries h
judges_same P Q to from entries (Fails image) (before, after, e, split, all, not_held, is) = (before, after, e, split, All-weaker P Q to before all, (λ q. not_held (from e q)), is)

-- under a written policy
pub judged_by : {V : Type 0} {H : V → Type 0} (own : CustomVerdict V H) (keys : List (List ℕ)) (written : List WrittenConstraint) (t : Trust) (promise : Option ResolverPromise) (constraints : List (Constraint V H)) (entries : List LockEntry)
    (verdict : LockVerdict) → constraints ≡ constraints_by written
    → Judges (Locked (policy_context (record { keys = keys; constraints = constraints }) own t) promise) entries verdict
    → Judges (Locked (policy_context (written_policy {V = ⊥} {H = λ v. ⊥} keys written) (λ box layer. false) t) promise) entries verdict
judged_by {V} {H} own keys written t promise constraints entries verdict is h =
    let other : CustomVerdict ⊥ (λ v. ⊥) = λ box layer. false in
    judges_same (Locked (policy_context (written_policy {V = V} {H = H} keys written) own t) promise) (Locked (policy_context (written_policy {V = ⊥} {H = λ v. ⊥} keys written) other t) promise)
    (λ e. locked_same V ⊥ H (λ v. ⊥) own other keys written t promise e)
    (λ e. locked_same ⊥ V (λ v. ⊥) H other own keys written t promise e)
    entries verdict
    (subst (λ (cs : List (Constraint V H)). Judges (Locked (policy_context (record { keys = keys; constraints = cs }) own t) promise) entries verdict) is h)

-- under the policy of the case
pub judged : {V : Type 0} {H : V → Type 0} (own : CustomVerdict V H) (case : Case) (constraints : List (Constraint V H)) (entries : List LockEntry) (verdict : LockVerdict) → constraints ≡ constraints_by case.constraints
    → Judges (Locked (policy_context (record { keys = case.keys; constraints = constraints }) own (trust_of case)) case.platform) entries verdict
    → Judges (Locked (meaning_of case) case.platform) entries verdict
judged own case constraints entries verdict is h = judged_by own case.keys case.constraints (trust_of case) case.platform constraints entries verdict is h
