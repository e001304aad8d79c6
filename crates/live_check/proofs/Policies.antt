-- Documents hold the same under the policy of the settings, whatever a caller's boxes mean, since none of its constraints is a box.
use Rattle.std.proofs.Common.{◌≡◌, ◌<◌, ℕ, suc, inl, inr, false, IsTrue, List, [], ◌∷◌, ◌++◌, length, Option, Some, None, Result, Ok, Err, refl, sym, ap, subst, ◌∙◌}
use Rattle.std.specs.Prelude.{Bool, IfOk, IfErr}
use Rattle.std.specs.List.{All}
use Rattle.std.proofs.lemmas.List.Elements.{All-nil, All-cons, All-head, All-tail}
use Rattle.oci_manifests.specs.declared.promise.ResolverPromise.{ResolverPromise}
use Rattle.cosign_layers.specs.Constraint.{accepts}
use Rattle.cosign_layers.specs.Satisfying.{CustomVerdict, PolicyContext, StandsFor, policy_context}
use Rattle.cosign_layers.specs.declared.constraint.Constraint.{Constraint}
use Rattle.cosign_layers.specs.declared.policy.PullPolicy.{PullPolicy}
use Rattle.cosign_parts.specs.Trust.{Trust}
use Rattle.cosign_parts.specs.declared.layer.SignatureLayer.{SignatureLayer}
use Rattle.cosign_chain.specs.declared.verified_documents.VerifiedDocuments.{VerifiedDocuments}
use Rattle.recorded_case.specs.Policy.{constraints_by}
use Rattle.recorded_case.specs.declared.constraint.WrittenConstraint.{WrittenConstraint}
use Rattle.recorded_case.proofs.Written.{accepts_same}
use Rattle.pull_lock.specs.Locked.{Judges, Locked}
use Rattle.pull_lock.specs.Unlocked.{GivesDocuments}
use Rattle.pull_lock.specs.declared.checking.LockVerdict.TheVariants.{Fails}
use Rattle.pull_lock.specs.declared.lock.LockEntry.{LockEntry}
use Rattle.locked_cases.proofs.Policies.{judged_by}
use Rattle.live_host.specs.Wire.{Wire}
use Rattle.live_host.specs.declared.answers.Answers.{Answers}
use Rattle.live_host.specs.declared.streams.HostError.{HostError}
use Rattle.live_pull.specs.Pulls.{meaning_of, trust_of}
use Rattle.live_pull.specs.Status.{StatusCause}
use Rattle.live_pull.specs.declared.settings.LiveSettings.{LiveSettings}
use Rattle.live_pull.specs.declared.status.Status.{Status}
use Rattle.live_check.specs.Checked.{AsksAndDecides, AsksAndDecidesBy, AsksAndDecidesCut, Checked, CheckedCut, Giving, VerdictCut, VerdictOn, status_by}
use Rattle.live_check.specs.Ends.{EndsChecked}
use Rattle.live_check.specs.declared.settings.CheckSettings.{CheckSettings}
use Rattle.live_check.proofs.Ends.{ends, ends_so}

module _ (V W : Type 0) (H : V → Type 0) (I : W → Type 0) (own : CustomVerdict V H) (other : CustomVerdict W I) (layer : SignatureLayer) where
  Accepts : Constraint V H → Type 0
  Accepts c = IsTrue (accepts {V = V} {H = H} own c layer)

  Others : Constraint W I → Type 0
  Others c = IsTrue (accepts {V = W} {H = I} other c layer)

  all_same : (written : List WrittenConstraint) → All Accepts (constraints_by written) → All Others (constraints_by written)
  unfolding Accepts Others
  all_same [] h = All-nil Others
  all_same (c ∷ written) h =
      All-cons Others _ (constraints_by written) (subst IsTrue (accepts_same V W H I own other layer c) (All-head Accepts _ (constraints_by written) h))
      (all_same written (All-tail Accepts _ (constraints_by written) h))

count_same : (V W : Type 0) (H : V → Type 0) (I : W → Type 0) (written : List WrittenConstraint) → length (constraints_by {V = V} {H = H} written) ≡ length (constraints_by {V = W} {H = I} written)
count_same V W H I [] = refl
count_same V W H I (c ∷ written) = ap (λ n. suc n) (count_same V W H I written)

abbrev written_policy : {V : Type 0} {H : V → Type 0} → List (List ℕ) → List WrittenConstraint → PullPolicy V H
written_policy keys written = record { keys = keys; constraints = constraints_by written }

stood_same : (V W : Type 0) (H : V → Type 0) (I : W → Type 0) (own : CustomVerdict V H) (other : CustomVerdict W I) (keys : List (List ℕ)) (written : List WrittenConstraint) (t : Trust) (d : List ℕ) (layer : SignatureLayer)
    → StandsFor (policy_context (written_policy {V = V} {H = H} keys written) own t) d layer → StandsFor (policy_context (written_policy {V = W} {H = I} keys written) other t) d layer
unfolding Accepts Others
stood_same V W H I own other keys written t d layer h = record {
  layer_of = h.layer_of;
  is_named = h.is_named;
  constrained = subst (λ n. 0 < n) (count_same V W H I written) h.constrained;
  supports = record {
    signed = record { bytes = h.supports.signed.bytes; spells = h.supports.signed.spells; under = h.supports.signed.under };
    accepted = all_same V W H I own other layer written h.supports.accepted;
  };
}

-- the one entry that is not locked
the_one : (P : LockEntry → Type 0) (e : LockEntry) → Judges P (e ∷ []) (Fails e.image) → P e → ⊥
the_one P e (before, after, x, split, all, not_held, is) held = by_before before split where
  by_before : (before : List LockEntry) → e ∷ [] ≡ before ++ x ∷ after → ⊥
  by_before [] split = let same : e ≡ x = cc split in not_held (subst P same held)
  by_before (b ∷ []) split = cc split
  by_before (b ∷ (c ∷ before)) split = cc split

-- an entry that is not locked under one policy is not under the other one
not_locked : {V : Type 0} {H : V → Type 0} (own : CustomVerdict V H) (keys : List (List ℕ)) (written : List WrittenConstraint) (t : Trust) (promise : Option ResolverPromise) (constraints : List (Constraint V H)) (e : LockEntry) → constraints ≡ constraints_by written
    → (Locked (policy_context (record { keys = keys; constraints = constraints }) own t) promise e → ⊥)
    → Locked (policy_context (written_policy {V = ⊥} {H = λ v. ⊥} keys written) (λ box layer. false) t) promise e → ⊥
not_locked own keys written t promise constraints e is none =
    the_one _ e (judged_by own keys written t promise constraints (e ∷ []) (Fails e.image) is ([], [], e, refl, All-nil _, none, refl))

-- the documents of an entry are the same under both
pub gives_so : {V : Type 0} {H : V → Type 0} (own : CustomVerdict V H) (keys : List (List ℕ)) (written : List WrittenConstraint) (t : Trust) (promise : Option ResolverPromise) (constraints : List (Constraint V H)) (e : LockEntry) (found : Option VerifiedDocuments) → constraints ≡ constraints_by written
    → GivesDocuments (policy_context (record { keys = keys; constraints = constraints }) own t) promise e found
    → GivesDocuments (policy_context (written_policy {V = ⊥} {H = λ v. ⊥} keys written) (λ box layer. false) t) promise e found
gives_so {V} {H} own keys written t promise constraints e None is none = not_locked own keys written t promise constraints e is none
gives_so {V} {H} own keys written t promise constraints e (Some d) is h = by_written (subst (λ (cs : List (Constraint V H)). GivesDocuments (policy_context (record { keys = keys; constraints = cs }) own t) promise e (Some d)) is h) where
  by_written : GivesDocuments (policy_context (written_policy {V = V} {H = H} keys written) own t) promise e (Some d) → GivesDocuments (policy_context (written_policy {V = ⊥} {H = λ v. ⊥} keys written) (λ box layer. false) t) promise e (Some d)
  by_written h = record {
    image = h.image;
    whole = h.whole;
    reads = h.reads;
    documents = record {
      named = h.documents.named;
      asked = h.documents.asked;
      manifest = h.documents.manifest;
      signature = stood_same V ⊥ H (λ v. ⊥) own (λ box layer. false) keys written t d.digest d.signature h.documents.signature;
    };
    is = h.is;
    some = h.some;
    accepted = h.accepted;
  }

module _ {V : Type 0} {H : V → Type 0} (own : CustomVerdict V H) (settings : LiveSettings) (constraints : List (Constraint V H)) (is : constraints ≡ constraints_by settings.constraints) where
  abbrev under : Answers → PolicyContext V H
  under answers = policy_context (record { keys = settings.keys; constraints = constraints }) own (trust_of settings answers)

  -- under the policy of the settings
  decides_so : (Gives : Giving) (entry : LockEntry) (old new : Wire) → AsksAndDecidesBy Gives under settings.platform entry old new → AsksAndDecidesBy Gives (meaning_of settings) settings.platform entry old new
  decides_so Gives entry old new h = record {
    asked_at = h.asked_at;
    answers = h.answers;
    questions = h.questions;
    about = h.about;
    decided = record {
      found = h.decided.found;
      gives = gives_so own settings.keys settings.constraints (trust_of settings h.answers) settings.platform constraints entry h.decided.found is h.decided.gives;
      verdict = h.decided.verdict;
    };
  }

  cut_so : (entry : LockEntry) (first end : ℕ) (e : HostError) (old new : Wire) → AsksAndDecidesCut under settings.platform entry first end e old new → AsksAndDecidesCut (meaning_of settings) settings.platform entry first end e old new
  cut_so entry first end e old new (inl asks) = inl asks
  cut_so entry first end e old new (inr cut) = inr (decides_so (VerdictCut first end e) entry old new cut)

  pub decided_ends : (entry : LockEntry) (first end : ℕ) (r : Result Bool Status) (old new : Wire)
      → IfOk r (λ held. AsksAndDecides under settings.platform entry first end held old new) → IfErr r (StatusCause (λ e. AsksAndDecidesCut under settings.platform entry first end e old new))
      → EndsChecked (λ held. AsksAndDecides (meaning_of settings) settings.platform entry first end held old new) (λ e. AsksAndDecidesCut (meaning_of settings) settings.platform entry first end e old new) (status_by r)
  decided_ends entry first end r old new told cause =
      ends_so (λ held. AsksAndDecides under settings.platform entry first end held old new) (λ held. AsksAndDecides (meaning_of settings) settings.platform entry first end held old new)
      (λ e. AsksAndDecidesCut under settings.platform entry first end e old new) (λ e. AsksAndDecidesCut (meaning_of settings) settings.platform entry first end e old new)
      (status_by r) (λ held h. decides_so (VerdictOn first end held) entry old new h) (λ e h. cut_so entry first end e old new h)
      (ends (λ held. AsksAndDecides under settings.platform entry first end held old new) (λ e. AsksAndDecidesCut under settings.platform entry first end e old new) r told cause)

pub checked_ends : {V : Type 0} {H : V → Type 0} (own : CustomVerdict V H) (settings : CheckSettings) (constraints : List (Constraint V H)) (r : Result Bool Status) (old new : Wire) → constraints ≡ constraints_by settings.settings.constraints
    → IfOk r (λ held. AsksAndDecides (λ (answers : Answers). policy_context (record { keys = settings.settings.keys; constraints = constraints }) own (trust_of settings.settings answers)) settings.settings.platform settings.entry settings.first settings.end held old new)
    → IfErr r (StatusCause (λ e. AsksAndDecidesCut (λ (answers : Answers). policy_context (record { keys = settings.settings.keys; constraints = constraints }) own (trust_of settings.settings answers)) settings.settings.platform settings.entry settings.first settings.end e old new))
    → EndsChecked (λ held. Checked settings held old new) (λ e. CheckedCut settings e old new) (status_by r)
checked_ends own settings constraints r old new is told cause = decided_ends own settings.settings constraints is settings.entry settings.first settings.end r old new told cause
