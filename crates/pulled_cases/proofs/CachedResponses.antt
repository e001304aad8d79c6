-- The responses that the client of a case caches.
use Rattle.std.proofs.Common.{ℕ, inl, inr, Bool, true, false, List, [], ◌∷◌, ◌++◌, All, Option, ap, subst, append_assoc, append-nil}
use Rattle.std.proofs.lemmas.List.Elements.{All-nil, All-append, All-weaker}
use Rattle.oci_names.specs.declared.reference.Reference.{Reference}
use Rattle.engine_terms.specs.declared.settings.Settings.{Settings}
use Rattle.registry_cache.specs.declared.answers.Answers.{Answers}
use Rattle.registry_calls.specs.Log.{LoggedCall, IsRun, IsBacked}
use Rattle.cosign_chain.specs.declared.image.VerifiedImage.{VerifiedImage}
use Rattle.cosign_client.specs.Clients.{fresh}
use Rattle.cosign_rows.specs.Snapshots.{Snapshot, snapshot}
use Rattle.cosign_rows.specs.Verified.{Whole}
use Rattle.cosign_client.specs.Growth.{IsMadeIn, ExtendsLog, PreservesLog}
use Rattle.cosign_client.proofs.Pulls.{pull_grows}
use Rattle.recorded_case.specs.Policy.{meaning_of}
use Rattle.recorded_case.specs.declared.case.Case.{Case}
use Rattle.pulled_cases.proofs.PullsInTurn.{Turns}
use Rattle.pulled_cases.specs.Pulls.{PullRecord, IsCallOf, IsCallOfOne, BackedBy, settings_of, row_of}

-- the log with calls that were made in these pulls is a run, and it backs what is cached after them
record Grown (s : Settings) (talks : List PullRecord) (cached : Option Answers) (log : List LoggedCall) : Type 0 where
  more : List LoggedCall
  made : All (IsCallOfOne talks) more
  run : IsRun s (more ++ log)
  backed : IsBacked s cached (more ++ log)

call_of : (talk : PullRecord) (call : LoggedCall) → IsMadeIn talk.moment talk.conversation call → IsCallOf talk call
call_of talk call made = record { moment_is = made.moment_is; before = made.before; after = made.after; split = made.split }

-- pulls in sequence
grows_in_turn : (s : Settings) (row : ℕ → Whole VerifiedImage) → ((moment : ℕ) → PreservesLog s moment (row moment)) → (start end : Snapshot) (talks : List PullRecord) (log : List LoggedCall)
    → Turns row start talks end → IsRun s log → IsBacked s start.kept.1 log → Grown s talks end.kept.1 log
grows_in_turn s row each start end [] log turn run backed = record { more = []; made = All-nil (IsCallOfOne []); run = run; backed = subst (λ (p : Snapshot). IsBacked s p.kept.1 log) turn backed }
grows_in_turn s row each start end (talk ∷ talks) log turn run backed =
    let one : ExtendsLog s talk.moment talk.conversation talk.after.kept.1 log = (each talk.moment).grows talk.before.kept talk.after.kept talk.before.faults talk.after.faults talk.conversation talk.result log turn.1 run (subst (λ (p : Snapshot). IsBacked s p.kept.1 log) turn.0 backed) in
    let more : Grown s talks end.kept.1 (one.more ++ log) = grows_in_turn s row each talk.after end talks (one.more ++ log) turn.2 one.run one.backed in
    record {
      more = more.more ++ one.more;
      made = All-append (IsCallOfOne (talk ∷ talks)) more.more one.more
          (All-weaker (IsCallOfOne talks) (IsCallOfOne (talk ∷ talks)) (λ call here. inr here) more.more more.made)
          (All-weaker (IsMadeIn talk.moment talk.conversation) (IsCallOfOne (talk ∷ talks)) (λ call made. inl (call_of talk call made)) one.more one.made);
      run = rw (append_assoc more.more one.more log) more.run;
      backed = rw (append_assoc more.more one.more log) more.backed;
    }

new_backed : (s : Settings) (caching : Bool) → IsBacked s (fresh caching).1 []
new_backed s true = tt
new_backed s false = tt

-- all responses to the calls of a case's pulls come from calls that were made in full, and were fresh when returned
pub case_backed : (case : Case) (image : Reference) (end : Snapshot) (talks : List PullRecord) → Turns (row_of case image) (snapshot (fresh case.caching) 0) talks end → BackedBy (settings_of case) talks end.kept.1
case_backed case image end talks turn =
    let grown = grows_in_turn (settings_of case) (row_of case image) (λ moment. pull_grows (settings_of case) moment case.auth (meaning_of case) image case.accepted) (snapshot (fresh case.caching) 0) end talks [] turn tt (new_backed (settings_of case) case.caching) in
    record {
      calls = grown.more;
      made = grown.made;
      run = subst (IsRun (settings_of case)) (append-nil grown.more) grown.run;
      backed = subst (IsBacked (settings_of case) end.kept.1) (append-nil grown.more) grown.backed;
    }
