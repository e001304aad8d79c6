use Rattle.std.proofs.Common.{inl}
use Rattle.live_check.proofs.Ends.{passed_on}
use Rattle.live_check.proofs.EntryLayers.{about_entries}
use Rattle.live_check.proofs.LockEnds.{asks_and_judges, judged_and_cut}
use Rattle.live_check.proofs.lock_serve.ask_and_judge.Goals as goal

pub returns-clause-told : goal.returns-clause-told
returns-clause-told g c =
    asks_and_judges _ _ _ _ c.in_ok-answers.answers _ _ _ c.in_ok-answers.ensures.asked (about_entries c.in_ok-answers.answers.list c.args.terms.now.policy.keys c.args.terms.now.log_keys c.args.lock.now.entries c.in_ok-layers.layers c.in_ok-layers.ensures (rw (c.as_slice.ensures, c.as_slice-2.ensures) at c.in_ok-answers.ensures.about)) c.in_ok-held.ensures.told

pub returns-in_err-answers-clause-cause : goal.returns-in_err-answers-clause-cause
returns-in_err-answers-clause-cause g c = passed_on _ _ _ (inl c.in_err-answers.ensures.cause) c.from_residual-in_err-answers.ensures

pub returns-in_err-held-clause-cause : goal.returns-in_err-held-clause-cause
returns-in_err-held-clause-cause g c =
    passed_on _ _ _ (judged_and_cut _ _ _ c.in_ok-answers.answers _ _ _ _ c.in_ok-answers.ensures.asked
    (about_entries c.in_ok-answers.answers.list c.args.terms.now.policy.keys c.args.terms.now.log_keys c.args.lock.now.entries c.in_ok-layers.layers c.in_ok-layers.ensures (rw (c.as_slice.ensures, c.as_slice-2.ensures) at c.in_ok-answers.ensures.about)) c.in_err-held.ensures.cause) c.from_residual-in_err-held.ensures
