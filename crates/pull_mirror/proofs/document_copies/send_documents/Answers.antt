use Rattle.std.proofs.Common.{◌∙◌}
use Rattle.oci_engine.specs.Refusals.{at_moment}
use Rattle.pull_mirror.specs.DocumentPlans.{parts_planned}
use Rattle.pull_mirror.specs.DocumentPushes.{all_of}
use Rattle.pull_mirror.proofs.Asking.{no_result, passed}
use Rattle.pull_mirror.proofs.DocumentCopying.{asked_ended, asked_only, asked_pushed, copy_met, copy_refused, outcome_passed, parts_confined, stopped_asking, stopped_pushing}
use Rattle.pull_mirror.proofs.document_copies.send_documents.Goals as goal

pub returns-in_err-ask_stored-clause-run : goal.returns-in_err-ask_stored-clause-run
returns-in_err-ask_stored-clause-run g c = outcome_passed c.from_residual.result _ c.from_residual.ensures.1 (asked_ended (at_moment c.args.client.now c.args.moment) c.args.target.now c.args.auth.now c.args.plan.now.asked (parts_planned c.args.plan.now.parts) _ (rw c.as_slice.ensures at c.in_err-ask_stored.ensures.run))

pub returns-in_err-ask_stored-clause-settings : goal.returns-in_err-ask_stored-clause-settings
returns-in_err-ask_stored-clause-settings g c = c.in_err-ask_stored.ensures.settings

pub returns-in_err-ask_stored-clause-pushed : goal.returns-in_err-ask_stored-clause-pushed
returns-in_err-ask_stored-clause-pushed g c = no_result _ c.from_residual.result _ c.from_residual.ensures.1

pub returns-in_err-ask_stored-clause-stopped : goal.returns-in_err-ask_stored-clause-stopped
returns-in_err-ask_stored-clause-stopped g c = passed _ c.from_residual.result _ c.from_residual.ensures.1 (stopped_asking (at_moment c.args.client.now c.args.moment) c.args.target.now c.args.plan.now.asked (all_of (parts_planned c.args.plan.now.parts)) _ _ _ _ _ (rw c.as_slice.ensures at c.in_err-ask_stored.ensures.stopped))

pub returns-in_err-ask_stored-clause-confined : goal.returns-in_err-ask_stored-clause-confined
returns-in_err-ask_stored-clause-confined g c = λ none are. asked_only _ _ _ c.in_err-ask_stored.ensures.confined

pub returns-in-Ok-clause-run : goal.returns-in-Ok-clause-run
returns-in-Ok-clause-run g c = copy_met (at_moment c.args.client.now c.args.moment) c.args.target.now c.args.auth.now c.args.plan.now.asked (parts_planned c.args.plan.now.parts) c.in-Ok.report (rw c.as_slice.ensures at c.in_ok-ask_stored.ensures.run) (rw c.in_ok-ask_stored.ensures.settings at c.in-Ok.ensures.run)

pub returns-in-Ok-clause-settings : goal.returns-in-Ok-clause-settings
returns-in-Ok-clause-settings g c = c.in-Ok.ensures.settings ∙ c.in_ok-ask_stored.ensures.settings

pub returns-in-Ok-clause-pushed : goal.returns-in-Ok-clause-pushed
returns-in-Ok-clause-pushed g c = c.in-Ok.ensures.pushed

pub returns-in-Ok-clause-confined : goal.returns-in-Ok-clause-confined
returns-in-Ok-clause-confined g c = λ none are. asked_pushed _ _ _ c.in_ok-ask_stored.ensures.confined (parts_confined (at_moment c.args.client.now c.args.moment) c.args.target.now (parts_planned c.args.plan.now.parts) none are (rw c.in_ok-ask_stored.ensures.settings at c.in-Ok.ensures.run))

pub returns-in-Err-clause-run : goal.returns-in-Err-clause-run
returns-in-Err-clause-run g c = rw c.of_push.ensures (copy_refused (at_moment c.args.client.now c.args.moment) c.args.target.now c.args.auth.now c.args.plan.now.asked (parts_planned c.args.plan.now.parts) c.in-Err.refusal (rw c.as_slice.ensures at c.in_ok-ask_stored.ensures.run) (rw c.in_ok-ask_stored.ensures.settings at c.in-Err.ensures.run))

pub returns-in-Err-clause-settings : goal.returns-in-Err-clause-settings
returns-in-Err-clause-settings g c = c.in-Err.ensures.settings ∙ c.in_ok-ask_stored.ensures.settings

pub returns-in-Err-clause-stopped : goal.returns-in-Err-clause-stopped
returns-in-Err-clause-stopped g c = rw c.of_push.ensures (stopped_pushing (at_moment c.args.client.now c.args.moment) c.args.target.now c.args.plan.now.asked (all_of (parts_planned c.args.plan.now.parts)) _ _ c.in-Err.refusal (rw c.as_slice.ensures at c.in_ok-ask_stored.ensures.there) (rw c.in_ok-ask_stored.ensures.settings at c.in-Err.ensures.stopped))

pub returns-in-Err-clause-confined : goal.returns-in-Err-clause-confined
returns-in-Err-clause-confined g c = λ none are. asked_pushed _ _ _ c.in_ok-ask_stored.ensures.confined (parts_confined (at_moment c.args.client.now c.args.moment) c.args.target.now (parts_planned c.args.plan.now.parts) none are (rw c.in_ok-ask_stored.ensures.settings at c.in-Err.ensures.run))
