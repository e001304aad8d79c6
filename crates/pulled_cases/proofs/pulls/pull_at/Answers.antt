use Rattle.recorded_case.specs.Replay.{state_of}
use Rattle.cosign_client.specs.State.{client_state}
use Rattle.pulled_cases.specs.PullsAt.{row_for}
use Rattle.pulled_cases.proofs.PullsInTurn.{told_round, told_is_calm, no_shorter, from_ok, always}
use Rattle.pulled_cases.proofs.pulls.pull_at.Goals as goal

pub slice_bounds-add_report-count : goal.slice_bounds-add_report-count
slice_bounds-add_report-count g c = rw (c.as_slice-before.ensures, c.as_slice-conversation.ensures) (no_shorter c.pull_over-outcome.result _ _ c.conversation.ensures.told c.conversation-2.ensures.told c.pull_over-outcome.ensures.run)

pub slice_bounds-add_report-start : goal.slice_bounds-add_report-start
slice_bounds-add_report-start g c = rw (c.as_slice-before.ensures, c.as_slice-conversation.ensures) (no_shorter c.pull_over-outcome.result _ _ c.conversation.ensures.told c.conversation-2.ensures.told c.pull_over-outcome.ensures.run)

pub returns-clause-round : goal.returns-clause-round
returns-clause-round g c = from_ok c.add_report-added.result c.add_report-added.ensures.bytes c.add_report-added.ensures.refused c.add_report-added.ensures.whole (λ bytes refused whole. told_round
    {row = row_for (λ b. (goal.VerificationConstraint-dyn g (b.vtable, b.value)).accepts b.value) c.args.terms.now (client_state c.args.client.now).settings c.args.client.now.rekor_pub_keys}
    {moment = c.args.moment} {mid = state_of c.args.replay.now} {new = state_of c.pull_over-outcome.new.replay} {k = (client_state c.args.client.now).kept} {l = (client_state c.pull_over-outcome.new.client).kept} {before = c.args.report.now} {after = c.add_report-added.new.report}
    c.pull_over-outcome.result c.conversation.result.now c.conversation-2.result.now c.conversation.ensures.told c.conversation-2.ensures.told whole c.pull_over-outcome.ensures.run (rw (c.as_slice-before.ensures, c.as_slice-conversation.ensures) at bytes) refused)

pub returns-clause-settings : goal.returns-clause-settings
returns-clause-settings g c = c.pull_over-outcome.ensures.settings

pub returns-clause-log_keys : goal.returns-clause-log_keys
returns-clause-log_keys g c = c.pull_over-outcome.ensures.log_keys

pub returns-clause-faults_recorded : goal.returns-clause-faults_recorded
returns-clause-faults_recorded g c = always c.add_report-added.result (told_is_calm c.pull_over-outcome.new.replay c.conversation-2.result.now c.conversation-2.ensures.told c.conversation-2.ensures.faults_recorded)
