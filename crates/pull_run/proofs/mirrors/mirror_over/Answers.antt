use Rattle.oci_engine.specs.Kept.{auth_state_of}
use Rattle.cosign_rows.specs.Skips.{HoldsNoMemoryNorSink, OnSkipped}
use Rattle.pull_run.specs.Targets.{side_of}
use Rattle.pull_run.proofs.Over.{reports_over}
use Rattle.pull_run.proofs.mirrors.mirror_over.Goals as goal

pub returns : goal.returns
returns g c =
    reports_over _ _ _ (OnSkipped HoldsNoMemoryNorSink) _ _ _ c.args.registry (side_of c.args.target c.args.moment) c.new-source.result c.mirror-outcome.new.transport c.new-replay.result c.mirror-outcome.new.target_transport
    (auth_state_of c.mirror-outcome.new.target_client) c.args.moment c.conversation-pull.result.now c.conversation-pushes.result.now c.mirror-outcome.result c.report_outcome.result
    c.new-source.ensures.told c.new-source.ensures.faults c.new-source.ensures.table c.conversation-pull.ensures.told
    c.new-replay.ensures.told c.new-replay.ensures.faults c.new-replay.ensures.table c.conversation-pushes.ensures.told c.conversation-pushes.ensures.faults_recorded
    (rw c.as_slice.ensures at c.mirror-outcome.ensures.run) c.mirror-outcome.ensures.no_memory
    c.mirror-outcome.ensures.target c.mirror-outcome.ensures.target_cause c.mirror-outcome.ensures.unsent
    c.mirror-outcome.ensures.mirrored c.mirror-outcome.ensures.pushed c.mirror-outcome.ensures.named c.mirror-outcome.ensures.stopped c.mirror-outcome.ensures.confined_target
    (rw (c.as_slice-2.ensures, c.as_slice-3.ensures) at c.report_outcome.ensures.written) c.report_outcome.ensures.whole
