use Rattle.std.proofs.Common.{refl, ◌∙◌}
use Rattle.std.proofs.lemmas.List.{take_all}
use Rattle.oci_protocol.proofs.Conversations.{Extends-none}
use Rattle.pulled_cases.proofs.PullsInTurn.{none_yet, next_round, played, take_more, new_is_calm, row_as}
use Rattle.pulled_cases.proofs.pulls.pull_each.Goals as goal

pub loop-moment-init : goal.loop-moment-init
loop-moment-init g c = (none_yet _ (Extends-none _) c.empty.ensures refl, refl, refl, new_is_calm c.new-replay.result c.new-replay.ensures.told)

pub loop-moment-preserved : goal.loop-moment-preserved
loop-moment-preserved g c = (
  next_round
      (row_as (λ b. (goal.VerificationConstraint-dyn g (b.vtable, b.value)).accepts b.value) c.args.terms.now c.loop-moment.invariant.1 c.loop-moment.invariant.2)
      (take_more c.args.moments.now c.loop-moment.moment-index c.loop-moment-test.true) c.loop-moment.invariant.0 c.in_ok-pull_at.ensures.round,
  c.in_ok-pull_at.ensures.settings ∙ c.loop-moment.invariant.1,
  c.in_ok-pull_at.ensures.log_keys ∙ c.loop-moment.invariant.2,
  c.in_ok-pull_at.ensures.faults_recorded,
)

pub returns : goal.returns
returns g c = played c.args.registry c.new-replay.result c.loop-moment.replay c.new-replay.ensures.told c.new-replay.ensures.faults c.new-replay.ensures.table (rw (take_all _ _ c.loop-moment-test.false) at c.loop-moment.invariant.0) c.loop-moment.invariant.3
