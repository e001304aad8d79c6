use Rattle.cosign_client.specs.State.{client_state}
use Rattle.pulled_cases.proofs.PullsOnce.{pulled_first}
use Rattle.pulled_cases.proofs.once.pull_first.Goals as goal

pub returns : goal.returns
returns g c = λ case opens.
    pulled_first (λ b. (goal.VerificationConstraint-dyn g (b.vtable, b.value)).accepts b.value) case c.args.opened c.new-replay.result c.pull_over-outcome.new.replay (client_state c.pull_over-outcome.new.client).kept
    c.as_slice.result.now c.first_of-moment.result c.pull_over-outcome.result c.unless_wanting.result
    c.requires.one c.as_slice.ensures c.first_of-moment.ensures opens c.new-replay.ensures.told c.new-replay.ensures.faults c.new-replay.ensures.table
    c.pull_over-outcome.ensures.run c.unless_wanting.ensures.parts c.unless_wanting.ensures.whole
