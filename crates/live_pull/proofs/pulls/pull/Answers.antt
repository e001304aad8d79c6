use Rattle.live_pull.proofs.CarriedCalls.{pulled}
use Rattle.live_pull.proofs.pulls.pull.Goals as goal

pub returns : goal.returns
returns g c = record {
  pulled = pulled _ _ _ _ _ _ _ _ c.verified_pull-outcome.result c.new-transport.ensures.told c.new-transport.ensures.faults (rw c.as_slice.ensures at c.verified_pull-outcome.ensures.run) c.finish-source.ensures.transcript;
}
