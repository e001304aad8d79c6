use Rattle.std.proofs.Common.{refl}
use Rattle.live_copy.proofs.Calls.{asked}
use Rattle.live_copy.proofs.tags.ask_target.Goals as goal

pub returns-clause-still : goal.returns-clause-still
returns-clause-still g c = record { to = refl; moment = refl; settings = c.free_target-outcome.ensures.settings }

pub returns-clause-asked : goal.returns-clause-asked
returns-clause-asked g c = asked _ _ _ _ _ c.new-transport.ensures.told c.new-transport.ensures.faults c.finish-source.ensures.transcript _ _ _ _ _ _ c.free_target-outcome.ensures.confined c.free_target-outcome.result c.free_target-outcome.ensures.run c.free_target-outcome.ensures.stopped
