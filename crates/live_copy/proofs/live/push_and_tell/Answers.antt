use Rattle.live_copy.proofs.Ending.{told_ends}
use Rattle.live_copy.proofs.live.push_and_tell.Goals as goal

pub returns : goal.returns
returns g c = told_ends c.args.opened.now c.args.found.now _ _ _ c.push-streams.result.1 c.deliver-status.result c.push-streams.ensures c.deliver-status.ensures
