use Rattle.live_blobs.proofs.CarryEnding.{live_ends}
use Rattle.live_blobs.proofs.carry.serve.Goals as goal

pub returns : goal.returns
returns g c =
    live_ends c.args.settings.now c.in-Ok.opened c.converse-ended.result.0.status _ _ _ _ c.in-Ok.ensures (rw c.as_str-digest.ensures at c.converse-ended.ensures)
