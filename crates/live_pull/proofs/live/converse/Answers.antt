use Rattle.live_pull.proofs.PartsTogether.{talked, talked_part}
use Rattle.live_pull.proofs.live.converse.Goals as goal

pub returns-in-Ok-ask_layers : goal.returns-in-Ok-ask_layers
returns-in-Ok-ask_layers g c =
    talked _ c.args.prepared.now.terms _ c.args.blobs _ _ _ _ _ _ c.in-Ok.layers c.in-Ok-ask_layers.answers _ _ _ _ _
    (rw c.in-Ok.is at c.search-streams.ensures.found) c.in-Ok-ask_layers.ensures.asked (rw (c.as_slice.ensures, c.as_slice-2.ensures) at c.in-Ok-ask_layers.ensures.about) c.search-streams.ensures.log_keys c.search-streams.ensures.settings c.finish.ensures

pub returns : goal.returns
returns g c =
    rw (c.end_with-in-Err-ask_layers.ensures, c.from.ensures) (talked_part _ c.args.prepared.now.terms _ c.args.blobs _ _ _ _ _ c.in-Ok.layers _ _ c.in-Err-ask_layers.error
    (rw c.in-Ok.is at c.search-streams.ensures.found) c.in-Err-ask_layers.ensures.cause)
