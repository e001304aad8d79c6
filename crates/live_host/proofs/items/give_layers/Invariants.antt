use Rattle.std.proofs.Common.{length}
use Rattle.live_host.specs.HostErrors.{GiveCause}
use Rattle.live_host.specs.Items.{WereTold, layers_sent}
use Rattle.live_host.specs.Wire.{Wire, wire}
use Rattle.live_host.specs.declared.streams.HostError.{HostError}
use Rattle.live_host.proofs.items.give_layers.Given as goal

-- what is sent from here on, or why not all of it is, follows what was sent
abbrev pub invariant-loop-descriptor : goal.invariant-loop-descriptor
invariant-loop-descriptor g l = ((end : Wire) → WereTold (layers_sent l.named l.rest) (wire g.S.Source.state g.K.Sink.state l.streams) end
    → WereTold (layers_sent l.descriptors l.layers) (wire g.S.Source.state g.K.Sink.state l.initial.streams) end)
    × ((e : HostError) (end : Wire) → GiveCause (layers_sent l.named l.rest) e (wire g.S.Source.state g.K.Sink.state l.streams) end
    → GiveCause (layers_sent l.descriptors l.layers) e (wire g.S.Source.state g.K.Sink.state l.initial.streams) end)

abbrev pub decreases-loop-descriptor : goal.decreases-loop-descriptor
decreases-loop-descriptor g l = length l.rest
