use Rattle.std.proofs.Common.{refl}
use Rattle.call_laws.specs.Blobs.{descriptors_of, range_of}
use Rattle.engine_terms.specs.Contexts.{within}
use Rattle.live_host.specs.Wire.{wire}
use Rattle.live_blobs.proofs.Calls.{pulled, received}
use Rattle.live_blobs.specs.DiscardState.{closed_of, discard_state}
use Rattle.live_blobs.specs.Discarded.{discarded}
use Rattle.live_blobs.proofs.pulls.pull.Goals as goal

pub returns-clause-pulled : goal.returns-clause-pulled
returns-clause-pulled g c =
    pulled _ _ _ (wire g.S.Source.state g.K.Sink.state c.args.streams) (wire g.S.Source.state g.K.Sink.state (record { source = c.finish-source.result.0; sink = c.finish-source.result.1 }))
    c.new-transport.ensures.told c.new-transport.ensures.faults c.finish-source.ensures.transcript
    (within c.args.opened.now.settings c.args.opened.now.moment) c.args.opened.now.image _ _ (range_of c.args.range.first c.args.range.end (descriptors_of c.args.manifest.now))
    (discard_state c.new-sinks.result) (discard_state c.pull_blobs-outcome.new.sinks) c.pull_blobs-outcome.result refl refl
    c.pull_blobs-outcome.ensures.run c.pull_blobs-outcome.ensures.confined c.pull_blobs-outcome.ensures.causes c.pull_blobs-outcome.ensures.sink

pub returns-clause-received : goal.returns-clause-received
returns-clause-received g c =
    received _ _ _ (wire g.S.Source.state g.K.Sink.state c.args.streams) (wire g.S.Source.state g.K.Sink.state (record { source = c.finish-source.result.0; sink = c.finish-source.result.1 }))
    c.new-transport.ensures.told c.new-transport.ensures.faults c.finish-source.ensures.transcript
    discarded (range_of c.args.range.first c.args.range.end (descriptors_of c.args.manifest.now))
    (discard_state c.new-sinks.result) (discard_state c.pull_blobs-outcome.new.sinks) c.pull_blobs-outcome.result c.count-stood.result (closed_of c.pull_blobs-outcome.new.sinks)
    c.new-sinks.ensures refl c.count-stood.ensures c.pull_blobs-outcome.ensures.blobs
