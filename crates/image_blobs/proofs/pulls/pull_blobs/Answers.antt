use Rattle.engine_terms.specs.Contexts.{context_of}
use Rattle.call_laws.specs.Blobs.{descriptors_of}
use Rattle.image_blobs.proofs.PullsOfRange.{pull_confined, pull_fault}
use Rattle.image_blobs.proofs.pulls.pull_blobs.Goals as goal

pub returns-clause-run : goal.returns-clause-run
returns-clause-run g c = c.pulled.ensures.run

pub returns-clause-confined : goal.returns-clause-confined
returns-clause-confined g c = pull_confined (context_of c.args.call.now) c.args.call.now.image.now (descriptors_of c.args.manifest.now) c.args.range.first c.args.range.end (g.T.Transport.state c.args.transport.now) (g.T.Transport.state c.pulled.new.transport) c.args.memory.now c.pulled.new.memory c.pulled.result c.pulled.ensures.run

pub returns-clause-blobs : goal.returns-clause-blobs
returns-clause-blobs g c = c.pulled.ensures.took

pub returns-clause-causes : goal.returns-clause-causes
returns-clause-causes g c = c.pulled.ensures.causes

pub returns-clause-fault : goal.returns-clause-fault
returns-clause-fault g c = pull_fault (context_of c.args.call.now) c.args.call.now.image.now (descriptors_of c.args.manifest.now) c.args.range.first c.args.range.end (g.T.Transport.state c.args.transport.now) (g.T.Transport.state c.pulled.new.transport) c.args.memory.now c.pulled.new.memory c.pulled.result c.pulled.ensures.run

pub returns-clause-count : goal.returns-clause-count
returns-clause-count g c = c.pulled.ensures.count

pub returns-clause-sink : goal.returns-clause-sink
returns-clause-sink g c = c.pulled.ensures.sink
