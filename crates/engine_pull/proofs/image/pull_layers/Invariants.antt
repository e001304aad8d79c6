use Rattle.std.proofs.Common.{drop}
use Rattle.engine_terms.specs.Contexts.{context_of}
use Rattle.engine_rows.specs.Image.{pull_layers}
use Rattle.engine_pull.proofs.Layers.{Leads}
use Rattle.engine_pull.proofs.image.pull_layers.Given as goal

-- the requests so far lead to the descriptors that are left
abbrev pub invariant-loop-descriptor : goal.invariant-loop-descriptor
invariant-loop-descriptor g l = Leads (pull_layers (context_of l.call) l.call.image.now l.descriptors l.fn.layers) (pull_layers (context_of l.call) l.call.image.now (drop l.descriptor-index l.descriptors) l.layers) (g.T.Transport.state l.fn.transport) (g.T.Transport.state l.transport) l.fn.memory l.memory
