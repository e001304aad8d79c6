use Rattle.std.proofs.Common.{length}
use Rattle.engine_terms.specs.Contexts.{context_of}
use Rattle.engine_push.proofs.Leads.{LeadsTo}
use Rattle.push_rows.specs.Images.{layers_pushed}
use Rattle.engine_push.proofs.images.layers_pushed.Given as goal

-- the layers that were pushed lead to those that are left
abbrev pub invariant-loop-digest : goal.invariant-loop-digest
invariant-loop-digest g l = LeadsTo (layers_pushed (context_of l.call) l.call.image.now l.fn.digests l.fn.layers) (layers_pushed (context_of l.call) l.call.image.now l.named l.left) (g.T.Transport.state l.fn.transport) (g.T.Transport.state l.transport) l.fn.memory l.memory

abbrev pub decreases-loop-digest : goal.decreases-loop-digest
decreases-loop-digest g l = length l.left
