use Rattle.std.proofs.Common.{length}
use Rattle.engine_terms.specs.Contexts.{context_of}
use Rattle.engine_push.proofs.Leads.{Chunking}
use Rattle.engine_push.proofs.uploads.chunks_sent.Given as goal

abbrev pub invariant-loop-left : goal.invariant-loop-left
invariant-loop-left g l = Chunking (context_of l.call) l.call.image.now l.fn.location l.fn.start l.fn.bytes l.next l.place l.left (g.T.Transport.state l.fn.transport) (g.T.Transport.state l.transport) l.fn.memory l.memory

abbrev pub decreases-loop-left : goal.decreases-loop-left
decreases-loop-left g l = length l.left
