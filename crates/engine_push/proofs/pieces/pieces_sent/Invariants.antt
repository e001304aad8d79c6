use Rattle.std.proofs.Common.{◌≡◌, ◌-◌}
use Rattle.std.specs.Option.{is_some}
use Rattle.engine_terms.specs.Contexts.{context_of}
use Rattle.engine_push.proofs.PieceTree.{Pumping}
use Rattle.engine_push.proofs.pieces.pieces_sent.Given as goal

-- the digester is still present if there was one
abbrev pub invariant-loop-next : goal.invariant-loop-next
invariant-loop-next g l = Pumping (context_of l.call) l.call.image.now l.fn.location l.next l.size l.hashing (g.P.PieceSource.state l.fn.pieces) (g.P.PieceSource.state l.pieces) (g.T.Transport.state l.fn.transport) (g.T.Transport.state l.transport) l.fn.memory l.memory × (is_some l.hashing ≡ is_some l.fn.digester)

abbrev pub decreases-loop-next : goal.decreases-loop-next
decreases-loop-next g l = l.call.settings.now.max_body_bytes - l.size
