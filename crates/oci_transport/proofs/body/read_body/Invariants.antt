use Rattle.std.proofs.Common.{◌≤◌, ◌-◌, length}
use Rattle.oci_transport.specs.Link.{HasTaken}
use Rattle.oci_transport.proofs.body.read_body.Given as goal

abbrev pub invariant-loop-piece : goal.invariant-loop-piece
invariant-loop-piece g l = record {
  small : length l.body ≤ l.limit;
  taken : HasTaken l.body (g.T.Transport.state l.fn.transport) (g.T.Transport.state l.transport);
}

abbrev pub decreases-loop-piece : goal.decreases-loop-piece
decreases-loop-piece g l = l.limit - length l.body
