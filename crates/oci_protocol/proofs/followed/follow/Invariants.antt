use Rattle.oci_protocol.specs.Follow.{Follows}
use Rattle.oci_protocol.proofs.followed.follow.Given as goal

-- the requests so far led to the request that is left
abbrev pub invariant-loop-head : goal.invariant-loop-head
invariant-loop-head g l = Follows l.times l.request l.left l.last (g.S.Sender.state l.fn.sender) (g.S.Sender.state l.sender)

abbrev pub decreases-loop-head : goal.decreases-loop-head
decreases-loop-head g l = l.left
