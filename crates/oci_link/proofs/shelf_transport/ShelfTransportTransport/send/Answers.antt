use Rattle.std.proofs.Common.{ap, length}
use Rattle.oci_link.specs.State.{answering}
use Rattle.oci_link.proofs.ServedLinks.{sent, answering-answer}
use Rattle.oci_link.proofs.shelf_transport.ShelfTransportTransport.send.Goals as goal

pub returns-clause-answered : goal.returns-clause-answered
returns-clause-answered c =
    let old = c.args.self.now.served in
    let step = c.in_ok-head.ensures.ok in
    sent (answering old.shelf) (answering c.answered.new.self.shelf) 0 old c.answered.new.self c.args.request.now c.in_ok-head.head step (answering-answer old.shelf (length old.told) c.args.request.now) (ap answering step.shelf)
