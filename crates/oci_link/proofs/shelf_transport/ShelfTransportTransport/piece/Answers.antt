use Rattle.oci_link.specs.State.{answering}
use Rattle.oci_link.proofs.ServedLinks.{gives, whole_bodies}
use Rattle.oci_link.proofs.shelf_transport.ShelfTransportTransport.piece.Goals as goal

pub returns-clause-taken : goal.returns-clause-taken
returns-clause-taken c =
    let old = c.args.self.now.served in
    gives (answering old.shelf) (answering c.next.new.self.shelf) 0 old c.next.new.self c.in_ok-piece.piece (whole_bodies old.shelf) c.in_ok-piece.ensures.ok
