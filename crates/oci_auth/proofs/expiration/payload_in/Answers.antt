use Rattle.oci_auth.proofs.Dots.{four}
use Rattle.oci_auth.proofs.expiration.payload_in.Goals as goal

pub returns-in-Some-cut-2 : goal.returns-in-Some-cut-2
returns-in-Some-cut-2 c =
    four c.args.text.now c.in-Some.field-0-0.now c.in-Some.rest.now c.in-Some-cut.payload.now c.in-Some-cut.last.now c.in-Some-cut-2.field-0.0.now c.in-Some-cut-2.field-0.1.now
    c.in-Some.ensures c.in-Some-cut.ensures c.in-Some-cut-2.ensures
