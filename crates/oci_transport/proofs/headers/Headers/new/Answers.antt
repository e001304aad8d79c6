use Rattle.std.proofs.Common.{sym, subst}
use Rattle.oci_transport.specs.Headers.{AreFields}
use Rattle.oci_transport.proofs.Fields.{fields_empty}
use Rattle.oci_transport.proofs.headers.Headers.new.Goals as goal

pub invariant_of-result : goal.invariant_of-result
invariant_of-result c = subst AreFields (sym c.new.ensures) fields_empty
