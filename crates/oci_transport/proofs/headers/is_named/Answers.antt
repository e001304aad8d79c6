use Rattle.oci_transport.proofs.Fields.{named}
use Rattle.oci_transport.proofs.headers.is_named.Goals as goal

pub returns : goal.returns
returns c = named c.eq_ignore_ascii_case.result c.args.lower.now c.args.name.now c.requires c.eq_ignore_ascii_case.ensures.test
