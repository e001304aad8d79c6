use Rattle.std.proofs.Common.{◌∙◌}
use Rattle.oci_transport.proofs.AddedFields.{named_header}
use Rattle.oci_transport.proofs.headers.with_header.Goals as goal

pub returns : goal.returns
returns c = c.in_ok-more.ensures ∙ named_header c.args.headers c.args.name.now c.args.value.now c.requires
