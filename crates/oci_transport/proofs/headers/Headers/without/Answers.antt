use Rattle.std.proofs.Common.{◌∙◌, ap}
use Rattle.oci_transport.specs.Headers.{kept_fields, without}
use Rattle.oci_transport.proofs.Fields.{kept_is_without, fields_kept}
use Rattle.oci_transport.proofs.headers.Headers.without.Goals as goal

pub returns : goal.returns
returns c = c.in_ok-fields.ensures ∙ ap (kept_fields c.args.name.now) c.entries.ensures ∙ kept_is_without c.args.name.now _ ∙ ap (without c.args.name.now) c.self.view_is

pub invariant_of-result : goal.invariant_of-result
invariant_of-result c = fields_kept c.args.name.now _ _ c.self.invariant (c.in_ok-fields.ensures ∙ ap (kept_fields c.args.name.now) c.entries.ensures)
