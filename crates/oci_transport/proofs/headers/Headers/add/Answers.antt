use Rattle.std.proofs.Common.{sym, ◌∙◌}
use Rattle.oci_transport.proofs.Fields.{few_held}
use Rattle.oci_transport.proofs.headers.Headers.add.Goals as goal

pub returns-clause-accepted : goal.returns-clause-accepted
returns-clause-accepted c = (
  sym c.is_header_value.ensures ∙ c.if-not-is_header_value.false,
  few_held _ _ _ _ c.is_full.ensures c.entries.ensures c.self.view_is c.if-is_full.false,
)
