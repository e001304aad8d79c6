use Rattle.std.proofs.Common.{sym, ◌∙◌}
use Rattle.oci_auth.proofs.Fronts.{text_is_utf8}
use Rattle.oci_auth.proofs.bearer.text_of.Goals as goal

pub returns-in-Err : goal.returns-in-Err
returns-in-Err c = absurd (c.in-Err.ensures.cases.0 (text_is_utf8 c.args.value.now (sym c.is_text.ensures ∙ c.if-not-is_text.false)))
