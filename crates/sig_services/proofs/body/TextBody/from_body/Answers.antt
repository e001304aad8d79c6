use Rattle.std.proofs.Common.{◌∙◌}
use Rattle.sig_services.proofs.Values.{is_text, is_no_text}
use Rattle.sig_services.proofs.body.TextBody.from_body.Goals as goal

pub returns-in_ok-text-in-Ok : goal.returns-in_ok-text-in-Ok
returns-in_ok-text-in-Ok c = is_text _ _ (c.in_ok-text-in-Ok.ensures ∙ c.in-Ok.ensures.cases.0) c.in-Ok.ensures.cases.1

pub returns-in-Err : goal.returns-in-Err
returns-in-Err c = is_no_text _ c.in-Err.ensures.cases.0
