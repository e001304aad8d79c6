use Rattle.std.proofs.Common.{refl, ap, ◌∙◌, sym}
use Rattle.pulled_cases.proofs.Openings.{opens}
use Rattle.pulled_cases.proofs.opening.open_with.Goals as goal

pub returns : goal.returns
returns g c = λ usual auth reads constraints. opens c.args.case c.args.asked c.client_by.result c.args.constraints usual auth reads constraints c.client_by.ensures.state c.client_by.ensures.log_keys
