use Rattle.service_models.proofs.Again.{format_again}
use Rattle.service_models.proofs.format.FormatWrites.write_value.Goals as goal

pub returns-clause-again : goal.returns-clause-again
returns-clause-again c = format_again c.args.self.now
