use Rattle.service_models.proofs.Again.{all_of_again}
use Rattle.service_models.proofs.all_of.EntryAllOfWrites.write_value.Goals as goal

pub returns-clause-again : goal.returns-clause-again
returns-clause-again c = all_of_again c.args.self.now
