use Rattle.service_models.proofs.Again.{proposed_entry_again}
use Rattle.service_models.proofs.proposed_entry.ProposedEntryWrites.write_value.Goals as goal

pub returns-clause-again : goal.returns-clause-again
returns-clause-again c = proposed_entry_again c.args.self.now
