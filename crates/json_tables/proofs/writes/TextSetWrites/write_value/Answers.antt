use Rattle.std.proofs.Common.{refl}
use Rattle.json_values.specs.Writing.{empty_object}
use Rattle.json_tables.specs.Objects.{an_object}
use Rattle.json_tables.proofs.Entries.{map_again}
use Rattle.json_tables.proofs.writes.TextSetWrites.write_value.Goals as goal

pub returns-clause-again : goal.returns-clause-again
returns-clause-again c = map_again an_object empty_object (λ _. refl) (λ _. refl) c.args.self.now
