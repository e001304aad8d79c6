use Rattle.std.proofs.Common.{sym, subst}
use Rattle.std.specs.FinMap.{entries_sorted}
use Rattle.json_values.specs.Places.{Sorted}
use Rattle.json_values.proofs.to_value.TextSetToValue.to_value.Goals as goal

pub names_to_members-requires : goal.names_to_members-requires
names_to_members-requires c = subst Sorted (sym c.entries.ensures) (entries_sorted c.args.self.now)
