use Rattle.std.proofs.Common.{sym, subst}
use Rattle.std.specs.FinMap.{entries_sorted}
use Rattle.json_values.specs.Places.{Sorted}
use Rattle.json_values.proofs.to_value.TextMapToValue.to_value.Goals as goal

pub entries_to_members-requires : goal.entries_to_members-requires
entries_to_members-requires g c = subst Sorted (sym c.entries.ensures) (entries_sorted c.args.self.now)
