use Rattle.std.proofs.Common.{sym, ◌∙◌, ap}
use Rattle.std.specs.FinMap as map
use Rattle.json_values.specs.Places.{by_bytes}
use Rattle.json_values.proofs.map.TextMap.entries.Goals as goal

pub returns : goal.returns
returns g c = c.as_slice.ensures.value ∙ sym (map.entries-from_sorted by_bytes c.self.inside.entries.items c.self.invariant) ∙ ap map.entries c.self.view_is
