use Rattle.std.proofs.Common.{◌∙◌, ap}
use Rattle.std.specs.FinMap as map
use Rattle.json_values.specs.Places.{by_bytes}
use Rattle.json_values.proofs.Maps.{from_nothing}
use Rattle.json_values.proofs.map.TextMap.new.Goals as goal

pub returns : goal.returns
returns g c = ap (map.from_sorted {R = by_bytes}) c.new.ensures.items ∙ from_nothing
