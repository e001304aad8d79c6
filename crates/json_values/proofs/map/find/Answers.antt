use Rattle.std.proofs.Common.{sym}
use Rattle.json_values.proofs.Halves.{find_found, find_gap}
use Rattle.json_values.proofs.map.find.Goals as goal

pub returns-in-Ok : goal.returns-in-Ok
returns-in-Ok g c = sym (find_found c.args.name.now c.args.entries.now c.in-Ok.at c.index-entries-at.result (sym c.in-Ok.ensures.place))

pub returns-in-Err : goal.returns-in-Err
returns-in-Err g c = sym (find_gap c.args.name.now c.args.entries.now c.in-Err.field-0 c.requires (sym c.in-Err.ensures.place))
