use Rattle.std.proofs.Common.{◌≡◌, map, drop}
use Rattle.serde_json.specs.View.{view}
use Rattle.json_tables.specs.Paths.{text_at}
use Rattle.json_tables.proofs.paths.text_at.Given as goal

abbrev pub invariant-loop-name : goal.invariant-loop-name
invariant-loop-name l = text_at (map (λ name. name.now) l.names) (view l.value) ≡ text_at (map (λ name. name.now) (drop l.name-index l.names)) (view l.found)
