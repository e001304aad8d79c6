use Rattle.json_tables.proofs.Pairs.{two_by-short}
use Rattle.json_tables.proofs.lists.read_two.Goals as goal

pub returns-in_default : goal.returns-in_default
returns-in_default g c = two_by-short _ _ _ c.in_default.len_below
