-- A list of length 0 or 1 is not a pair.
use Rattle.std.proofs.Common.{◌≡◌, ◌<◌, List, [], ◌∷◌, length, Option, None, refl, arith}
use Rattle.serde_json.specs.declared.value.Value.{Value}
use Rattle.serde_json.specs.Data.{Data}
use Rattle.serde_json.specs.View.{items_view}
use Rattle.json_tables.specs.Reading.{two_by}

pub two_by-short : {X Y : Type 0} (f : Data → Option X) (g : Data → Option Y) (vs : List Value) → length vs < 2 → two_by f g (items_view vs) ≡ None
two_by-short f g [] short = refl
two_by-short f g (v ∷ []) short = refl
two_by-short f g (v ∷ w ∷ vs) short = absurd (omega arith)
