-- Items that are normalized one after another.
use Rattle.std.proofs.Common.{◌≡◌, List, [], ◌∷◌, map, refl, ap}
use Rattle.serde_json.specs.declared.value.Value.{Value}
use Rattle.serde_json.specs.Data.{Data, item}
use Rattle.serde_json.specs.View.{view, items_of}
use Rattle.oci_docs.specs.Nfc.{composed, composed_items}

abbrev pub composed_view : Value → Data
composed_view v = composed (view v)

pub items_composed : (vs : List Value) → items_of (map composed_view vs) ≡ composed_items (items_of (map view vs))
items_composed [] = refl
items_composed (v ∷ vs) = ap (item (composed_view v)) (items_composed vs)
