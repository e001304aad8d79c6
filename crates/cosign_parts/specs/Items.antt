-- Lists without items.
use Rattle.std.specs.Prelude.{List, [], ◌∷◌, Bool, true, false}

abbrev pub has_no_item : {A : Type 0} → List A → Bool
has_no_item [] = true
has_no_item (x ∷ xs) = false
