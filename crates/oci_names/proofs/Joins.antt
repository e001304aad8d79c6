use Rattle.std.proofs.Common.{◌≡◌, ℕ, ◌-◌, List, Bool, true, Some, length}
use Rattle.std.specs.Prelude.{slice_get}
use Rattle.std.specs.List.{list_all, slice_split}
use Rattle.oci_names.specs.Grammar.{is_joined}

-- if the first and the last byte are letters, the runs between letters decide
pub joined_from : (letter : ℕ → Bool) (separator : List ℕ → Bool) (xs : List ℕ) (first last : ℕ) (r : Bool) → Some first ≡ slice_get xs 0 → Some last ≡ slice_get xs (length xs - 1) → letter first ≡ true → letter last ≡ true → r ≡ list_all separator (slice_split letter xs) → r ≡ is_joined letter separator xs
joined_from letter separator xs first last r e f p q h = rw (← e, ← f, p, q) h
