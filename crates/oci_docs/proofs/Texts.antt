-- Lists of texts are equal if and only if their texts are.
use Rattle.std.proofs.Common.{◌≡◌, ◌↔◌, ℕ, List, Bool, IsTrue}
use Rattle.std.specs.Str.{bytes_eq}
use Rattle.std.specs.Cmp.Lexicographic.{pointwise}
use Rattle.std.proofs.lemmas.Slice.Eq.{slice_eq-Decides, bytes_eq-Decides}

pub texts_decided : (r : Bool) (xs ys : List (List ℕ)) → r ≡ pointwise bytes_eq xs ys → IsTrue r ↔ (xs ≡ ys)
texts_decided r xs ys e = slice_eq-Decides bytes_eq-Decides xs ys r e
