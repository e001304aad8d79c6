-- Words separated by spaces.
use Rattle.std.proofs.Common.{◌≡◌, ℕ, List, [], ◌∷◌, ◌++◌, sym, ap}
use Rattle.std.proofs.lemmas.List.{append-nil}
use Rattle.pull_report.specs.Words.{spaced, behind_spaces}

pub spaced_behind : (x : List ℕ) (xs : List (List ℕ)) → spaced (x ∷ xs) ≡ x ++ behind_spaces xs
spaced_behind x [] = sym (append-nil x)
spaced_behind x (y ∷ ys) = ap (λ rest. x ++ (32 ∷ rest)) (spaced_behind y ys)
