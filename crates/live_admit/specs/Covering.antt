-- Which images a rule covers.
use Rattle.std.specs.Prelude.{ℕ, ◌==◌, List, [], ◌∷◌, ◌++◌, Bool, true, ◌&&◌, nat_eq, length, drop, codes}
use Rattle.std.specs.List.{starts_with}
use Rattle.oci_names.specs.declared.reference.Reference.{Reference}

-- the registry and the repository, as the reference names them
abbrev pub place_of : Reference → List ℕ
place_of image = image.registry ++ codes "/" ++ image.repository

-- whether a rest is empty or begins with a slash
abbrev pub goes_on : List ℕ → Bool
goes_on [] = true
goes_on (b ∷ rest) = b == 47

-- whether a place is this one, or goes on from it after a slash
abbrev pub covers : List ℕ → List ℕ → Bool
covers images place = starts_with nat_eq place images && goes_on (drop (length images) place)
