-- What holds for each algorithm.
use Rattle.std.proofs.Common.{◌≡◌, ◌<◌, ℕ, Bool, true, false, List, length, get_or, Option, Some, refl, sym, ap, ◌∙◌, arith}
use Rattle.std.specs.List.{list_all, list_any}
use Rattle.std.proofs.lemmas.List.Folds.{list_all_at, list_any_at}
use Rattle.oci_names.specs.Algorithms.{all, name_of, algorithm_of}
use Rattle.oci_names.specs.declared.algorithm.Algorithm.{Algorithm}
use Rattle.oci_names.specs.declared.algorithm.Algorithm.TheVariants.{Sha256, Sha384, Sha512}

-- each algorithm is one of all
pub place : (a : Algorithm) → (i : ℕ) × (i < length all) × (get_or all i a ≡ a)
place Sha256 = (0, omega arith, refl)
place Sha384 = (1, omega arith, refl)
place Sha512 = (2, omega arith, refl)

-- the algorithm with its name is itself
pub named : (a : Algorithm) → algorithm_of (name_of a) ≡ Some a
named Sha256 = refl
named Sha384 = refl
named Sha512 = refl

-- a test that all pass
pub each : (p : Algorithm → Bool) → list_all p all ≡ true → (a : Algorithm) → p a ≡ true
each p pass a = let at = place a in by_test (p a) refl at where
  by_test : (b : Bool) → p a ≡ b → (i : ℕ) × (i < length all) × (get_or all i a ≡ a) → b ≡ true
  by_test true is at = refl
  by_test false is at = sym (list_all_at p all at.0 a at.1 (ap p at.2 ∙ is)) ∙ pass

-- a test that one passes
pub some : (p : Algorithm → Bool) (a : Algorithm) → p a ≡ true → list_any p all ≡ true
some p a pass = let at = place a in list_any_at p all at.0 a at.1 (ap p at.2 ∙ pass)
