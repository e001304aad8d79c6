-- References as records of parts, and the first layer that satisfies the policy.
use Rattle.std.proofs.Common.{◌≡◌, ◌≤◌, ◌<◌, ◌+◌, arith, get_or, not, ℕ, Bool, true, false, cond, nat_lt, length, List, [], ◌∷◌, Option, Some, None, refl, sym, ap, ◌∙◌}
use Rattle.std.specs.Prelude.{find, position}
use Rattle.std.specs.List.{position_or_len, slice_get}
use Rattle.std.proofs.lemmas.List.Folds.{find_at}
use Rattle.std.proofs.lemmas.Bool.{ltb-false, lt-ltb, le-ltb}
use Rattle.std.proofs.lemmas.List.Sums.{position_or_len_is}
use Rattle.std.proofs.lemmas.Option.{slice_get_past}
use Rattle.oci_names.specs.declared.reference.Reference.{Reference}
use Rattle.oci_names.specs.Reference.{registry_of, mirror_of, repository_of, tag_of, digest_of}

-- a reference is determined by its parts
pub of_parts : (r : Reference) {registry repository : List ℕ} {mirror tag digest : Option (List ℕ)} → registry_of r ≡ registry → mirror_of r ≡ mirror → repository_of r ≡ repository → tag_of r ≡ tag → digest_of r ≡ digest
    → r ≡ record { registry = registry; mirror = mirror; repository = repository; tag = tag; digest = digest }
of_parts r a b c d e = rw (← a, ← b, ← c, ← d, ← e) refl

at_place : {X : Type 0} (n m i : ℕ) (xs : List X) → cond (nat_lt n m) (Some n) None ≡ Some i → slice_get xs n ≡ slice_get xs i
at_place n m i xs is = by_test (nat_lt n m) is where
  by_test : (b : Bool) → cond b (Some n) None ≡ Some i → slice_get xs n ≡ slice_get xs i
  by_test true h = let same : n ≡ i = cc h in ap (λ k. slice_get xs k) same
  by_test false h = absurd (cc h)

-- the item at the first index
pub first_at : {X : Type 0} (p : X → Bool) (xs : List X) (i : ℕ) → position p xs ≡ Some i → find p xs ≡ slice_get xs i
first_at p xs i is = find_at p xs ∙ at_place (position_or_len p xs) (length xs) i xs is

past : (n m : ℕ) → cond (nat_lt n m) (Some n) None ≡ None → m ≤ n
past n m is = by_test (nat_lt n m) refl is where
  by_test : (b : Bool) → nat_lt n m ≡ b → cond b (Some n) None ≡ None → m ≤ n
  by_test true so h = absurd (cc h)
  by_test false so h = ltb-false n m so

-- if there is no index, there is no item
pub none_at : {X : Type 0} (p : X → Bool) (xs : List X) → position p xs ≡ None → find p xs ≡ None
none_at {X} p xs is = find_at p xs ∙ slice_get_past xs (position_or_len p xs) (past (position_or_len p xs) (length xs) is)

-- what a loop that searches for an index has established
module _ {X : Type 0} (p : X → Bool) where
  pub first_place : (xs : List X) (i : ℕ) (d : X) → i < length xs → ((k : ℕ) (d : X) → k < i → p (get_or xs k d) ≡ false) → p (get_or xs i d) ≡ true → position p xs ≡ Some i
  first_place xs i d inside before here =
      let at : position_or_len p xs ≡ i = position_or_len_is p xs i d (omega arith) (λ k l. before k d l) (λ _. here) in
      ap (λ n. cond (nat_lt n (length xs)) (Some n) None) at ∙ ap (λ b. cond b (Some i) None) (lt-ltb i (length xs) inside)

  pub no_place : (xs : List X) → ((k : ℕ) (d : X) → k < length xs → p (get_or xs k d) ≡ false) → position p xs ≡ None
  no_place [] before = refl
  no_place (x ∷ xs) before =
      let all = x ∷ xs in
      let at : position_or_len p all ≡ length all = position_or_len_is p all (length all) x (omega arith) (λ k l. before k x l) (λ l. absurd (omega arith)) in
      ap (λ n. cond (nat_lt n (length all)) (Some n) None) at ∙ ap (λ b. cond b (Some (length all)) None) (le-ltb (length all) (length all) (omega arith))
