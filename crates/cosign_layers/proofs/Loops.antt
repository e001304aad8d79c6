-- What loops over a list establish about its tests.
use Rattle.std.proofs.Common.{◌≡◌, ℕ, ◌<◌, ◌+◌, zero, suc, ◌&&◌, Bool, true, false, List, [], ◌∷◌, length, get_or, Some, None, cond, arith, refl, sym, ap, ◌∙◌, nat_lt}
use Rattle.std.specs.List.{list_all, list_any, position, position_or_len}
use Rattle.std.proofs.lemmas.List.Folds.{list_any_at, list_any_none}
use Rattle.std.proofs.lemmas.List.Sums.{position_or_len_is}
use Rattle.std.proofs.lemmas.Bool.{lt-ltb, le-ltb}

module _ {X : Type 0} (p : X → Bool) where
  pub none_found : (xs : List X) → ((k : ℕ) (d : X) → k < length xs → p (get_or xs k d) ≡ false) → list_any p xs ≡ false
  none_found xs h = list_any_none p xs (λ k d inside. h k d inside)

  pub one_found : (xs : List X) (k : ℕ) (d : X) → k < length xs → p (get_or xs k d) ≡ true → list_any p xs ≡ true
  one_found = list_any_at p

  pub all_passed : (xs : List X) → ((k : ℕ) (d : X) → k < length xs → p (get_or xs k d) ≡ true) → list_all p xs ≡ true
  all_passed [] h = refl
  all_passed (x ∷ xs) h = ap (λ b. b && list_all p xs) (h 0 x (omega arith)) ∙ all_passed xs (λ k d inside. h (suc k) d (omega arith))

  -- one more passed, so all so far do
  pub one_more_passed : (xs : List X) (n : ℕ) (x : X) → n < length xs → x ≡ get_or xs n x → p x ≡ true
      → ((k : ℕ) (d : X) → k < n → p (get_or xs k d) ≡ true) → (k : ℕ) (d : X) → k < n + 1 → p (get_or xs k d) ≡ true
  one_more_passed [] n x inside is here before k d below = absurd (omega arith)
  one_more_passed (y ∷ ys) zero x inside is here before zero d below = ap p (sym is) ∙ here
  one_more_passed (y ∷ ys) zero x inside is here before (suc k) d below = absurd (omega arith)
  one_more_passed (y ∷ ys) (suc n) x inside is here before zero d below = before 0 d (omega arith)
  one_more_passed (y ∷ ys) (suc n) x inside is here before (suc k) d below =
      one_more_passed ys n x (omega arith) is here (λ j e b. before (suc j) e (omega arith)) k d (omega arith)

  pub first_place : (xs : List X) (i : ℕ) (d : X) → i < length xs → ((k : ℕ) (d : X) → k < i → p (get_or xs k d) ≡ false) → p (get_or xs i d) ≡ true → position p xs ≡ Some i
  first_place xs i d inside before here =
      let at : position_or_len p xs ≡ i = position_or_len_is p xs i d (omega arith) (λ k l. before k d l) (λ _. here) in
      ap (λ n. cond (nat_lt n (length xs)) (Some n) None) at ∙ ap (λ b. cond b (Some i) None) (lt-ltb i (length xs) inside)

  pub no_place : (xs : List X) → ((k : ℕ) (d : X) → k < length xs → p (get_or xs k d) ≡ false) → position p xs ≡ None
  no_place [] before = refl
  no_place (x ∷ xs) before =
      let all = x ∷ xs in
      let at : position_or_len p all ≡ length all = position_or_len_is p all (length all) x (omega arith) (λ k l. before k x l) (λ l. absurd (omega arith)) in
      ap (λ n. cond (nat_lt n (length all)) (Some n) None) at ∙ ap (λ b. cond b (Some (length all)) None) (le-ltb (length all) (length all) (omega arith))
