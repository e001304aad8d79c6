-- The index of the first rule that covers a place.
use Rattle.std.proofs.Common.{◌≡◌, ◌+◌, ◌<◌, ℕ, suc, true, false, List, length, drop, slice_index_or, sym, ap, ◌∙◌, refl, subst, arith}
use Rattle.std.proofs.lemmas.List.{drop_more}
use Rattle.live_admit.specs.Covering.{covers}
use Rattle.live_admit.specs.Rules.{first_for, IsFirstAt}
use Rattle.live_admit.specs.declared.rule.Rule.{Rule}

-- none of the rules before this index covers the place
abbrev pub Passed : {T : Type 0} → List (Rule T) → List ℕ → ℕ → Type 0
Passed rules place at =
    (first_for rules place ≡ first_for (drop at rules) place) × ((i : ℕ) → IsFirstAt (drop at rules) place i → IsFirstAt rules place (at + i))

pub here_first : {T : Type 0} (rules : List (Rule T)) (place : List ℕ) (at : ℕ) (rule : Rule T) → at < length rules → rule ≡ slice_index_or rules at rule → covers rule.images place ≡ true → Passed rules place at → IsFirstAt rules place at
here_first {T} rules place at rule in_it item is passed =
    let here : IsFirstAt (drop at rules) place 0 =
    subst (λ (xs : List (Rule T)). IsFirstAt xs place 0) (sym (drop_more rules at rule in_it)) (subst (λ (x : Rule T). covers x.images place ≡ true) item is) in
    subst (λ (i : ℕ). IsFirstAt rules place i) (omega arith) (passed.1 0 here)

pub one_passed : {T : Type 0} (rules : List (Rule T)) (place : List ℕ) (at : ℕ) (rule : Rule T) → at < length rules → rule ≡ slice_index_or rules at rule → covers rule.images place ≡ false → Passed rules place at → Passed rules place (at + 1)
one_passed {T} rules place at rule in_it item is passed =
    let not_here = subst (λ (x : Rule T). covers x.images place ≡ false) item is in (
      passed.0 ∙ ap (λ (xs : List (Rule T)). first_for xs place) (drop_more rules at rule in_it) ∙ (rw not_here refl),
      λ i rest. subst (λ (i : ℕ). IsFirstAt rules place i) (omega arith) (passed.1 (suc i) (subst (λ (xs : List (Rule T)). IsFirstAt xs place (suc i)) (sym (drop_more rules at rule in_it)) (not_here, rest))),
    )
