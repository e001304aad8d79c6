-- A text split at its dots.
use Rattle.std.proofs.Common.{◌≡◌, ◌≢◌, ◌==◌, ℕ, ◌<◌, true, false, cond, List, [], ◌∷◌, ◌++◌, Option, Some, None, MatchOption, length, get_or, refl, sym, ap, ◌∙◌, arith, Bor}
use Rattle.std.specs.List.{All, onto_first}
use Rattle.std.proofs.lemmas.Bool.Decides.{nat_tests}
use Rattle.std.proofs.lemmas.List.Elements.{All-from_get_or}
use Rattle.std.proofs.lemmas.List.Splits.{slice_split_none, slice_split_at}
use Rattle.oci_auth.specs.Expiration.{parts_of, middle, payload_in}

-- the list contains no dot
abbrev pub Undotted : List ℕ → Type 0
Undotted xs = (i : ℕ) → i < length xs → get_or xs i 0 ≢ 46

undotted : (xs : List ℕ) → Undotted xs → All (λ x. (x == 46) ≡ false) xs
undotted xs h = All-from_get_or (λ x. (x == 46) ≡ false) xs 0 (λ i lt. let ne = h i lt in grind (arith, nat_tests))

at_dot : (text a b : List ℕ) → text ≡ a ++ (46 ∷ b) → Undotted a → parts_of text ≡ a ∷ parts_of b
at_dot text a b e h = rw e (slice_split_at (λ x. x == 46) a 46 b (undotted a h) refl)

pub cuts : (text : List ℕ) (r : Option (Bor (List ℕ) × Bor (List ℕ))) → MatchOption r (Undotted text) (λ x. (text ≡ x.0.now ++ (46 ∷ x.1.now)) × Undotted x.0.now)
    → MatchOption r (parts_of text ≡ text ∷ []) (λ x. parts_of text ≡ x.0.now ∷ parts_of x.1.now)
cuts text None h = slice_split_none (λ x. x == 46) text (undotted text h)
cuts text (Some x) h = at_dot text x.0.now x.1.now h.0 h.1

-- a text of four or more parts has no middle part
more : (first payload third text : List ℕ) → middle (first ∷ (payload ∷ (third ∷ parts_of text))) ≡ None
more first payload third [] = refl
more first payload third (x ∷ xs) =
    elim (x == 46) as (λ t. middle (first ∷ (payload ∷ (third ∷ cond t ([] ∷ parts_of xs) (onto_first x (parts_of xs))))) ≡ None) [
      | true ↦ refl
      | false ↦ elim (parts_of xs) as (λ ps. middle (first ∷ (payload ∷ (third ∷ onto_first x ps))) ≡ None) [ [] ↦ refl | p ∷ ps ↦ refl ]
    ]

pub four : (text first rest payload last third other : List ℕ) → parts_of text ≡ first ∷ parts_of rest → parts_of rest ≡ payload ∷ parts_of last → parts_of last ≡ third ∷ parts_of other
    → None ≡ payload_in text
four text first rest payload last third other e f g =
    sym (ap middle (e ∙ ap (λ ps. first ∷ ps) (f ∙ ap (λ ps. payload ∷ ps) g)) ∙ more first payload third other)
