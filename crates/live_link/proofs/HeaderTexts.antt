-- Headers written one after another.
use Rattle.std.proofs.Common.{◌≡◌, ℕ, zero, suc, ◌≤◌, List, [], ◌∷◌, ◌++◌, length, map, take, slice_get, Option, Some, None, refl, sym, ap, ◌∙◌, append_assoc, append-nil, arith}
use Rattle.std.specs.List.{flat_map}
use Rattle.std.proofs.lemmas.Grind.{flat_map-append}

-- the next item exists
pub within : {X : Type 0} (xs : List X) (n : ℕ) (x : X) → slice_get xs n ≡ Some x → suc n ≤ length xs
within [] n x is = absurd (cc is)
within (y ∷ xs) zero x is = omega arith
within (y ∷ xs) (suc n) x is = let more = within xs n x is in omega (arith, more)

abbrev first_or : {X : Type 0} → X → Option X → X
first_or y None = y
first_or y (Some x) = x

pub take_next : {X : Type 0} (xs : List X) (n : ℕ) (x : X) → slice_get xs n ≡ Some x → take (suc n) xs ≡ take n xs ++ x ∷ []
take_next [] n x is = absurd (cc is)
take_next (y ∷ xs) zero x is = ap (λ o. first_or y o ∷ []) is
take_next (y ∷ xs) (suc n) x is = ap (λ t. y ∷ t) (take_next xs n x is)

pub take_whole : {X : Type 0} (xs : List X) (n : ℕ) → slice_get xs n ≡ None → take n xs ≡ xs
take_whole [] zero is = refl
take_whole [] (suc n) is = refl
take_whole (y ∷ xs) zero is = absurd (cc is)
take_whole (y ∷ xs) (suc n) is = ap (λ t. y ∷ t) (take_whole xs n is)

map-append : {X Y : Type 0} (f : X → Y) (xs ys : List X) → map f (xs ++ ys) ≡ map f xs ++ map f ys
map-append f [] ys = refl
map-append f (x ∷ xs) ys = ap (λ t. f x ∷ t) (map-append f xs ys)

-- one more item is written
pub mapped_next : {X Y Z : Type 0} (view : Z → Y) (f : X → Y) (xs : List X) (n next : ℕ) (x : X) (now new : List Z) (z : Z) (front : List Y)
    → slice_get xs n ≡ Some x → next ≡ suc n → map view now ≡ front ++ map f (take n xs) → new ≡ now ++ z ∷ [] → view z ≡ f x
    → map view new ≡ front ++ map f (take next xs)
mapped_next view f xs n next x now new z front is one before pushed same =
    ap (map view) pushed ∙ map-append view now (z ∷ []) ∙ ap (λ t. t ++ view z ∷ []) before ∙ append_assoc front (map f (take n xs)) (view z ∷ [])
    ∙ ap (λ y. front ++ (map f (take n xs) ++ y ∷ [])) same
    ∙ ap (λ t. front ++ t) (sym (map-append f (take n xs) (x ∷ [])) ∙ ap (map f) (sym (take_next xs n x is) ∙ ap (λ k. take k xs) (sym one)))

-- the items of one more entry are written
pub flat_next : {X Y Z : Type 0} (view : Z → Y) (f : X → List Y) (xs : List X) (n next : ℕ) (x : X) (now new : List Z)
    → slice_get xs n ≡ Some x → next ≡ suc n → map view now ≡ flat_map f (take n xs) → map view new ≡ map view now ++ f x
    → map view new ≡ flat_map f (take next xs)
flat_next view f xs n next x now new is one before added =
    added ∙ ap (λ t. t ++ f x) before
    ∙ ap (λ t. flat_map f (take n xs) ++ t) (sym (append-nil (f x)))
    ∙ sym (flat_map-append f (take n xs) (x ∷ []))
    ∙ ap (flat_map f) (sym (take_next xs n x is) ∙ ap (λ k. take k xs) (sym one))
