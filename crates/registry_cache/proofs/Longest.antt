-- The entries that remain are the longest suffix that fits.
use Rattle.std.proofs.Common.{◌≡◌, arith, List, [], ◌∷◌, ◌++◌, Bool, true, false, Option, Some, None, refl, sym, ap, subst, ◌∙◌}
use Rattle.std.specs.Prelude.{if◌then◌else◌}
use Rattle.std.proofs.lemmas.Bool.{le-leb, and_from}
use Rattle.registry_cache.specs.declared.answers.Bounds.{Bounds}
use Rattle.registry_cache.specs.declared.answers.Entry.{Entry}
use Rattle.registry_cache.specs.Answers.{fits, within}
use Rattle.registry_cache.specs.Bounded.{IsLongestBack, KeepsLongest}

none_fit : (bounds : Option Bounds) → fits bounds [] ≡ true
none_fit None = refl
none_fit (Some b) = and_from _ _ (le-leb 0 b.answers (omega arith)) (le-leb 0 b.bytes (omega arith))

none_gone : (before : List Entry) (e : Entry) → [] ≡ before ++ e ∷ [] → ⊥
none_gone [] e h = cc
none_gone (x ∷ before) e h = cc

first_is : (e x : Entry) (es xs : List Entry) → e ∷ es ≡ x ∷ xs → e ≡ x
first_is e x es xs h = cc

rest_is : (e x : Entry) (es xs : List Entry) → e ∷ es ≡ x ∷ xs → es ≡ xs
rest_is e x es xs h = cc

one_more : (bounds : Option Bounds) (e : Entry) (es kept gone : List Entry) → es ≡ gone ++ kept → fits bounds (e ∷ es) ≡ false
    → ((before : List Entry) (x : Entry) → gone ≡ before ++ x ∷ [] → fits bounds (x ∷ kept) ≡ false)
    → (before : List Entry) (x : Entry) → e ∷ gone ≡ before ++ x ∷ [] → fits bounds (x ∷ kept) ≡ false
one_more bounds e es kept gone whole over longest [] x h =
    let same = first_is e x gone [] h in
    let all : es ≡ kept = whole ∙ ap (λ g. g ++ kept) (rest_is e x gone [] h) in
    subst (λ y. fits bounds (y ∷ kept) ≡ false) same (subst (λ ys. fits bounds (e ∷ ys) ≡ false) all over)
one_more bounds e es kept gone whole over longest (y ∷ before) x h = longest before x (rest_is e y gone (before ++ x ∷ []) h)

back_by : (bounds : Option Bounds) (e : Entry) (es : List Entry) (t : Bool) → fits bounds (e ∷ es) ≡ t
    → IsLongestBack bounds es (within bounds es) → IsLongestBack bounds (e ∷ es) (if t then e ∷ es else within bounds es)
back_by bounds e es true is rest = record { gone = []; whole = refl; fit = is; longest = λ before x h. absurd (none_gone before x h) }
back_by bounds e es false is rest =
    record {
      gone = e ∷ rest.gone;
      whole = ap (λ xs. e ∷ xs) rest.whole;
      fit = rest.fit;
      longest = one_more bounds e es (within bounds es) rest.gone rest.whole is rest.longest;
    }

pub keeps_longest : KeepsLongest
keeps_longest bounds [] = record { gone = []; whole = refl; fit = none_fit bounds; longest = λ before x h. absurd (none_gone before x h) }
keeps_longest bounds (e ∷ es) = back_by bounds e es (fits bounds (e ∷ es)) refl (keeps_longest bounds es)
