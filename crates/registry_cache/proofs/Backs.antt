-- The longest suffix of a list of entries that is within bounds.
use Rattle.std.proofs.Common.{◌≡◌, ℕ, zero, suc, ◌+◌, ◌-◌, ◌^◌, ◌≤◌, ◌<◌, min, List, [], ◌∷◌, Bool, true, false, ◌&&◌, Option, Some, None, length, take, drop, ◌++◌, get_or, refl, sym, ap, ◌∙◌, subst, arith, true≢false}
use Rattle.std.specs.Prelude.{if◌then◌else◌, nat_le}
use Rattle.std.proofs.lemmas.Bool.{leb-true, le-leb, lt-leb, and_parts, and_from, and_left, and_right}
use Rattle.std.proofs.lemmas.List.{length-drop, drop_more, drop_all, take-append-le, take_rest}
use Rattle.std.proofs.lemmas.List.Sums.{sum_by-cons}
use Rattle.registry_cache.specs.declared.answers.Bounds.{Bounds}
use Rattle.registry_cache.specs.declared.answers.Entry.{Entry}
use Rattle.registry_cache.specs.Answers.{fits, within}
use Rattle.registry_cache.specs.Weights.{counted, entry_weight, weight}

below : (a b c : ℕ) → a + b ≤ c → b ≤ c
below a b c h = omega arith

-- if an entry and what follows it fit together, what follows it fits
fits_after : (b : Bounds) (e : Entry) (es : List Entry) → fits (Some b) (e ∷ es) ≡ true → fits (Some b) es ≡ true
fits_after b e es h =
    let both = and_parts (nat_le (length (e ∷ es)) b.answers) (nat_le (weight (e ∷ es)) b.bytes) h in
    let few : length (e ∷ es) ≤ b.answers = leb-true (length (e ∷ es)) b.answers both.0 in
    let light : entry_weight e + weight es ≤ b.bytes = subst (λ w. w ≤ b.bytes) (sum_by-cons entry_weight e es) (leb-true (weight (e ∷ es)) b.bytes both.1) in
    and_from _ _ (le-leb (length es) b.answers (omega arith)) (le-leb (weight es) b.bytes (below (entry_weight e) (weight es) b.bytes light))

fits_back : (b : Bounds) (n : ℕ) (es : List Entry) → fits (Some b) es ≡ true → fits (Some b) (drop n es) ≡ true
fits_back b zero es h = h
fits_back b (suc n) [] h = h
fits_back b (suc n) (e ∷ es) h = fits_back b n es (fits_after b e es h)

not_true : (b : Bool) → (b ≡ true → ⊥) → b ≡ false
not_true true h = absurd (h refl)
not_true false h = refl

-- if a suffix does not fit, the whole list does not
too_much : (b : Bounds) (n : ℕ) (es : List Entry) → fits (Some b) (drop n es) ≡ false → fits (Some b) es ≡ false
too_much b n es over = not_true (fits (Some b) es) (λ h. true≢false (sym (fits_back b n es h) ∙ over))

pub within_fitting : (bounds : Option Bounds) (es : List Entry) → fits bounds es ≡ true → within bounds es ≡ es
within_fitting bounds [] h = refl
within_fitting bounds (e ∷ es) h = ap (λ t. if t then e ∷ es else within bounds es) h

within_after : (bounds : Option Bounds) (e : Entry) (es : List Entry) → fits bounds (e ∷ es) ≡ false → within bounds (e ∷ es) ≡ within bounds es
within_after bounds e es h = ap (λ t. if t then e ∷ es else within bounds es) h

-- without bounds nothing is evicted
pub within_none : (es : List Entry) → within None es ≡ es
within_none es = within_fitting None es refl

within_from : (b : Bounds) (n : ℕ) (es : List Entry) → fits (Some b) (drop (suc n) es) ≡ true → fits (Some b) (drop n es) ≡ false → within (Some b) es ≡ drop (suc n) es
within_from b n [] fit over = refl
within_from b zero (e ∷ es) fit over = within_after (Some b) e es over ∙ within_fitting (Some b) es fit
within_from b (suc n) (e ∷ es) fit over = within_after (Some b) e es (too_much b (suc n) (e ∷ es) over) ∙ within_from b n es fit over

-- the longest suffix: it fits, and with one more entry it does not
pub within_is : (b : Bounds) (start : ℕ) (es : List Entry) → 0 < start → fits (Some b) (drop start es) ≡ true → fits (Some b) (drop (start - 1) es) ≡ false → within (Some b) es ≡ drop start es
within_is b start es h fit over =
    let one : suc (start - 1) ≡ start = omega arith in
    subst (λ n. within (Some b) es ≡ drop n es) one (within_from b (start - 1) es (subst (λ n. fits (Some b) (drop n es) ≡ true) (sym one) fit) over)

-- ---- weights summed from the end

counted_sum : (a b w x s : ℕ) → w ≡ counted b → x ≡ counted a → s ≡ min (w + x) (2 ^ 128 - 1) → s ≡ counted (a + b)
counted_sum a b w x s is also sum = omega arith

one_more : (es : List Entry) (start : ℕ) (e : Entry) → 0 < start → start ≤ length es → e ≡ get_or es (start - 1) e → drop (start - 1) es ≡ e ∷ drop start es
one_more es start e h low is =
    let one : start - 1 + 1 ≡ start = omega arith in
    let first : get_or es (start - 1) e ≡ e = sym is in
    drop_more es (start - 1) e (omega arith) ∙ (λ i. first i ∷ drop (one i) es)

-- the weight with the entry before it
pub counted_more : (es : List Entry) (start : ℕ) (e : Entry) (w x s : ℕ) → 0 < start → start ≤ length es → e ≡ get_or es (start - 1) e
    → w ≡ counted (weight (drop start es)) → x ≡ counted (entry_weight e) → s ≡ min (w + x) (2 ^ 128 - 1) → s ≡ counted (weight (drop (start - 1) es))
counted_more es start e w x s h low is before own sum =
    counted_sum (entry_weight e) (weight (drop start es)) w x s before own sum
    ∙ ap counted (sym (ap weight (one_more es start e h low is) ∙ sum_by-cons entry_weight e (drop start es)))

capped_over : (w s bytes : ℕ) → s ≡ counted w → bytes < s → bytes < w
capped_over w s bytes is over = omega arith

-- more entries than the bound
pub over_count : (b : Bounds) (es : List Entry) (n count : ℕ) → count ≡ length es - n → b.answers < count → fits (Some b) (drop n es) ≡ false
over_count b es n count is over = and_left _ _ (lt-leb (length (drop n es)) b.answers (subst (λ c. b.answers < c) (is ∙ sym (length-drop n es)) over))

-- more bytes than the bound
pub over_weight : (b : Bounds) (es : List Entry) (n s : ℕ) → s ≡ counted (weight (drop n es)) → b.bytes < s → fits (Some b) (drop n es) ≡ false
over_weight b es n s is over = and_right _ _ (lt-leb (weight (drop n es)) b.bytes (capped_over (weight (drop n es)) s b.bytes is over))

-- if the loop reaches the first entry, everything fits
pub all_fit : (b : Bounds) (start : ℕ) (es : List Entry) → start ≡ 0 → fits (Some b) (drop start es) ≡ true → within (Some b) es ≡ es
all_fit b zero es is fit = within_fitting (Some b) es fit
all_fit b (suc n) es is fit = absurd (omega arith)
