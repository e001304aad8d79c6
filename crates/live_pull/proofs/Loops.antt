-- A list of keys, read in part.
use Rattle.std.proofs.Common.{◌≡◌, ℕ, List, [], ◌∷◌, ◌++◌, Some, sym, ap, ◌∙◌, ◌+◌, suc, ◌<◌, length, get_or, drop, add-one}
use Rattle.std.proofs.Math.Seq.{drop-cons}
use Rattle.serde_json.specs.Data.{item}
use Rattle.serde_json.specs.View.{view, items_view}
use Rattle.serde_json.specs.declared.value.Value.{Value}
use Rattle.json_tables.specs.Reading.{items_by}
use Rattle.json_tables.proofs.Partial.{items_step, with_front}
use Rattle.live_pull.specs.Settings.{key_of}

next_item : (xs : List Value) (i : ℕ) (x : Value) → i < length xs → x ≡ get_or xs i x → items_view (drop i xs) ≡ item (view x) (items_view (drop (i + 1) xs))
next_item xs i x within is = ap items_view (drop-cons xs i x within) ∙ ap (λ y. item (view y) (items_view (drop (suc i) xs))) (sym is) ∙ ap (λ n. item (view x) (items_view (drop n xs))) (sym (add-one i))

-- one more key was read
pub next_key : (xs : List Value) (i : ℕ) (x : Value) (before after : List (List ℕ)) (key : List ℕ) → i < length xs → x ≡ get_or xs i x
    → items_by key_of (items_view xs) ≡ with_front before (items_by key_of (items_view (drop i xs))) → key_of (view x) ≡ Some key → after ≡ before ++ key ∷ []
    → items_by key_of (items_view xs) ≡ with_front after (items_by key_of (items_view (drop (i + 1) xs)))
next_key xs i x before after key within is so_far read pushed =
    so_far ∙ ap (λ ds. with_front before (items_by key_of ds)) (next_item xs i x within is)
    ∙ items_step key_of before key (view x) (items_view (drop (i + 1) xs)) read
    ∙ ap (λ (ys : List (List ℕ)). with_front ys (items_by key_of (items_view (drop (i + 1) xs)))) (sym pushed)
