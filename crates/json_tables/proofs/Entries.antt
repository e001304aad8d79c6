-- A map of values that round-trip round-trips.
use Rattle.std.proofs.Common.{◌≡◌, ℕ, List, [], ◌∷◌, ◌++◌, T, false, ◌||◌, Option, Some, Greater, is_lt, refl, sym, ap, subst, ◌∙◌, append_assoc}
use Rattle.std.specs.FinMap as fin
use Rattle.std.specs.FinMap.{from_sorted}
use Rattle.std.specs.FinMap.Entries.{below_all, by_order}
use Rattle.serde_json.specs.Data.{Data}
use Rattle.serde_json.specs.Written.{has_float, members_have_float}
use Rattle.json_values.specs.Places.{by_bytes, Sorted}
use Rattle.json_values.specs.Writing.{members_list, map_written}
use Rattle.json_values.proofs.Maps.{Entries, from_put, from_nothing}
use Rattle.json_values.proofs.Fronts.{both, both_0, both_1, greater, below_last}
use Rattle.json_tables.specs.Reading.{◌>>=◌, members_by, map_of, Map}
use Rattle.json_tables.specs.Again.{ReadsAgain}

entries_last : {V : Type 0} (es : Entries V) (e : List ℕ × V) → Sorted (es ++ e ∷ []) → fin.Entries.put by_bytes e.0 e.1 es ≡ es ++ e ∷ []
entries_last [] e h = refl
entries_last (y ∷ es) e h =
    let later : by_bytes e.0 y.0 ≡ Greater = greater e.0 y.0 (below_last y.0 es e (both_0 _ _ h)) in
    ap (λ o. by_order o (e ∷ y ∷ es) ((y.0, e.1) ∷ es) (y ∷ fin.Entries.put by_bytes e.0 e.1 es)) later
    ∙ ap (λ fs. y ∷ fs) (entries_last es e (both_1 (below_all by_bytes y.0 (es ++ e ∷ [])) _ h))

below_front : {V : Type 0} (x : List ℕ) (es fs : Entries V) → T (below_all by_bytes x (es ++ fs)) → T (below_all by_bytes x es)
below_front x [] fs h = tt
below_front x (z ∷ es) fs h = both _ _ (both_0 _ _ h) (below_front x es fs (both_1 (is_lt (by_bytes x z.0)) _ h))

sorted_front : {V : Type 0} (es fs : Entries V) → Sorted (es ++ fs) → Sorted es
sorted_front [] fs h = tt
sorted_front (y ∷ es) fs h = both _ _ (below_front y.0 es fs (both_0 _ _ h)) (sorted_front es fs (both_1 (below_all by_bytes y.0 (es ++ fs)) _ h))

-- one more entry, greater than the others
from_sorted_push : {V : Type 0} (es : Entries V) (e : List ℕ × V) → Sorted (es ++ e ∷ []) → fin.insert (from_sorted es) e.0 e.1 ≡ from_sorted {R = by_bytes} (es ++ e ∷ [])
from_sorted_push es e h = sym (ap (from_sorted {R = by_bytes}) (sym (entries_last es e h)) ∙ from_put es (sorted_front es (e ∷ []) h) e.0 e.1)

module _ {V : Type 0} (f : Data → Option V) (w : V → Data) (reads : (x : V) → f (w x) ≡ Some x) where
  -- the rest of the entries, after those that were read
  rest_again : (before es : Entries V) → Sorted (before ++ es) → members_by f (from_sorted before) (members_list w es) ≡ Some (from_sorted (before ++ es))
  rest_again before [] sorted = ap (λ fs. Some (from_sorted fs)) (sym (nothing_behind before))
    where
      nothing_behind : (fs : Entries V) → fs ++ [] ≡ fs
      nothing_behind [] = refl
      nothing_behind (g ∷ fs) = ap (λ gs. g ∷ gs) (nothing_behind fs)
  rest_again before (e ∷ es) sorted =
      let joined = append_assoc before (e ∷ []) es in
      let sorted_both = subst Sorted (sym joined) sorted in
      ap (λ o. o >>= λ x. members_by f (fin.insert (from_sorted before) e.0 x) (members_list w es)) (reads e.1)
      ∙ ap (λ m. members_by f m (members_list w es)) (from_sorted_push before e (sorted_front (before ++ e ∷ []) es sorted_both))
      ∙ rest_again (before ++ e ∷ []) es sorted_both
      ∙ ap (λ fs. Some (from_sorted fs)) joined

  entries_again : (m : Map V) → map_of f (map_written w m) ≡ Some m
  entries_again m =
      ap (λ n. members_by f n (members_list w (fin.entries m))) (sym from_nothing)
      ∙ rest_again [] (fin.entries m) (fin.entries_sorted m)
      ∙ ap Some (fin.same_entries_map _ _ (fin.entries-from_sorted by_bytes (fin.entries m) (fin.entries_sorted m)))

  module _ (plain : (x : V) → has_float (w x) ≡ false) where
    members_plain : (es : Entries V) → members_have_float (members_list w es) ≡ false
    members_plain [] = refl
    members_plain (e ∷ es) = ap (λ b. b || members_have_float (members_list w es)) (plain e.1) ∙ members_plain es

    pub map_again : (m : Map V) → ReadsAgain (map_of f) (map_written w m) m false
    map_again m = record { reads = entries_again m; is_there = refl; plain = λ _. members_plain (fin.entries m) }
