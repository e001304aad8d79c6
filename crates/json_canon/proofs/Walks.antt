-- Iteration over the rest of a list or an object.
use Rattle.std.proofs.Common.{◌≡◌, ◌≢◌, ℕ, List, [], ◌∷◌, map, Some, None, sym, ap, ◌∙◌, Less, string_bytes, String, ◌+◌, suc, ◌<◌, ◌≤◌, length, get_or, drop, add-one}
use Rattle.std.proofs.Math.Seq.{drop-cons}
use Rattle.std.proofs.Math.ListN.{drop_of_length-le}
use Rattle.std.specs.declared.alloc.Global.{Global}
use Rattle.std.specs.List.{AllByRecursion}
use Rattle.std.specs.List.Sorted.{IsStrictlySortedBy}
use Rattle.std.specs.Cmp.Lexicographic.{slice_cmp, nat_list_cmp_total}
use Rattle.std.specs.Cmp.{tied_itself}
use Rattle.std.specs.Ordering.{nat_cmp}
use Rattle.std.specs.String.{string_cmp}
use Rattle.std.proofs.lemmas.Str.{IsUtf8-string_bytes}
use Rattle.serde_json.specs.Data.{Data, Items, no_items, item}
use Rattle.serde_json.specs.View.{view, items_view, members_view}
use Rattle.serde_json.specs.declared.value.Value.{Value}
use Rattle.json_events.specs.declared.error.CanonError.{CanonError}
use Rattle.json_events.specs.Refused.{refused, refused_items, refused_members, first_of_two}
use Rattle.json_events.specs.Values.{IsValue, AreValues, AreMembers, IsOther}

-- nothing before the rest was refused
pub record ItemsLeft (all left : Items) : Type 0 where
  pub first : refused_items all ≡ refused_items left
  pub values : AreValues left → AreValues all

pub record MembersLeft (all left : List (String Global × Value)) : Type 0 where
  pub first : refused_members (members_view all) ≡ refused_members (members_view left)
  pub values : AreMembers (members_view left) → AreMembers (members_view all)
  pub ordered : IsStrictlySortedBy string_cmp (map (λ e. e.0) left)

pub items_next : (all : Items) (d : Data) (ds : Items) → ItemsLeft all (item d ds) → refused d ≡ None → IsValue d → ItemsLeft all ds
items_next all d ds left plain value = record {
  first = left.first ∙ ap (λ r. first_of_two r (refused_items ds)) plain;
  values = λ rest. left.values (value, rest);
}

pub items_refused : (all : Items) (d : Data) (ds : Items) (e : CanonError) → ItemsLeft all (item d ds) → refused d ≡ Some e → refused_items all ≡ Some e
items_refused all d ds e left is = left.first ∙ ap (λ r. first_of_two r (refused_items ds)) is

pub different : (a b : List ℕ) → slice_cmp nat_cmp a b ≡ Less → a ≢ b
different a b less same = let tied = tied_itself nat_list_cmp_total a in let is = ap (slice_cmp nat_cmp a) same in cc

pub others : (k : String Global) (es : List (String Global × Value)) → AllByRecursion (λ y. string_cmp k y ≡ Less) (map (λ e. e.0) es) → IsOther (string_bytes k) (members_view es)
others k [] below = tt
others k (e ∷ es) below = (different _ _ below.0, others k es below.1)

pub members_next : (all es : List (String Global × Value)) (e : String Global × Value) → MembersLeft all (e ∷ es) → refused (view e.1) ≡ None → IsValue (view e.1) → MembersLeft all es
unfolding IsStrictlySortedBy
members_next all es e left plain value = record {
  first = left.first ∙ ap (λ r. first_of_two r (refused_members (members_view es))) plain;
  values = λ rest. left.values (IsUtf8-string_bytes e.0, others e.0 es left.ordered.0, value, rest);
  ordered = left.ordered.1;
}

pub members_refused : (all es : List (String Global × Value)) (e : String Global × Value) (r : CanonError) → MembersLeft all (e ∷ es) → refused (view e.1) ≡ Some r → refused_members (members_view all) ≡ Some r
members_refused all es e r left is = left.first ∙ ap (λ o. first_of_two o (refused_members (members_view es))) is

pub items_step : (xs : List Value) (i : ℕ) (x : Value) → i < length xs → x ≡ get_or xs i x → items_view (drop i xs) ≡ item (view x) (items_view (drop (i + 1) xs))
items_step xs i x within is = ap items_view (drop-cons xs i x within) ∙ ap (λ y. item (view y) (items_view (drop (suc i) xs))) (sym is) ∙ ap (λ n. item (view x) (items_view (drop n xs))) (sym (add-one i))

pub items_over : (xs : List Value) (i : ℕ) → length xs ≤ i → items_view (drop i xs) ≡ no_items
items_over xs i past = ap items_view (drop_of_length-le xs past)
