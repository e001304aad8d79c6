-- The members of a value, one after another.
use Rattle.std.proofs.Common.{◌≡◌, ◌≢◌, ℕ, List, [], ◌∷◌, ◌++◌, Bool, true, false, map, refl, sym, ap, ◌∙◌, Option, Some, None, ◌||◌}
use Rattle.std.specs.List.{AllByRecursion, join_with_byte}
use Rattle.std.specs.Str.{bytes_eq}
use Rattle.std.specs.Cmp.Lexicographic.{same_text}
use Rattle.serde_json.specs.Data.{Data, Members, member}
use Rattle.json_events.specs.declared.error.CanonError.{CanonError}
use Rattle.json_events.specs.declared.property.JsonProperty.{JsonProperty}
use Rattle.json_events.specs.Canonical.{Entry, IsObjectText, entry_text}
use Rattle.json_events.specs.Members.{Keeps, has_name, kept_object, kept_text, property}
use Rattle.json_events.specs.Refused.{first_of_two}
use Rattle.json_events.specs.Values.{IsOther}

pub none_first : (a b : Option CanonError) → first_of_two a b ≡ None → a ≡ None
none_first None b e = refl
none_first (Some x) b e = e

pub none_later : (a b : Option CanonError) → first_of_two a b ≡ None → b ≡ None
none_later None b e = e
none_later (Some x) b e = cc

pub others_more : (es : List Entry) (k : List ℕ) (d : Data) (ms : Members) (t : List ℕ) → AllByRecursion (λ e. IsOther e.0 (member k d ms)) es → IsOther k ms → AllByRecursion (λ e. IsOther e.0 ms) (es ++ (k, t) ∷ [])
others_more [] k d ms t all one = (one, tt)
others_more (e ∷ es) k d ms t all one = (all.0.1, others_more es k d ms t all.1 one)

unequal : (a b : List ℕ) (r : Bool) → bytes_eq a b ≡ r → b ≢ a → r ≡ false
unequal a b false e other = refl
unequal a b true e other = absurd (other (sym (same_text a b (sym e))))

pub absent : (es : List Entry) (k : List ℕ) (d : Data) (ms : Members) → AllByRecursion (λ e. IsOther e.0 (member k d ms)) es → has_name k es ≡ false
absent [] k d ms all = refl
absent (e ∷ es) k d ms all = ap (λ b. b || has_name k es) (unequal k e.0 _ refl all.0.0) ∙ absent es k d ms all.1

kept_texts : (es : List Entry) → map kept_text (map property es) ≡ map entry_text es
kept_texts [] = refl
kept_texts (e ∷ es) = ap (λ r. entry_text e ∷ r) (kept_texts es)

-- the stored members write the text of the object
pub kept_is_object : (kept : List JsonProperty) (es : List Entry) → Keeps kept es → IsObjectText es (kept_object kept)
kept_is_object kept es keeps = record {
  order = keeps.order;
  same = keeps.same;
  rises = keeps.rises;
  text = ap kept_object keeps.is ∙ ap (λ ts. 123 ∷ (join_with_byte 44 ts ++ 125 ∷ [])) (kept_texts keeps.order);
}
