-- The members of an object as stored: each with its sorting key and its texts.
use Rattle.std.specs.Prelude.{◌≡◌, ℕ, List, [], ◌∷◌, ◌++◌, Bool, map, IsUtf8}
use Rattle.std.specs.List.{join_with_byte, list_any, AllByRecursion}
use Rattle.std.specs.List.Sorted.{IsPermutation}
use Rattle.std.specs.Str.{bytes_eq}
use Rattle.json_values.specs.Canon.{quoted_text}
use Rattle.json_events.specs.declared.property.JsonProperty.{JsonProperty}
use Rattle.json_events.specs.Canonical.{Entry, Rises}
use Rattle.json_events.specs.Units.{units}

abbrev pub property : Entry → JsonProperty
property e = record { sorting_key = units e.0; key = quoted_text e.0; value = e.1 }

-- the stored members are these, in the order of their names' units
pub record Keeps (kept : List JsonProperty) (es : List Entry) : Type 0 where
  pub order : List Entry
  pub same : IsPermutation es order
  pub rises : Rises order
  pub is : kept ≡ map property order
  pub texts : AllByRecursion (λ e. IsUtf8 e.0) es

abbrev pub has_name : List ℕ → List Entry → Bool
has_name name es = list_any (λ e. bytes_eq name e.0) es

abbrev pub kept_text : JsonProperty → List ℕ
kept_text p = p.key ++ 58 ∷ p.value

-- the stored members between braces
abbrev pub kept_object : List JsonProperty → List ℕ
kept_object ps = 123 ∷ (join_with_byte 44 (map kept_text ps) ++ 125 ∷ [])
