-- Which entries remain within bounds.
use Rattle.std.specs.Prelude.{◌≡◌, List, [], ◌∷◌, ◌++◌, Option, None, true, false}
use Rattle.registry_cache.specs.declared.answers.Bounds.{Bounds}
use Rattle.registry_cache.specs.declared.answers.Entry.{Entry}
use Rattle.registry_cache.specs.Answers.{fits, within}

-- what remains is a suffix of the list and fits; with one more entry it would not fit
pub record IsLongestBack (bounds : Option Bounds) (es kept : List Entry) : Type 0 where
  pub gone : List Entry
  pub whole : es ≡ gone ++ kept
  pub fit : fits bounds kept ≡ true
  pub longest : (before : List Entry) (e : Entry) → gone ≡ before ++ e ∷ [] → fits bounds (e ∷ kept) ≡ false

abbrev pub KeepsLongest : Type 0
KeepsLongest = (bounds : Option Bounds) (es : List Entry) → IsLongestBack bounds es (within bounds es)

-- without bounds nothing is evicted
abbrev pub KeepsAll : Type 0
KeepsAll = (es : List Entry) → within None es ≡ es
