-- Splits a list at the commas outside of quoted strings (RFC 9110, 5.6.1).
use Rattle.std.specs.Prelude.{◌≡◌, ℕ, ◌+◌, ◌<◌, ◌==◌, Bool, false, List, [], ◌∷◌, length, take, drop, slice_index}
use Rattle.std.specs.Prelude.{Option, Some, None, if◌then◌else◌}
use Rattle.std.specs.List.{onto_first}
use Rattle.oci_auth.specs.declared.split.Place.{Place}
use Rattle.oci_auth.specs.declared.split.Place.TheVariants.{Outside, Quoted, Escaped}

-- a quote begins or ends a quoted string, and `\` in one escapes the next byte
abbrev pub place_after : Place → ℕ → Place
place_after Outside b = if b == 34 then Quoted else Outside
place_after Quoted b = if b == 34 then Outside else (if b == 92 then Escaped else Quoted)
place_after Escaped b = Quoted

abbrev pub is_comma : Place → ℕ → Bool
is_comma Outside b = b == 44
is_comma Quoted b = false
is_comma Escaped b = false

-- the texts between the commas outside of quoted strings, starting at a place
abbrev pub split_from : Place → List ℕ → List (List ℕ)
split_from place [] = [] ∷ []
split_from place (b ∷ text) =
    if is_comma place b then [] ∷ split_from Outside text else onto_first b (split_from (place_after place b) text)

-- the same for the rest after a comma, if there is one
abbrev pub split_rest : Option (List ℕ) → List (List ℕ)
split_rest (Some text) = split_from Outside text
split_rest None = []

-- a comma at this index ends the first element
pub record SplitsAt (text : List ℕ) (at : ℕ) : Type 0 where
  pub within : at < length text
  pub comma : slice_index text at ≡ 44
  pub split : split_from Outside text ≡ take at text ∷ split_from Outside (drop (at + 1) text)
