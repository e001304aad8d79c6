-- Strings at the ends of paths.
use Rattle.std.specs.Prelude.{ℕ, List, [], ◌∷◌, Option}
use Rattle.serde_json.specs.Data.{Data}
use Rattle.serde_json.specs.Find.{get}
use Rattle.json_tables.specs.Reading.{◌>>=◌, text_of}

-- the string at the end of a path of members
abbrev pub text_at : List (List ℕ) → Data → Option (List ℕ)
text_at [] d = text_of d
text_at (name ∷ names) d = get name d >>= text_at names
