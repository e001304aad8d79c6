-- The names of frames.
use Rattle.std.specs.Prelude.{ℕ, List, [], ◌∷◌, Option, Some, None, bytes_eq, codes, if◌then◌else◌}
use Rattle.serde_json.specs.Data.{Data}
use Rattle.json_tables.specs.Reading.{◌>>=◌}
use Rattle.json_tables.specs.Paths.{text_at}

-- the text, if it is this one
abbrev pub equal_to : List ℕ → List ℕ → Option (List ℕ)
equal_to expected text = if bytes_eq text expected then Some text else None

-- the name of a frame, if it is this one
abbrev pub frame_named : List ℕ → Data → Option (List ℕ)
frame_named name d = text_at (codes "frame" ∷ []) d >>= equal_to name
