-- The text of a frame.
use Rattle.std.specs.Prelude.{ℕ, List, ◌∷◌, ◌++◌}
use Rattle.serde_json.specs.Data.{Data}
use Rattle.serde_json.specs.Written.{compact_text}

-- the line, and then these bytes
abbrev pub frame_text : Data → List ℕ → List ℕ
frame_text head bytes = compact_text head ++ 10 ∷ bytes
