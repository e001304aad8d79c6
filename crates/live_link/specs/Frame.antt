-- Frames: a line of JSON, and then as many bytes as it states.
use Rattle.std.specs.Prelude.{◌≡◌, ℕ, ◌≤◌, ◌==◌, Bool, true, not, List, ◌∷◌, ◌++◌, length, Option, Some, None, codes}
use Rattle.std.specs.List.{list_all}
use Rattle.serde_json.specs.Data.{Data}
use Rattle.json_values.specs.JsonText.{plain_json_of}
use Rattle.json_tables.specs.Reading.{text_of, u64_of}
use Rattle.json_tables.specs.Member.{required, at_name}
use Rattle.live_link.specs.declared.frame.Frame.{Frame}

-- the maximum length of a line, and of the bytes of a piece
abbrev pub most_bytes : ℕ
most_bytes = 1048576

-- not a line feed
abbrev pub is_inside : ℕ → Bool
is_inside b = not (b == 10)

abbrev pub is_line : List ℕ → Bool
is_line line = list_all is_inside line

-- the object that a line contains
abbrev pub head_of : List ℕ → Option Data
head_of line = plain_json_of line

-- how many bytes follow: 0 if the object has no such member
abbrev pub size_in : Option Data → Option ℕ
size_in None = Some 0
size_in (Some d) = u64_of d

abbrev pub size_of : Data → Option ℕ
size_of head = at_name size_in (codes "bytes") head

-- the kind of a frame
abbrev pub kind_of : Data → Option (List ℕ)
kind_of head = required text_of (codes "frame") head

-- `text` is this frame, with at most `most` bytes after its line
pub record IsFrame (most : ℕ) (frame : Frame) (text : List ℕ) : Type 0 where
  pub line : List ℕ
  pub split : text ≡ line ++ 10 ∷ frame.bytes
  pub inside : is_line line ≡ true
  pub short : length line ≤ most_bytes
  pub head : head_of line ≡ Some frame.head
  pub size : size_of frame.head ≡ Some (length frame.bytes)
  pub few : length frame.bytes ≤ most
