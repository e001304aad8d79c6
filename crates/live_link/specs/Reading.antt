-- Reading a frame from a source.
use Rattle.std.specs.Prelude.{◌≡◌, ℕ, ◌<◌, true, List, [], ◌∷◌, ◌++◌, length, Option, Some, None, Result, Ok, Err}
use Rattle.std.specs.Io.KnownBytes.{IsAtEnd}
use Rattle.json_values.specs.Counts.{Increased, Unchanged}
use Rattle.json_tables.specs.Reading.{◌>>=◌}
use Rattle.byte_streams.specs.Source.{SourceState, Takes}
use Rattle.live_link.specs.Frame.{IsFrame, is_line, most_bytes, head_of, size_of}
use Rattle.live_link.specs.declared.frame.Frame.{Frame}
use Rattle.live_link.specs.declared.reading.FrameError.{FrameError}
use Rattle.live_link.specs.declared.reading.FrameError.TheVariants.{SourceFault, Ended, TooLong, NoFrame}
use Rattle.live_link.specs.declared.reading.FrameError.TheVariants.{WantOfMemory}

-- the size that a line states
abbrev pub size_at : List ℕ → Option ℕ
size_at line = head_of line >>= size_of

-- a line and its line feed, and then these bytes
abbrev pub lined : List ℕ → List ℕ → List ℕ
lined line bytes = line ++ 10 ∷ bytes

-- a line that is too long, or states more than `most` bytes
pub data IsLong (most : ℕ) (text : List ℕ) : Type 0 where
  a_line : is_line text ≡ true → most_bytes < length text → IsLong most text
  a_size : (line : List ℕ) (n : ℕ) → text ≡ lined line [] → size_at line ≡ Some n → most < n → IsLong most text

-- a prefix of a frame: of its line, or of the bytes after it
pub data IsCut (text : List ℕ) : Type 0 where
  in_line : is_line text ≡ true → IsCut text
  in_bytes : (line part : List ℕ) (n : ℕ)
      → text ≡ lined line part → size_at line ≡ Some n → length part < n → IsCut text

-- a line that is not an object with a size
pub data IsNoHead (text : List ℕ) : Type 0 where
  no_head : (line : List ℕ) → text ≡ lined line [] → is_line line ≡ true → size_at line ≡ None → IsNoHead text

-- why what was taken is not a frame
abbrev pub Stops : ℕ → FrameError → List ℕ → SourceState → SourceState → Type 0
Stops most SourceFault text old new = Increased old.faults new.faults
Stops most Ended text old new = IsAtEnd new.left × IsCut text × Unchanged old.faults new.faults
Stops most TooLong text old new = IsLong most text × Unchanged old.faults new.faults
Stops most NoFrame text old new = IsNoHead text × Unchanged old.faults new.faults
Stops most WantOfMemory text old new = Unchanged old.faults new.faults

-- What was taken: a frame, or something else. The fault count increases if and only if the source failed.
abbrev pub ReadsFrame : ℕ → Result Frame FrameError → SourceState → SourceState → Type 0
ReadsFrame most (Ok frame) old new =
    (text : List ℕ) × Takes text old new × IsFrame most frame text × Unchanged old.faults new.faults
ReadsFrame most (Err e) old new = (text : List ℕ) × Takes text old new × Stops most e text old new
