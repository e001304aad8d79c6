-- The parts of a frame, as they are read: the line, its object, the bytes after it.
use Rattle.std.specs.Prelude.{◌≡◌, ℕ, ◌≤◌, ◌<◌, true, List, [], length, Some, None, Result, Ok, Err, ⊤}
use Rattle.std.specs.Io.KnownBytes.{IsAtEnd}
use Rattle.serde_json.specs.Data.{Data}
use Rattle.json_values.specs.Counts.{Increased, Unchanged}
use Rattle.byte_streams.specs.Source.{SourceState, Takes}
use Rattle.live_link.specs.Frame.{is_line, most_bytes, head_of, size_of}
use Rattle.live_link.specs.Reading.{size_at, lined, Stops}
use Rattle.live_link.specs.declared.reading.FrameError.{FrameError}
use Rattle.live_link.specs.declared.reading.FrameError.TheVariants.{SourceFault, Ended, TooLong, NoFrame}
use Rattle.live_link.specs.declared.reading.FrameError.TheVariants.{WantOfMemory}

-- a line with its line feed
pub record IsTakenLine (line : List ℕ) (old new : SourceState) : Type 0 where
  pub taken : Takes (lined line []) old new
  pub inside : is_line line ≡ true
  pub short : length line ≤ most_bytes
  pub count : Unchanged old.faults new.faults

abbrev pub ReadsLine : ℕ → Result (List ℕ) FrameError → SourceState → SourceState → Type 0
ReadsLine most (Ok line) old new = IsTakenLine line old new
ReadsLine most (Err e) old new = (text : List ℕ) × Takes text old new × Stops most e text old new

-- the object of a line and its size
abbrev pub ReadsHead : Result (Data × ℕ) FrameError → List ℕ → Type 0
ReadsHead (Ok head) line = (head_of line ≡ Some head.0) × (size_of head.0 ≡ Some head.1)
ReadsHead (Err SourceFault) line = ⊥
ReadsHead (Err Ended) line = ⊥
ReadsHead (Err TooLong) line = ⊥
ReadsHead (Err NoFrame) line = size_at line ≡ None
ReadsHead (Err WantOfMemory) line = ⊤

-- why fewer than `count` bytes were read
abbrev pub ShortRead : ℕ → FrameError → List ℕ → SourceState → SourceState → Type 0
ShortRead n SourceFault part old new = Increased old.faults new.faults
ShortRead n Ended part old new = IsAtEnd new.left × (length part < n) × Unchanged old.faults new.faults
ShortRead n TooLong part old new = ⊥
ShortRead n NoFrame part old new = ⊥
ShortRead n WantOfMemory part old new = Unchanged old.faults new.faults

-- `count` bytes, or a prefix of them
abbrev pub ReadsBytes : ℕ → Result (List ℕ) FrameError → SourceState → SourceState → Type 0
ReadsBytes n (Ok bytes) old new = Takes bytes old new × (length bytes ≡ n) × Unchanged old.faults new.faults
ReadsBytes n (Err e) old new = (part : List ℕ) × Takes part old new × ShortRead n e part old new

-- why no further byte was read
abbrev pub IsNone : FrameError → List ℕ → SourceState → SourceState → Type 0
IsNone SourceFault part old new = Increased old.faults new.faults
IsNone Ended part old new = IsAtEnd new.left × (part ≡ []) × Unchanged old.faults new.faults
IsNone TooLong part old new = ⊥
IsNone NoFrame part old new = ⊥
IsNone WantOfMemory part old new = Unchanged old.faults new.faults

-- at least one byte, and at most `most`, or some that are lost
abbrev pub TakesUpTo : ℕ → Result (List ℕ) FrameError → SourceState → SourceState → Type 0
TakesUpTo most (Ok bytes) old new =
    Takes bytes old new × (0 < length bytes) × (length bytes ≤ most) × Unchanged old.faults new.faults
TakesUpTo most (Err e) old new = (part : List ℕ) × Takes part old new × IsNone e part old new
