-- Reading a source to its end, up to `limit` bytes.
use Rattle.std.specs.Prelude.{ℕ, ◌≤◌, ◌<◌, List, length, Result, Ok, Err}
use Rattle.std.specs.Io.KnownBytes.{IsAtEnd}
use Rattle.json_values.specs.Counts.{Increased, Unchanged}
use Rattle.byte_streams.specs.Source.{SourceState, Takes}
use Rattle.byte_streams.specs.declared.reading.ReadRefusal.{ReadRefusal}
use Rattle.byte_streams.specs.declared.reading.ReadRefusal.TheVariants.{TooLong, SourceFault, WantOfMemory}

-- these bytes were read, and none is left
abbrev pub TakesAll : List ℕ → SourceState → SourceState → Type 0
TakesAll bytes old new = Takes bytes old new × IsAtEnd new.left

-- at most `limit` bytes were read
abbrev pub TakesWithin : ℕ → SourceState → SourceState → Type 0
TakesWithin limit old new = (front : List ℕ) × Takes front old new × (length front ≤ limit)

-- more than `limit` bytes were read
abbrev pub TakesMore : ℕ → SourceState → SourceState → Type 0
TakesMore limit old new = (front : List ℕ) × Takes front old new × (limit < length front)

-- The bytes read, for each result. The fault count increases if the source failed, and is unchanged otherwise.
abbrev pub Reads : ℕ → Result (List ℕ) ReadRefusal → SourceState → SourceState → Type 0
Reads limit (Ok bytes) old new = TakesAll bytes old new × (length bytes ≤ limit) × Unchanged old.faults new.faults
Reads limit (Err TooLong) old new = TakesMore limit old new × Unchanged old.faults new.faults
Reads limit (Err SourceFault) old new = TakesWithin limit old new × Increased old.faults new.faults
Reads limit (Err WantOfMemory) old new = TakesWithin limit old new × Unchanged old.faults new.faults
