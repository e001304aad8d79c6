-- The input, and how it was read.
use Rattle.std.specs.Prelude.{◌≡◌, ℕ, List, Option, Some, None, Result, Ok, Err}
use Rattle.byte_streams.specs.Source.{SourceState}
use Rattle.byte_streams.specs.Reading.{Reads}
use Rattle.byte_streams.specs.declared.reading.ReadRefusal.{ReadRefusal}
use Rattle.byte_streams.specs.declared.reading.ReadRefusal.TheVariants as read
use Rattle.pull_run.specs.declared.status.Status.{Status}
use Rattle.pull_run.specs.declared.status.Status.TheVariants as status

-- the maximum number of bytes of the input
abbrev pub input_limit : ℕ
input_limit = 67108864

-- these bytes are the whole input, which was read to its end and is within the limit
abbrev pub IsInput : List ℕ → SourceState → SourceState → Type 0
IsInput bytes old new = Reads input_limit (Ok bytes) old new

-- it was not read to its end
abbrev pub IsCut : ReadRefusal → SourceState → SourceState → Type 0
IsCut refusal old new = Reads input_limit (Err refusal) old new

-- it was read to its end, and does not parse
abbrev pub IsOther : {X : Type 0} → (List ℕ → Option X) → SourceState → SourceState → Type 0
IsOther reads old new = (bytes : List ℕ) × IsInput bytes old new × (reads bytes ≡ None)

-- it was read to its end, and parses as `x`
abbrev pub IsRead : {X : Type 0} → (List ℕ → Option X) → X → SourceState → SourceState → Type 0
IsRead reads x old new = (bytes : List ℕ) × IsInput bytes old new × (reads bytes ≡ Some x)

-- what the input parses as, or why that is unknown; memory may run out before or after all is read
abbrev pub ReadsInput : {X : Type 0} → (List ℕ → Option X) → Result X Status → SourceState → SourceState → Type 0
ReadsInput reads (Ok x) old new = IsRead reads x old new
ReadsInput reads (Err status.UnreadableInput) old new = IsOther reads old new
ReadsInput reads (Err status.SourceFault) old new = IsCut read.SourceFault old new
ReadsInput reads (Err status.TooLong) old new = IsCut read.TooLong old new
ReadsInput reads (Err status.WantOfMemory) old new = IsCut read.WantOfMemory old new
ReadsInput reads (Err other) old new = ⊥
