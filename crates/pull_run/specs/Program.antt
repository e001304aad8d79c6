-- What the program did, by its exit status, and the exit status for an input.
use Rattle.std.specs.Prelude.{◌≡◌, ◌≤◌, ◌<◌, ◌-◌, ◌⊎◌, ◌↔◌, ℕ, Bool, true, false, List, length, Option, Some, None}
use Rattle.json_values.specs.Counts.{Increased, Unchanged}
use Rattle.byte_streams.specs.SinkState.{SinkState, Adds, AddsProperPrefix}
use Rattle.byte_streams.specs.Source.{SourceState}
use Rattle.byte_streams.specs.Reading.{TakesWithin}
use Rattle.byte_streams.specs.declared.reading.ReadRefusal.TheVariants as read
use Rattle.pull_run.specs.Command.{command_of}
use Rattle.pull_run.specs.Generated.{GeneratedStatusMeans}
use Rattle.pull_run.specs.Input.{input_limit, IsCut, IsOther, IsRead}
use Rattle.pull_run.specs.Status.{code_of}
use Rattle.pull_run.specs.Task.{Task, task_of}
use Rattle.pull_run.specs.Word.{word_of}
use Rattle.pull_run.specs.declared.command.Command.{Command}
use Rattle.pull_run.specs.declared.command.Command.TheVariants.{Reads, Generates}
use Rattle.pulled_cases.specs.declared.report.Report.{Report}
use Rattle.pull_run.specs.declared.status.Status.{Status}
use Rattle.pull_run.specs.declared.status.Status.TheVariants as status
use Rattle.pull_run.specs.declared.word.Word.{Word}

-- this is the output for the whole input
pub record Makes (task : Task) (made : Report) (old new : SourceState) : Type 0 where
  pub input : task.Input
  pub is_read : IsRead task.reads input old new
  pub gives : task.Gives input made

-- the output was written whole
pub record Writes (task : Task) (refused : Bool) (old new : SourceState) (before after : SinkState) : Type 0 where
  pub made : Report
  pub makes : Makes task made old new
  pub refused_is : made.refused ≡ refused
  pub out : Adds made.bytes before after
  pub count : Unchanged before.faults after.faults

-- a proper prefix of the output was written
pub record WritesProperPrefix (task : Task) (old new : SourceState) (before after : SinkState) : Type 0 where
  pub made : Report
  pub makes : Makes task made old new
  pub out : AddsProperPrefix made.bytes before after

-- what a task's status means; nothing was written unless it says so
abbrev pub TaskStatusMeans : Task → Status → SourceState → SourceState → SinkState → SinkState → Type 0
TaskStatusMeans task status.Done old new before after = Writes task false old new before after
TaskStatusMeans task status.Refused old new before after = Writes task true old new before after
TaskStatusMeans task status.Usage old new before after = ⊥
TaskStatusMeans task status.UnreadableInput old new before after = IsOther task.reads old new × (after ≡ before)
TaskStatusMeans task status.SourceFault old new before after = IsCut read.SourceFault old new × (after ≡ before)
TaskStatusMeans task status.SinkFault old new before after =
    WritesProperPrefix task old new before after × Increased before.faults after.faults
TaskStatusMeans task status.WantOfMemory old new before after =
    TakesWithin input_limit old new × Unchanged old.faults new.faults
    × ((after ≡ before) ⊎ (WritesProperPrefix task old new before after × Unchanged before.faults after.faults))
TaskStatusMeans task status.TooLong old new before after = IsCut read.TooLong old new × (after ≡ before)

-- what a status means; if the arguments match no supported form, nothing was read or written
abbrev pub CommandStatusMeans : Option Command → Status → SourceState → SourceState → SinkState → SinkState → Type 0
CommandStatusMeans (Some (Reads word)) s old new before after = TaskStatusMeans (task_of word) s old new before after
CommandStatusMeans (Some (Generates layers)) s old new before after = GeneratedStatusMeans layers s old new before after
CommandStatusMeans None s old new before after = (s ≡ status.Usage) × (new ≡ old) × (after ≡ before)

-- what the program did with these arguments
abbrev pub StatusMeans : List (List ℕ) → ℕ → SourceState → SourceState → SinkState → SinkState → Type 0
StatusMeans words code old new before after =
    (s : Status) × (code ≡ code_of s) × CommandStatusMeans (command_of words) s old new before after

-- with this status, unless memory ran out or the source failed
abbrev pub EndsWith : ℕ → ℕ → SourceState → SourceState → Type 0
EndsWith wanted code old new = (code ≡ wanted) ⊎ ((code ≡ 6) ⊎ ((code ≡ 4) × Increased old.faults new.faults))

-- input that a subcommand does not parse ends with 3
abbrev pub EndsUnread : List (List ℕ) → ℕ → SourceState → SourceState → Type 0
EndsUnread words code old new = (word : Word) (bytes : List ℕ) → word_of words ≡ Some word → old.left ≡ Some bytes
    → length bytes ≤ input_limit → (task_of word).reads bytes ≡ None → EndsWith 3 code old new

-- longer input ends with 7
abbrev pub EndsLong : List (List ℕ) → ℕ → SourceState → SourceState → Type 0
EndsLong words code old new = (word : Word) (bytes : List ℕ) → word_of words ≡ Some word → old.left ≡ Some bytes
    → input_limit < length bytes → EndsWith 7 code old new

-- 7 if and only if more bytes were read than the input may have
abbrev pub EndsPast : ℕ → SourceState → SourceState → Type 0
EndsPast code old new = (bytes rest : List ℕ) → old.left ≡ Some bytes → new.left ≡ Some rest
    → code ≡ 7 ↔ input_limit < length bytes - length rest
