-- What an event call returns.
use Rattle.std.specs.Prelude.{◌≡◌, ℕ, List, [], ◌∷◌, ◌⊎◌, Option, Some, None, Result, Ok, Err}
use Rattle.json_values.specs.Counts.{Increased}
use Rattle.byte_streams.specs.SinkState.{SinkState, Adds, AddsPrefix}
use Rattle.json_events.specs.declared.error.CanonError.{CanonError}
use Rattle.json_events.specs.declared.error.CanonError.TheVariants.{SinkFault, WantOfMemory}
use Rattle.json_events.specs.Drafts.{Level, Draft, Turn, refused, moves, Stage, step}
use Rattle.json_events.specs.Events.{Event}

-- what a turn writes out
abbrev pub out_of : Turn → List ℕ
out_of (refused e) = []
out_of (moves d out) = out

-- the turn was made
pub record Made (t : Turn) (new : Draft) (before after : SinkState) : Type 0 where
  pub out : List ℕ
  pub is : t ≡ moves new out
  pub added : Adds out before after

-- the event was refused, and nothing was written
pub record Barred (t : Turn) (e : CanonError) (old new : Draft) (before after : SinkState) : Type 0 where
  pub is : t ≡ refused e
  pub same : new ≡ old
  pub added : Adds [] before after

-- the sink failed after a prefix of the text, or memory ran out
pub record Faulted (out : List ℕ) (e : CanonError) (before after : SinkState) : Type 0 where
  pub is : e ≡ SinkFault
  pub rose : Increased before.faults after.faults
  pub front : AddsPrefix out before after

pub record Wanted (out : List ℕ) (e : CanonError) (before after : SinkState) : Type 0 where
  pub is : e ≡ WantOfMemory
  pub front : AddsPrefix out before after

abbrev pub Breaks : List ℕ → CanonError → SinkState → SinkState → Type 0
Breaks out e before after = Faulted out e before after ⊎ Wanted out e before after

-- the turn was made, or failed part of the way
abbrev pub Tries : {X : Type 0} → Turn → Result X CanonError → Draft → SinkState → SinkState → Type 0
Tries t (Ok x) new before after = Made t new before after
Tries t (Err e) new before after = Breaks (out_of t) e before after

-- the same, or the event was refused
abbrev pub Turns : {X : Type 0} → Turn → Result X CanonError → Draft → Draft → SinkState → SinkState → Type 0
Turns t (Ok x) old new before after = Made t new before after
Turns t (Err e) old new before after = Barred t e old new before after ⊎ Breaks (out_of t) e before after

-- this level is closed, and the enclosing one is innermost
pub record Closes (l : Level) (old new : Draft) : Type 0 where
  pub is : l ≡ old.inner
  pub around : old.outer ≡ new.inner ∷ new.outer
  pub text : new.text ≡ old.text

-- the same for an event that writes nothing out
abbrev pub Ends : {X : Type 0} → Turn → Result X CanonError → Draft → Draft → Type 0
Ends t (Ok x) old new = t ≡ moves new []
Ends t (Err e) old new = ((t ≡ refused e) × (new ≡ old)) ⊎ (e ≡ WantOfMemory)

-- a formatter with a refusal returns it
abbrev pub answer : Option CanonError → Result (Unit {0}) CanonError
answer None = Ok tt
answer (Some e) = Err e

-- the refusal in a result
abbrev pub kept : {X : Type 0} → Result X CanonError → Option CanonError
kept (Ok x) = None
kept (Err e) = Some e

-- the event was accepted: the formatter holds its stage, its text was written, and the first refusal is returned
pub record Taken (x : Event) (r : Result (Unit {0}) CanonError) (old new : Stage) (before after : SinkState)
    : Type 0 where
  pub stage : new ≡ (step x old).stage
  pub added : Adds (step x old).out before after
  pub answers : r ≡ answer new.refusal

-- the event failed after a prefix of its text, and the formatter keeps the error as its first refusal
pub record BrokenOff (x : Event) (e : CanonError) (r : Result (Unit {0}) CanonError) (old new : Stage)
    (before after : SinkState) : Type 0 where
  pub going : old.refusal ≡ None
  pub keeps : new.refusal ≡ Some e
  pub answers : r ≡ Err e
  pub front : AddsPrefix (step x old).out before after

-- the event was accepted, unless the sink failed, which its fault count shows, or memory ran out
abbrev pub Answers : Event → Result (Unit {0}) CanonError → Stage → Stage → SinkState → SinkState → Type 0
Answers x r old new before after = Taken x r old new before after
    ⊎ ((BrokenOff x SinkFault r old new before after × Increased before.faults after.faults)
    ⊎ BrokenOff x WantOfMemory r old new before after)
