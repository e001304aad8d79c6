-- The effect of a list of event calls.
use Rattle.std.specs.Prelude.{◌≡◌, List, ◌⊎◌, Some, None, Result, Ok, Err}
use Rattle.byte_streams.specs.SinkState.{SinkState, Adds}
use Rattle.json_events.specs.declared.error.CanonError.{CanonError}
use Rattle.json_events.specs.Drafts.{Stage, run}
use Rattle.json_events.specs.Events.{Event}
use Rattle.json_events.specs.Turns.{Breaks}

-- the events were accepted, and their text was written out
pub record Ran (xs : List Event) (old new : Stage) (before after : SinkState) : Type 0 where
  pub stage : new ≡ (run xs old).stage
  pub added : Adds (run xs old).out before after

-- the events were accepted up to the first refused one, or failed part of the way
abbrev pub Fed : {X : Type 0} → List Event → Result X CanonError → Stage → Stage → SinkState → SinkState → Type 0
Fed xs (Ok x) old new before after = Ran xs old new before after × (new.refusal ≡ None)
Fed xs (Err e) old new before after =
    (Ran xs old new before after × (new.refusal ≡ Some e)) ⊎ Breaks (run xs old).out e before after
