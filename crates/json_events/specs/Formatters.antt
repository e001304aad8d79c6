-- The stage that a formatter holds.
use Rattle.std.specs.Prelude.{◌≡◌, ℕ, List}
use Rattle.json_events.specs.declared.formatter.JcsFormatter.{JcsFormatter}
use Rattle.json_events.specs.Drafts.{Stage, run, fresh}
use Rattle.json_events.specs.Events.{Event}
use Rattle.json_events.specs.States.{draft_of}

abbrev pub stage_of : JcsFormatter → Stage
stage_of f = record { refusal = f.refusal; draft = draft_of f.state }

-- after these events the formatter holds the stage that they leave, and this was written out
pub record Holds (f : JcsFormatter) (out : List ℕ) (events : List Event) : Type 0 where
  pub stage : stage_of f ≡ (run events fresh).stage
  pub went : out ≡ (run events fresh).out
