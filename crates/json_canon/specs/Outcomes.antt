-- What the calls on complete values return.
use Rattle.std.specs.Prelude.{◌≡◌, ℕ, List, Some, None, Result, Ok, Err, ⊤, ◌⊎◌}
use Rattle.serde_json.specs.Data.{Data}
use Rattle.json_values.specs.Counts.{Increased}
use Rattle.json_values.specs.JsonText.{json_of}
use Rattle.byte_streams.specs.SinkState.{SinkState, Adds, AddsPrefix}
use Rattle.json_events.specs.declared.error.CanonError.{CanonError}
use Rattle.json_events.specs.declared.error.CanonError.TheVariants.{Float, IntegerOutOfRange}
use Rattle.json_events.specs.declared.error.CanonError.TheVariants.{Unreadable, SinkFault}
use Rattle.json_events.specs.declared.error.CanonError.TheVariants.{WantOfMemory}
use Rattle.json_events.specs.Canonical.{Canonical}
use Rattle.json_events.specs.Refused.{refused}
use Rattle.json_events.specs.Values.{IsValue}

-- the refusal is that of the first number without a text, or memory ran out
abbrev pub RefusesValue : CanonError → Data → Type 0
RefusesValue Float d = refused d ≡ Some Float
RefusesValue IntegerOutOfRange d = refused d ≡ Some IntegerOutOfRange
RefusesValue WantOfMemory d = ⊤
RefusesValue e d = ⊥

-- the value's text, or its refusal
abbrev pub GivesText : Result (List ℕ) CanonError → Data → Type 0
GivesText (Ok t) d = Canonical d t
GivesText (Err e) d = RefusesValue e d

-- a prefix of a text of the value was written
pub record PutsPrefix (d : Data) (old new : SinkState) : Type 0 where
  pub text : List ℕ
  pub canonical : Canonical d text
  pub front : AddsPrefix text old new

-- the whole text of the value was written
pub record PutsText (d : Data) (old new : SinkState) : Type 0 where
  pub text : List ℕ
  pub canonical : Canonical d text
  pub whole : Adds text old new

abbrev pub RefusesWriting : CanonError → Data → SinkState → SinkState → Type 0
RefusesWriting Float d old new = (refused d ≡ Some Float) × (new ≡ old)
RefusesWriting IntegerOutOfRange d old new = (refused d ≡ Some IntegerOutOfRange) × (new ≡ old)
RefusesWriting SinkFault d old new = PutsPrefix d old new × Increased old.faults new.faults
RefusesWriting WantOfMemory d old new = (new ≡ old) ⊎ PutsPrefix d old new
RefusesWriting e d old new = ⊥

-- the text was written; or nothing, if a number is refused; or a prefix, if the sink failed or memory ran out
abbrev pub WritesText : {X : Type 0} → Result X CanonError → Data → SinkState → SinkState → Type 0
WritesText (Ok x) d old new = PutsText d old new
WritesText (Err e) d old new = RefusesWriting e d old new

-- the JSON in these bytes has this text
pub record Pipes (bytes text : List ℕ) : Type 0 where
  pub value : Data
  pub read : json_of bytes ≡ Some value
  pub is : IsValue value
  pub canonical : Canonical value text

pub record PipeRefuses (e : CanonError) (bytes : List ℕ) : Type 0 where
  pub value : Data
  pub read : json_of bytes ≡ Some value
  pub refuses : RefusesValue e value

abbrev pub RefusesPipe : CanonError → List ℕ → Type 0
RefusesPipe Unreadable bytes = json_of bytes ≡ None
RefusesPipe WantOfMemory bytes = ⊤
RefusesPipe e bytes = PipeRefuses e bytes

abbrev pub PipesText : Result (List ℕ) CanonError → List ℕ → Type 0
PipesText (Ok t) bytes = Pipes bytes t
PipesText (Err e) bytes = RefusesPipe e bytes
