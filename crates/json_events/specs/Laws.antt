-- Laws of canonical texts.
use Rattle.std.specs.Prelude.{◌≡◌, ◌↔◌, ◌++◌, ℕ, List, [], ◌∷◌, Option, Some, None, Result}
use Rattle.std.specs.Str.{IsUtf8}
use Rattle.std.specs.declared.cmp.Ordering.TheVariants.{Equal}
use Rattle.serde_json.specs.Data.{Data}
use Rattle.json_events.specs.Canonical.{Canonical}
use Rattle.json_events.specs.Drafts.{run, fresh}
use Rattle.json_events.specs.Events.{Event, finish}
use Rattle.json_events.specs.Formatters.{stage_of, Holds}
use Rattle.json_events.specs.Refused.{refused}
use Rattle.json_events.specs.Spelling.{spelled, AreTexts}
use Rattle.json_events.specs.TextSoFar.{SoFar}
use Rattle.json_events.specs.Turns.{Taken, answer}
use Rattle.json_events.specs.Units.{by_units}
use Rattle.json_events.specs.Values.{IsValue}
use Rattle.json_events.specs.WellNested.{first_bad}
use Rattle.json_events.specs.declared.error.CanonError.{CanonError}
use Rattle.json_events.specs.declared.formatter.JcsFormatter.{JcsFormatter}
use Rattle.byte_streams.specs.SinkState.{SinkState, Adds}

-- a value has at most one text
abbrev pub OneText : Type 0
OneText = (d : Data) (t u : List ℕ) → Canonical d t → Canonical d u → t ≡ u

-- only equal names tie in the order of names
abbrev pub TiesEqualNames : Type 0
TiesEqualNames = (a b : List ℕ) → IsUtf8 a → IsUtf8 b → by_units a b ≡ Equal → a ≡ b

-- U+FB33 and U+1F600, in UTF-8
abbrev pub dalet : List ℕ
dalet = 0xEF ∷ 0xAC ∷ 0xB3 ∷ []

abbrev pub grin : List ℕ
grin = 0xF0 ∷ 0x9F ∷ 0x98 ∷ 0x80 ∷ []

-- a value of `serde_json` has a text if and only if none of its numbers is refused
abbrev pub HasText : Type 0
HasText = (d : Data) → IsValue d → ((refused d ≡ None) ↔ ((t : List ℕ) × Canonical d t))

-- the events of a value, with its members in any order, cause no refusal, and its text is written out
abbrev pub EventsWrite : Type 0
EventsWrite = (d : Data) → IsValue d → refused d ≡ None
    → let end = run (spelled d ++ finish ∷ []) fresh in (end.stage.refusal ≡ None) × Canonical d end.out

-- a new formatter holds the stage of no events
abbrev pub HoldsFirst : Type 0
HoldsFirst = (f : JcsFormatter) → stage_of f ≡ fresh → Holds f [] []

-- an accepted call continues from the stage of the events before it: its output is appended to theirs, and it
-- returns the first refusal
abbrev pub HoldsNext : Type 0
HoldsNext = (f g : JcsFormatter) (out : List ℕ) (events : List Event) (x : Event)
    (r : Result (Unit {0}) CanonError) (before after : SinkState)
    → Holds f out events → Taken x r (stage_of f) (stage_of g) before after
    → (more : List ℕ) × Holds g (out ++ more) (events ++ x ∷ []) × Adds more before after
    × (r ≡ answer (stage_of g).refusal)

-- the first refused event of these has this cause, or none is refused
abbrev pub FirstBad : Type 0
FirstBad = (xs : List Event) (refusal : Option CanonError)
    → ((run xs fresh).stage.refusal ≡ refusal) ↔ first_bad xs refusal

-- after a refusal no event changes or writes anything
abbrev pub RefusalStays : Type 0
RefusalStays = (xs ys : List Event) (e : CanonError)
    → (run xs fresh).stage.refusal ≡ Some e → run (xs ++ ys) fresh ≡ run xs fresh

-- the events spell the value; its integers are in range, it contains no float, and none of its objects has a
-- duplicate name
pub record ValueOf (xs : List Event) (v : Data) : Type 0 where
  pub events : xs ≡ spelled v
  pub plain : refused v ≡ None
  pub value : IsValue v

-- events that were accepted to the end spell a value
abbrev pub FinishedSpells : Type 0
FinishedSpells = (xs : List Event) → AreTexts xs → (run (xs ++ finish ∷ []) fresh).stage.refusal ≡ None
    → (v : Data) × ValueOf xs v

-- at each moment a prefix of the text of the value that the events continue to was written out
abbrev pub WritesPrefix : Type 0
WritesPrefix = (xs ys : List Event) (v : Data) (t : List ℕ) → ValueOf (xs ++ ys) v → Canonical v t
    → (rest : List ℕ) × (t ≡ (run xs fresh).out ++ rest)

-- after accepted events the text so far was written out, and the current member has its text so far
abbrev pub TextsSoFar : Type 0
TextsSoFar = (xs : List Event) → AreTexts xs → (run xs fresh).stage.refusal ≡ None
    → SoFar xs (run xs fresh).out (run xs fresh).stage.draft.text
