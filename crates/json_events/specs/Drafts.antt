-- The formatter's state after its events.
use Rattle.std.specs.Prelude.{ℕ, ℤ, List, [], ◌∷◌, ◌++◌, Bool, true, false, ◌==◌, Option, Some}
use Rattle.std.specs.Prelude.{None, if◌then◌else◌, codes}
use Rattle.std.specs.BTreeSet.{insert_key}
use Rattle.std.specs.Cmp.Lexicographic.{slice_cmp}
use Rattle.std.specs.Fmt.{signed_decimal}
use Rattle.std.specs.List.{list_any}
use Rattle.std.specs.Ordering.{nat_cmp, is_eq}
use Rattle.std.specs.declared.cmp.Ordering.{Ordering}
use Rattle.serde_json.specs.Written.{comma_if}
use Rattle.json_values.specs.Canon.{quoted_text}
use Rattle.json_events.specs.declared.error.CanonError.{CanonError}
use Rattle.json_events.specs.declared.error.CanonError.TheVariants.{Float, IntegerOutOfRange}
use Rattle.json_events.specs.declared.error.CanonError.TheVariants.{DuplicateKey, RawFragment}
use Rattle.json_events.specs.declared.error.CanonError.TheVariants.{NotWellNested}
use Rattle.json_events.specs.declared.property.JsonProperty.{JsonProperty}
use Rattle.json_events.specs.declared.spot.Spot.{Spot}
use Rattle.json_events.specs.declared.spot.Spot.TheVariants.{Start, Whole, Finished, Items, ItemDue}
use Rattle.json_events.specs.declared.spot.Spot.TheVariants.{ItemDone, Names, NameDue, NameDone}
use Rattle.json_events.specs.declared.spot.Spot.TheVariants.{Named, ValueDue, ValueDone}
use Rattle.json_events.specs.Canonical.{in_range, truth_text}
use Rattle.json_events.specs.Events.{Event, write_null, write_bool, write_integer, write_float}
use Rattle.json_events.specs.Events.{write_string, write_raw_fragment, begin_array}
use Rattle.json_events.specs.Events.{begin_array_value, end_array_value, end_array, begin_object}
use Rattle.json_events.specs.Events.{begin_object_key, end_object_key, begin_object_value}
use Rattle.json_events.specs.Events.{end_object_value, end_object, finish}
use Rattle.json_events.specs.Members.{property, kept_object}

-- an unclosed container, or the level outside all containers
pub record Level : Type 0 where
  -- where the next event is due
  pub spot : Spot
  -- whether an object is unclosed, at this level or around it
  pub held : Bool
  -- in an array: whether an item began
  pub begun : Bool
  -- in an object: its closed members in the order of their sorting keys, the name of the member that is being
  -- written, and the text so far of the enclosing member
  pub members : List JsonProperty
  pub name : List ℕ
  pub around : List ℕ

pub record Draft : Type 0 where
  -- the text so far of the member that is being written in the innermost unclosed object
  pub text : List ℕ
  pub inner : Level
  -- the enclosing levels, innermost first
  pub outer : List Level

-- the effect of an event: a refusal, or a new draft and some output
pub data Turn : Type 0 where
  refused : CanonError → Turn
  moves : Draft → List ℕ → Turn

-- the members in the order of their sorting keys
abbrev pub by_key : JsonProperty → JsonProperty → Ordering
by_key p q = slice_cmp nat_cmp p.sorting_key q.sorting_key

-- where a value may come, and where the next event is due after it
abbrev pub after_value : Spot → Option Spot
after_value Start = Some Whole
after_value ItemDue = Some ItemDone
after_value ValueDue = Some ValueDone
after_value s = None

abbrev pub at : Spot → Draft → Draft
at s d = record d { inner = record d.inner { spot = s } }

-- a piece of text is appended to the member that is being written, or to the output if no object is unclosed
abbrev pub writes : List ℕ → Draft → Turn
writes piece d = if d.inner.held then moves (record d { text = d.text ++ piece }) [] else moves d piece

abbrev pub level : Spot → Bool → List ℕ → Level
level s held around = record { spot = s; held = held; begun = false; members = []; name = []; around = around }

abbrev pub opened : Level → Draft → Draft
opened l d = record d { inner = l; outer = d.inner ∷ d.outer }

-- the level that encloses the innermost one, and those around it
abbrev pub where_around : List Level → (Level → List Level → Turn) → Turn
where_around [] turn = refused NotWellNested
where_around (l ∷ ls) turn = turn l ls

abbrev pub where_due : Option Spot → (Spot → Turn) → Turn
where_due None turn = refused NotWellNested
where_due (Some s) turn = turn s

-- a value with this text
abbrev pub places : List ℕ → Draft → Turn
places piece d = where_due (after_value d.inner.spot) (λ s. writes piece (at s d))

abbrev pub spot_index : Spot → ℕ
spot_index Start = 0
spot_index Whole = 1
spot_index Finished = 2
spot_index Items = 3
spot_index ItemDue = 4
spot_index ItemDone = 5
spot_index Names = 6
spot_index NameDue = 7
spot_index NameDone = 8
spot_index Named = 9
spot_index ValueDue = 10
spot_index ValueDone = 11

abbrev pub is_at : Spot → Spot → Bool
is_at s t = spot_index s == spot_index t

-- an event that is valid at one spot only
abbrev pub only_at : Spot → Draft → Turn → Turn
only_at s d turn = if is_at d.inner.spot s then turn else refused NotWellNested

abbrev pub begins_array : Draft → Turn
begins_array d = where_due (after_value d.inner.spot)
    (λ s. writes (91 ∷ []) (opened (level Items d.inner.held []) (at s d)))

abbrev pub begins_object : Draft → Turn
begins_object d = where_due (after_value d.inner.spot)
    (λ s. moves (record (opened (level Names true d.text) (at s d)) { text = [] }) [])

abbrev pub begins_item : Draft → Turn
begins_item d = writes (comma_if d.inner.begun) (record d { inner = record d.inner { spot = ItemDue; begun = true } })

abbrev pub ends_array : Draft → Turn
ends_array d = where_around d.outer (λ l ls. writes (93 ∷ []) (record d { inner = l; outer = ls }))

abbrev pub ends_object : Draft → Turn
ends_object d = where_around d.outer
    (λ l ls. writes (kept_object d.inner.members) (record { text = d.inner.around; inner = l; outer = ls }))

abbrev pub ends_member : Draft → Turn
ends_member d =
    let new = property (d.inner.name, d.text) in
    let kept = insert_key by_key d.inner.members new in
    if list_any (λ p. is_eq (by_key new p)) d.inner.members then refused DuplicateKey
    else moves (record d { text = []; inner = record d.inner { spot = Names; members = kept } }) []

abbrev pub takes_string : List ℕ → Draft → Turn
takes_string s d =
    if is_at d.inner.spot NameDue
    then moves (record d { inner = record d.inner { spot = NameDone; name = s } }) []
    else places (quoted_text s) d

abbrev pub takes_whole : ℤ → Draft → Turn
takes_whole z d = where_due (after_value d.inner.spot)
    (λ s. if in_range z then writes (signed_decimal z) (at s d) else refused IntegerOutOfRange)

abbrev pub act : Event → Draft → Turn
act write_null d = places (codes "null") d
act (write_bool b) d = places (truth_text b) d
act (write_integer z) d = takes_whole z d
act write_float d = where_due (after_value d.inner.spot) (λ s. refused Float)
act (write_string s) d = takes_string s d
act write_raw_fragment d = where_due (after_value d.inner.spot) (λ s. refused RawFragment)
act begin_array d = begins_array d
act begin_array_value d = only_at Items d (begins_item d)
act end_array_value d = only_at ItemDone d (moves (at Items d) [])
act end_array d = only_at Items d (ends_array d)
act begin_object d = begins_object d
act begin_object_key d = only_at Names d (moves (at NameDue d) [])
act end_object_key d = only_at NameDone d (moves (at Named d) [])
act begin_object_value d = only_at Named d (moves (at ValueDue d) [])
act end_object_value d = only_at ValueDone d (ends_member d)
act end_object d = only_at Names d (ends_object d)
act finish d = only_at Whole d (moves (at Finished d) [])

-- the formatter's state: its first refusal, and its draft
pub record Stage : Type 0 where
  pub refusal : Option CanonError
  pub draft : Draft

pub record Step : Type 0 where
  pub stage : Stage
  pub out : List ℕ

abbrev pub carried_out : Turn → Draft → Step
carried_out (refused e) d = record { stage = record { refusal = Some e; draft = d }; out = [] }
carried_out (moves new out) d = record { stage = record { refusal = None; draft = new }; out = out }

-- after a refusal nothing is written
abbrev pub step_from : Option CanonError → Event → Draft → Step
step_from (Some e) x d = record { stage = record { refusal = Some e; draft = d }; out = [] }
step_from None x d = carried_out (act x d) d

abbrev pub step : Event → Stage → Step
step x s = step_from s.refusal x s.draft

abbrev pub run : List Event → Stage → Step
run [] s = record { stage = s; out = [] }
run (x ∷ xs) s =
    let first = step x s in
    let rest = run xs first.stage in
    record { stage = rest.stage; out = first.out ++ rest.out }

abbrev pub fresh : Stage
fresh = record { refusal = None; draft = record { text = []; inner = level Start false []; outer = [] } }
