-- The text so far of a value of which a prefix of the events was received.
use Rattle.std.specs.Prelude.{◌≡◌, ◌⊎◌, ℕ, List, [], ◌∷◌, ◌++◌, Bool, true, false}
use Rattle.std.specs.List.{join_with_byte}
use Rattle.serde_json.specs.Data.{Data, Items, Members}
use Rattle.json_events.specs.Canonical.{Canonical, CanonicalItems}
use Rattle.json_events.specs.Events.{Event, write_string, begin_array, begin_array_value}
use Rattle.json_events.specs.Events.{begin_object, begin_object_key, end_object_key}
use Rattle.json_events.specs.Events.{begin_object_value, finish}
use Rattle.json_events.specs.Spelling.{spelled, spelled_items, spelled_members}

-- how much of a member's name was received
pub data NamePart : Type 0 where
  no_name : NamePart
  due_name : NamePart
  told_name : List ℕ → NamePart
  whole_name : List ℕ → NamePart

-- how much of a value was received: nothing, all, an array after some items or in the next one, an object after
-- some members or in the value of the next one
pub data Part : Type 0 where
  no_part : Part
  whole_part : Data → Part
  items_part : Items → Part
  item_part : Items → Part → Part
  members_part : Members → NamePart → Part
  member_part : Members → List ℕ → Part → Part

abbrev pub name_part_events : NamePart → List Event
name_part_events no_name = []
name_part_events due_name = begin_object_key ∷ []
name_part_events (told_name k) = begin_object_key ∷ write_string k ∷ []
name_part_events (whole_name k) = begin_object_key ∷ write_string k ∷ end_object_key ∷ []

abbrev pub value_due : List ℕ → List Event
value_due k = begin_object_key ∷ write_string k ∷ end_object_key ∷ begin_object_value ∷ []

-- the events that were received
abbrev pub part_events : Part → List Event
part_events no_part = []
part_events (whole_part v) = spelled v
part_events (items_part vs) = begin_array ∷ spelled_items vs
part_events (item_part vs p) = begin_array ∷ (spelled_items vs ++ begin_array_value ∷ part_events p)
part_events (members_part ms n) = begin_object ∷ (spelled_members ms ++ name_part_events n)
part_events (member_part ms k p) = begin_object ∷ (spelled_members ms ++ (value_due k ++ part_events p))

-- an unclosed array: a bracket and its items' texts, with a comma between them, and one before an item that is due
abbrev pub begun_array : List (List ℕ) → List ℕ
begun_array ts = 91 ∷ join_with_byte 44 ts

abbrev pub begun_item : List (List ℕ) → List ℕ
begun_item [] = begun_array []
begun_item (t ∷ ts) = begun_array (t ∷ ts) ++ 44 ∷ []

-- the text before the outermost unclosed object: complete values and unclosed arrays, in their canonical
-- spelling
abbrev pub TextSoFar : Part → List ℕ → Type 0
TextSoFar no_part t = t ≡ []
TextSoFar (whole_part v) t = Canonical v t
TextSoFar (items_part vs) t = (ts : List (List ℕ)) × CanonicalItems vs ts × (t ≡ begun_array ts)
TextSoFar (item_part vs p) t =
    (ts : List (List ℕ)) × (u : List ℕ) × CanonicalItems vs ts × TextSoFar p u × (t ≡ begun_item ts ++ u)
TextSoFar (members_part ms n) t = t ≡ []
TextSoFar (member_part ms k p) t = t ≡ []

-- whether an object is unclosed
abbrev pub has_object : Part → Bool
has_object no_part = false
has_object (whole_part v) = false
has_object (items_part vs) = false
has_object (item_part vs p) = has_object p
has_object (members_part ms n) = true
has_object (member_part ms k p) = true

abbrev pub inner_text : Bool → Type 0 → Type 0 → Type 0
inner_text true inner here = inner
inner_text false inner here = here

-- the text so far of the value of the innermost unclosed object's member, or none without an unclosed object
abbrev pub MemberTextSoFar : Part → List ℕ → Type 0
MemberTextSoFar no_part t = t ≡ []
MemberTextSoFar (whole_part v) t = t ≡ []
MemberTextSoFar (items_part vs) t = t ≡ []
MemberTextSoFar (item_part vs p) t = MemberTextSoFar p t
MemberTextSoFar (members_part ms n) t = t ≡ []
MemberTextSoFar (member_part ms k p) t = inner_text (has_object p) (MemberTextSoFar p t) (TextSoFar p t)

-- the events are those of a part of a value, with the end after it or not; `out` was written out, and `text` is
-- the text of the member that is being written
pub record SoFar (xs : List Event) (out text : List ℕ) : Type 0 where
  pub part : Part
  pub end : List Event
  pub events : xs ≡ part_events part ++ end
  pub ends : (end ≡ []) ⊎ (end ≡ finish ∷ [])
  pub went : TextSoFar part out
  pub member : MemberTextSoFar part text
