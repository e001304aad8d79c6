-- Well-nested lists of events, and why an event is refused.
use Rattle.std.specs.Prelude.{◌≡◌, ℕ, ℤ, List, [], ◌∷◌, ◌++◌, Bool, false, ◌||◌, IsTrue, Option}
use Rattle.std.specs.Prelude.{Some, None}
use Rattle.std.specs.Ordering.{is_eq}
use Rattle.json_events.specs.declared.error.CanonError.{CanonError}
use Rattle.json_events.specs.declared.error.CanonError.TheVariants.{Float, IntegerOutOfRange}
use Rattle.json_events.specs.declared.error.CanonError.TheVariants.{DuplicateKey, RawFragment}
use Rattle.json_events.specs.declared.error.CanonError.TheVariants.{NotWellNested}
use Rattle.json_events.specs.Canonical.{in_range}
use Rattle.json_events.specs.Events.{Event, write_null, write_bool, write_integer, write_float}
use Rattle.json_events.specs.Events.{write_string, write_raw_fragment, begin_array}
use Rattle.json_events.specs.Events.{begin_array_value, end_array_value, end_array, begin_object}
use Rattle.json_events.specs.Events.{begin_object_key, end_object_key, begin_object_value}
use Rattle.json_events.specs.Events.{end_object_value, end_object, finish}
use Rattle.json_events.specs.Units.{by_units}

-- a scalar, or a raw fragment, in one event
pub data Scalar : Type 0 where
  a_null : Scalar
  a_truth : Bool → Scalar
  a_whole : ℤ → Scalar
  a_float : Scalar
  a_string : List ℕ → Scalar
  a_fragment : Scalar

-- the trees that events may spell: any scalars, and possibly duplicate names
mutual
  pub data Tree : Type 0 where
    scalar : Scalar → Tree
    array : Trees → Tree
    object : Fields → Tree

  pub data Trees : Type 0 where
    no_trees : Trees
    and_tree : Trees → Tree → Trees

  pub data Fields : Type 0 where
    no_fields : Fields
    and_field : Fields → List ℕ → Tree → Fields

abbrev pub scalar_event : Scalar → Event
scalar_event a_null = write_null
scalar_event (a_truth b) = write_bool b
scalar_event (a_whole z) = write_integer z
scalar_event a_float = write_float
scalar_event (a_string s) = write_string s
scalar_event a_fragment = write_raw_fragment

-- the events of a member up to its value
abbrev pub name_events : List ℕ → List Event
name_events k = begin_object_key ∷ write_string k ∷ end_object_key ∷ begin_object_value ∷ []

abbrev mutual
  -- the well-nested lists
  pub nested : Tree → List Event
  nested (scalar s) = scalar_event s ∷ []
  nested (array ts) = begin_array ∷ (nested_items ts ++ end_array ∷ [])
  nested (object fs) = begin_object ∷ (nested_fields fs ++ end_object ∷ [])

  pub nested_items : Trees → List Event
  nested_items no_trees = []
  nested_items (and_tree ts t) = nested_items ts ++ begin_array_value ∷ (nested t ++ end_array_value ∷ [])

  pub nested_fields : Fields → List Event
  nested_fields no_fields = []
  nested_fields (and_field fs k t) = nested_fields fs ++ (name_events k ++ (nested t ++ end_object_value ∷ []))

-- a well-nested list, with the end after it or not, begins with these events
pub record Begins (xs : List Event) : Type 0 where
  pub value : Tree
  pub rest : List Event
  pub is : xs ++ rest ≡ nested value ++ finish ∷ []

-- whether a member has the name. Names are compared by their units
abbrev pub has_field : List ℕ → Fields → Bool
has_field k no_fields = false
has_field k (and_field fs l t) = is_eq (by_units k l) || has_field k fs

-- the member that is being written has a value, and its name is a duplicate
pub record ComesTwice (xs : List Event) : Type 0 where
  pub before : List Event
  pub fields : Fields
  pub name : List ℕ
  pub value : Tree
  pub is : xs ≡ before ++ begin_object ∷ (nested_fields fields ++ (name_events name ++ nested value))
  pub has : IsTrue (has_field name fields)

-- the event after these has this refusal
abbrev pub Cause : CanonError → List Event → Event → Type 0
Cause NotWellNested xs x = Begins (xs ++ x ∷ []) → ⊥
Cause Float xs x = Begins (xs ++ x ∷ []) × (x ≡ write_float)
Cause RawFragment xs x = Begins (xs ++ x ∷ []) × (x ≡ write_raw_fragment)
Cause IntegerOutOfRange xs x =
    Begins (xs ++ x ∷ []) × ((z : ℤ) × (x ≡ write_integer z) × (in_range z ≡ false))
Cause DuplicateKey xs x = (x ≡ end_object_value) × ComesTwice xs
Cause e xs x = ⊥

-- no event of these has a cause for a refusal after those before it
abbrev pub IsGood : List Event → Type 0
IsGood xs =
    (before later : List Event) (x : Event) (e : CanonError) → xs ≡ before ++ x ∷ later → Cause e before x → ⊥

-- the first event that has a cause for a refusal
pub record IsBad (xs : List Event) (e : CanonError) : Type 0 where
  pub before : List Event
  pub bad : Event
  pub later : List Event
  pub is : xs ≡ before ++ bad ∷ later
  pub good : IsGood before
  pub cause : Cause e before bad

-- no event is refused, or the first refused event has this refusal
abbrev pub first_bad : List Event → Option CanonError → Type 0
first_bad xs None = IsGood xs
first_bad xs (Some e) = IsBad xs e
