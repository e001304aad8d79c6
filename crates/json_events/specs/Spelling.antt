-- The events that spell a value.
use Rattle.std.specs.Prelude.{ℤ, IsUtf8, ⊤, List, [], ◌∷◌, ◌++◌, Option, Some, None}
use Rattle.serde_json.specs.Data.{Data, null, boolean, number, string, array, object, Items}
use Rattle.serde_json.specs.Data.{no_items, item, Members, no_members, member}
use Rattle.serde_json.specs.Find.{as_integer}
use Rattle.json_events.specs.Events.{Event, write_null, write_bool, write_integer, write_float}
use Rattle.json_events.specs.Events.{write_string, begin_array, begin_array_value, end_array_value}
use Rattle.json_events.specs.Events.{end_array, begin_object, begin_object_key, end_object_key}
use Rattle.json_events.specs.Events.{begin_object_value, end_object_value, end_object}

abbrev pub number_event : Option ℤ → Event
number_event None = write_float
number_event (Some z) = write_integer z

abbrev mutual
  pub spelled : Data → List Event
  spelled null = write_null ∷ []
  spelled (boolean b) = write_bool b ∷ []
  spelled (number n) = number_event (as_integer n) ∷ []
  spelled (string s) = write_string s ∷ []
  spelled (array ds) = begin_array ∷ (spelled_items ds ++ end_array ∷ [])
  spelled (object ms) = begin_object ∷ (spelled_members ms ++ end_object ∷ [])

  pub spelled_items : Items → List Event
  spelled_items no_items = []
  spelled_items (item d ds) = begin_array_value ∷ (spelled d ++ end_array_value ∷ spelled_items ds)

  pub spelled_members : Members → List Event
  spelled_members no_members = []
  spelled_members (member k d ms) = begin_object_key ∷ write_string k ∷ end_object_key ∷ begin_object_value
      ∷ (spelled d ++ end_object_value ∷ spelled_members ms)

-- the string of the event is UTF-8
abbrev pub IsText : Event → Type 0
IsText (write_string s) = IsUtf8 s
IsText x = ⊤

abbrev pub AreTexts : List Event → Type 0
AreTexts [] = ⊤
AreTexts (x ∷ xs) = IsText x × AreTexts xs
