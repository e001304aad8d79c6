-- The events of a text: the calls of a formatter, in order.
use Rattle.std.specs.Prelude.{ℕ, ℤ, List, Bool}

pub data Event : Type 0 where
  write_null : Event
  write_bool : Bool → Event
  write_integer : ℤ → Event
  write_float : Event
  write_string : List ℕ → Event
  write_raw_fragment : Event
  begin_array : Event
  begin_array_value : Event
  end_array_value : Event
  end_array : Event
  begin_object : Event
  begin_object_key : Event
  end_object_key : Event
  begin_object_value : Event
  end_object_value : Event
  end_object : Event
  finish : Event
