-- Which numbers have no canonical text, and the first of them in a value.
use Rattle.std.specs.Prelude.{ℤ, Option, Some, None}
use Rattle.serde_json.specs.Data.{Data, null, boolean, number, string, array, object, Items}
use Rattle.serde_json.specs.Data.{no_items, item, Members, no_members, member}
use Rattle.serde_json.specs.Find.{as_integer}
use Rattle.json_events.specs.declared.error.CanonError.{CanonError}
use Rattle.json_events.specs.declared.error.CanonError.TheVariants.{Float}
use Rattle.json_events.specs.Scalars.{refused_integer}

abbrev pub refused_by : Option ℤ → Option CanonError
refused_by None = Some Float
refused_by (Some z) = refused_integer z

-- the first refusal, or else the second
abbrev pub first_of_two : Option CanonError → Option CanonError → Option CanonError
first_of_two None later = later
first_of_two (Some e) later = Some e

abbrev mutual
  -- the first number that is a float or out of range: items by index, members by the bytes of their names
  pub refused : Data → Option CanonError
  refused null = None
  refused (boolean b) = None
  refused (number n) = refused_by (as_integer n)
  refused (string s) = None
  refused (array ds) = refused_items ds
  refused (object ms) = refused_members ms

  pub refused_items : Items → Option CanonError
  refused_items no_items = None
  refused_items (item d ds) = first_of_two (refused d) (refused_items ds)

  pub refused_members : Members → Option CanonError
  refused_members no_members = None
  refused_members (member k d ms) = first_of_two (refused d) (refused_members ms)
