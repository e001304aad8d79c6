-- A value is refused only for its numbers.
use Rattle.std.proofs.Common.{◌≡◌, ℤ, Bool, true, false, Option, Some, None, subst, if◌then◌else◌}
use Rattle.std.specs.Bool.{⊤}
use Rattle.serde_json.specs.Data.{Data, null, boolean, number, string, array, object, Items, no_items, item, Members, no_members, member}
use Rattle.serde_json.specs.Find.{as_integer}
use Rattle.json_events.specs.declared.error.CanonError.{CanonError}
use Rattle.json_events.specs.declared.error.CanonError.TheVariants.{Float, IntegerOutOfRange, DuplicateKey, RawFragment, NotWellNested, Unreadable, SinkFault, WantOfMemory}
use Rattle.json_events.specs.Canonical.{in_range}
use Rattle.json_canon.specs.Outcomes.{RefusesValue}
use Rattle.json_events.specs.Refused.{refused, refused_items, refused_members, refused_by, first_of_two}

abbrev OfNumber : Option CanonError → Type 0
OfNumber None = ⊤
OfNumber (Some Float) = ⊤
OfNumber (Some IntegerOutOfRange) = ⊤
OfNumber (Some e) = ⊥

past : (b : Bool) → OfNumber (if b then None else Some IntegerOutOfRange)
past true = tt
past false = tt

of_number : (o : Option ℤ) → OfNumber (refused_by o)
of_number None = tt
of_number (Some z) = past (in_range z)

first : (a b : Option CanonError) → OfNumber a → OfNumber b → OfNumber (first_of_two a b)
first None b x y = y
first (Some e) b x y = x

mutual
  only_numbers : (d : Data) → OfNumber (refused d)
  only_numbers null = tt
  only_numbers (boolean b) = tt
  only_numbers (number n) = of_number (as_integer n)
  only_numbers (string s) = tt
  only_numbers (array ds) = only_items ds
  only_numbers (object ms) = only_members ms

  only_items : (ds : Items) → OfNumber (refused_items ds)
  only_items no_items = tt
  only_items (item d ds) = first _ _ (only_numbers d) (only_items ds)

  only_members : (ms : Members) → OfNumber (refused_members ms)
  only_members no_members = tt
  only_members (member k d ms) = first _ _ (only_numbers d) (only_members ms)

by_variant : (e : CanonError) (d : Data) → refused d ≡ Some e → OfNumber (Some e) → RefusesValue e d
by_variant Float d is of = is
by_variant IntegerOutOfRange d is of = is
by_variant DuplicateKey d is of = absurd of
by_variant RawFragment d is of = absurd of
by_variant NotWellNested d is of = absurd of
by_variant Unreadable d is of = absurd of
by_variant SinkFault d is of = absurd of
by_variant WantOfMemory d is of = tt

pub refuses : (e : CanonError) (d : Data) → refused d ≡ Some e → RefusesValue e d
refuses e d is = by_variant e d is (subst OfNumber is (only_numbers d))
