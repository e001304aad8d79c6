-- How tables read JSON data. Each reader returns a value, or none if the data has another shape.
use Rattle.std.specs.Prelude.{ℕ, ◌^◌, List, [], ◌∷◌, Bool, nat_lt, int_lt, if◌then◌else◌, Option, Some, None, ℤ, pos}
use Rattle.std.specs.Prelude.{negsuc}
use Rattle.std.specs.FinMap.{FinMap, empty, insert}
use Rattle.json_values.specs.Places.{by_bytes}
use Rattle.serde_json.specs.Data.{Data, Items, no_items, item, Members, no_members, member}
use Rattle.serde_json.specs.Find.{as_bool, as_number, as_str, as_array, as_object, as_u64, as_i64}

-- what f reads from the value that was found
infixl 10 ◌>>=◌
abbrev pub ◌>>=◌ : {A B : Type 0} → Option A → (A → Option B) → Option B
None >>= f = None
(Some x) >>= f = f x

-- a number below a limit
abbrev pub below : ℕ → ℕ → Option ℕ
below limit n = if nat_lt n limit then Some n else None

-- a number from the least to the greatest
abbrev pub within : ℤ → ℤ → ℤ → Option ℤ
within least greatest z = if int_lt z least then None else (if int_lt greatest z then None else Some z)

-- an integer in the range of its type
abbrev pub u64_of : Data → Option ℕ
u64_of d = as_number d >>= as_u64

abbrev pub u8_of : Data → Option ℕ
u8_of d = u64_of d >>= below (2 ^ 8)

abbrev pub u16_of : Data → Option ℕ
u16_of d = u64_of d >>= below (2 ^ 16)

abbrev pub u32_of : Data → Option ℕ
u32_of d = u64_of d >>= below (2 ^ 32)

abbrev pub i64_of : Data → Option ℤ
i64_of d = as_number d >>= as_i64

abbrev pub i32_of : Data → Option ℤ
i32_of d = i64_of d >>= within (negsuc 2147483647) (pos 2147483647)

-- a `bool`
abbrev pub bool_of : Data → Option Bool
bool_of = as_bool

-- a string
abbrev pub text_of : Data → Option (List ℕ)
text_of = as_str

abbrev pub items_by : {X : Type 0} → (Data → Option X) → Items → Option (List X)
items_by f no_items = Some []
items_by f (item d ds) = f d >>= λ x. items_by f ds >>= λ xs. Some (x ∷ xs)

-- a list of items that f reads
abbrev pub list_of : {X : Type 0} → (Data → Option X) → Data → Option (List X)
list_of f d = as_array d >>= items_by f

abbrev pub two_by : {X Y : Type 0} → (Data → Option X) → (Data → Option Y) → Items → Option (X × Y)
two_by f g (item d (item e no_items)) = f d >>= λ x. g e >>= λ y. Some (x, y)
two_by f g ds = None

-- a list of two items, read by f and g
abbrev pub pair_of : {X Y : Type 0} → (Data → Option X) → (Data → Option Y) → Data → Option (X × Y)
pair_of f g d = as_array d >>= two_by f g

abbrev pub Map : Type 0 → Type 0
Map V = FinMap by_bytes V

-- the members inserted one after another
abbrev pub members_by : {V : Type 0} → (Data → Option V) → Map V → Members → Option (Map V)
members_by f found no_members = Some found
members_by f found (member k d ms) = f d >>= λ x. members_by f (insert found k x) ms

-- an object with values that f reads
abbrev pub map_of : {V : Type 0} → (Data → Option V) → Data → Option (Map V)
map_of f d = as_object d >>= members_by f empty
