-- Header fields: names in lower case with their values (RFC 9110, section 5).
use Rattle.std.specs.Prelude.{ℕ, ◌==◌, ◌≤◌, Bool, ◌&&◌, ◌||◌, not, nat_le, List, [], ◌∷◌, ◌++◌, if◌then◌else◌}
use Rattle.std.specs.Prelude.{Option, Some, None, unwrap_or, option_and_then, length, slice_get, sum_by, All, codes}
use Rattle.std.specs.Prelude.{nat_lt}
use Rattle.std.specs.List.{list_all}
use Rattle.std.specs.FinMap as map
use Rattle.std.specs.FinMap.{FinMap}
use Rattle.std.specs.FinMap.Entries.{where_key}
use Rattle.std.specs.Ordering.{eq_by_cmp}
use Rattle.json_values.specs.Places.{by_bytes}
use Rattle.http_header.specs.FieldName.{IsHeaderName, is_field_name}
use Rattle.http_header.specs.Token.{lowercase}

-- the response header with the digest of the body (OCI distribution specification, "Pulling manifests")
abbrev pub digest_header : List ℕ
digest_header = codes "docker-content-digest"

-- the values of each name
abbrev pub Fields : Type 0
Fields = FinMap by_bytes (List (List ℕ))

-- the values of a name, in order; the case of the name is ignored
abbrev pub values_of : List ℕ → Fields → List (List ℕ)
values_of name m = unwrap_or (map.get m (lowercase name)) []

-- the first of them
abbrev pub first_of : List ℕ → Fields → Option (List ℕ)
first_of name m = slice_get (values_of name m) 0

-- with this value added last to those of a name in lower case
abbrev pub with_value : Fields → List ℕ → List ℕ → Fields
with_value m lower value = map.insert m lower (unwrap_or (map.get m lower) [] ++ value ∷ [])

-- with this value added last to those of its name
abbrev pub added : Fields → List ℕ → List ℕ → Fields
added m name value = with_value m (lowercase name) value

-- without values of this name
abbrev pub without : List ℕ → Fields → Fields
without name m = map.remove m (lowercase name)

-- the number of values
abbrev pub held : Fields → ℕ
held m = sum_by (λ e. length e.1) (map.entries m)

-- the invariant of headers: the names are field names in lower case, and there are at most 1000 values
pub record AreFields (m : Fields) : Type 0 where
  pub names : All (λ e. IsHeaderName e.0) (map.entries m)
  pub most : held m ≤ 1000

-- a byte of a value: not a control byte, except the tab
abbrev pub is_value_byte : ℕ → Bool
is_value_byte b = (b == 9 || nat_le 32 b) && not (b == 127)

abbrev pub is_header_value : List ℕ → Bool
is_header_value value = list_all is_value_byte value

-- whether one more value can be held
abbrev pub has_room : Fields → Bool
has_room m = nat_lt (held m) 1000

-- with this value added last to those of its name; `None` if it is not a valid header value (RFC 9110, 5.5), or 1000
-- values are held already
abbrev pub with_header : Fields → List ℕ → List ℕ → Option Fields
with_header m name value = if is_header_value value && has_room m then Some (added m name value) else None

-- the same; also `None` if the name is not a field name (RFC 9110, 5.1)
abbrev pub with_named : Fields → List ℕ → List ℕ → Option Fields
with_named m name value = if is_field_name name then with_header m name value else None

-- with these fields, one after another, each a name and a value
abbrev pub with_headers : Fields → List (List ℕ × List ℕ) → Option Fields
with_headers m [] = Some m
with_headers m (field ∷ fields) =
    option_and_then (λ more. with_headers more fields) (with_named m field.0 field.1)

-- a byte of a text: a tab, a space or visible ASCII
abbrev pub is_text_byte : ℕ → Bool
is_text_byte b = b == 9 || (nat_le 32 b && nat_le b 126)

abbrev pub is_text : List ℕ → Bool
is_text value = list_all is_text_byte value

-- the value, if it is text
abbrev pub header_text : List ℕ → Option (List ℕ)
header_text value = if is_text value then Some value else None

-- the fields with other names, inserted from the last to the first
abbrev pub kept_fields : List ℕ → List (List ℕ × List (List ℕ)) → Fields
kept_fields name es = map.from_entries (where_key by_bytes (λ x. not (eq_by_cmp by_bytes (lowercase name) x)) es)
