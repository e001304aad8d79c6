-- Names as UTF-16, and their order (RFC 8785, 3.2.3).
use Rattle.std.specs.Prelude.{ℕ, List, flat_map}
use Rattle.std.specs.Char.Escape.{encode_utf16}
use Rattle.std.specs.Cmp.Lexicographic.{slice_cmp}
use Rattle.std.specs.Ordering.{nat_cmp}
use Rattle.std.specs.Str.{chars}
use Rattle.std.specs.declared.cmp.Ordering.{Ordering}

-- the UTF-16 units of a name: one for a character below U+10000, otherwise a surrogate pair
unfoldable pub units : List ℕ → List ℕ
units name = flat_map encode_utf16 (chars name)

-- names are compared unit by unit; a prefix is less
abbrev pub by_units : List ℕ → List ℕ → Ordering
by_units a b = slice_cmp nat_cmp (units a) (units b)
