-- The canonical text of a value (RFC 8785, 3.2).
use Rattle.std.specs.Prelude.{◌≡◌, ℕ, ℤ, pos, negsuc, int_le, List, [], ◌∷◌, ◌++◌, Bool, true}
use Rattle.std.specs.Prelude.{false, ◌&&◌, IsTrue, Some, map, codes, ⊤}
use Rattle.std.specs.Fmt.{signed_decimal}
use Rattle.std.specs.List.{join_with_byte}
use Rattle.std.specs.List.Sorted.{IsPermutation, IsStrictlySortedBy}
use Rattle.serde_json.specs.Data.{Data, null, boolean, number, string, array, object, Items}
use Rattle.serde_json.specs.Data.{no_items, item, Members, no_members, member}
use Rattle.serde_json.specs.Find.{as_integer}
use Rattle.json_values.specs.Canon.{quoted_text}
use Rattle.json_events.specs.Units.{by_units}

-- the integers that every JSON parser represents exactly (3.2.2.3): magnitude at most 2 ^ 53 - 1
abbrev pub in_range : ℤ → Bool
in_range z = int_le (negsuc 9007199254740990) z && int_le z (pos 9007199254740991)

-- a member of an object: its name, and the canonical text of its value
abbrev pub Entry : Type 0
Entry = List ℕ × List ℕ

abbrev pub entry_text : Entry → List ℕ
entry_text e = quoted_text e.0 ++ 58 ∷ e.1

abbrev pub truth_text : Bool → List ℕ
truth_text true = codes "true"
truth_text false = codes "false"

abbrev pub array_text : List (List ℕ) → List ℕ
array_text ts = 91 ∷ (join_with_byte 44 ts ++ 93 ∷ [])

abbrev pub object_text : List Entry → List ℕ
object_text es = 123 ∷ (join_with_byte 44 (map entry_text es) ++ 125 ∷ [])

-- the names are ascending
abbrev pub Rises : List Entry → Type 0
Rises es = IsStrictlySortedBy by_units (map (λ e. e.0) es)

-- the text of an object with these members: each once, names ascending
pub record IsObjectText (es : List Entry) (t : List ℕ) : Type 0 where
  pub order : List Entry
  pub same : IsPermutation es order
  pub rises : Rises order
  pub text : t ≡ object_text order

abbrev mutual
  -- the value has this text
  pub Canonical : Data → List ℕ → Type 0
  Canonical null t = t ≡ codes "null"
  Canonical (boolean b) t = t ≡ truth_text b
  Canonical (number n) t = (z : ℤ) × (as_integer n ≡ Some z) × IsTrue (in_range z) × (t ≡ signed_decimal z)
  Canonical (string s) t = t ≡ quoted_text s
  Canonical (array ds) t = (ts : List (List ℕ)) × CanonicalItems ds ts × (t ≡ array_text ts)
  Canonical (object ms) t = (es : List Entry) × CanonicalMembers ms es × IsObjectText es t

  pub CanonicalItems : Items → List (List ℕ) → Type 0
  CanonicalItems no_items [] = ⊤
  CanonicalItems no_items (t ∷ ts) = ⊥
  CanonicalItems (item d ds) [] = ⊥
  CanonicalItems (item d ds) (t ∷ ts) = Canonical d t × CanonicalItems ds ts

  pub CanonicalMembers : Members → List Entry → Type 0
  CanonicalMembers no_members [] = ⊤
  CanonicalMembers no_members (e ∷ es) = ⊥
  CanonicalMembers (member k d ms) [] = ⊥
  CanonicalMembers (member k d ms) (e ∷ es) = (e.0 ≡ k) × Canonical d e.1 × CanonicalMembers ms es
