-- JSON with all names and strings in NFC (Unicode Standard Annex 15).
use Rattle.std.specs.Prelude.{ℕ, List, chars, encode_utf8_all}
use Rattle.unicode_normalization.specs.Forms.{nfc}
use Rattle.serde_json.specs.Data.{Data, null, boolean, number, string, array, object, Items}
use Rattle.serde_json.specs.Data.{no_items, item, Members, no_members, member, put}

-- a text in NFC
abbrev pub composed_text : List ℕ → List ℕ
composed_text text = encode_utf8_all (nfc (chars text))

-- Members are inserted one after another, in the order of their names' bytes: of two names that are equal in NFC, the
-- value of the later one is kept.
abbrev mutual
  pub composed : Data → Data
  composed null = null
  composed (boolean b) = boolean b
  composed (number n) = number n
  composed (string text) = string (composed_text text)
  composed (array ds) = array (composed_items ds)
  composed (object ms) = object (composed_members no_members ms)

  pub composed_items : Items → Items
  composed_items no_items = no_items
  composed_items (item d ds) = item (composed d) (composed_items ds)

  pub composed_members : Members → Members → Members
  composed_members before no_members = before
  composed_members before (member name d ms) = composed_members (put (composed_text name) (composed d) before) ms
