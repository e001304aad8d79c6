-- Names and strings contain no floats.
use Rattle.std.proofs.Common.{◌≡◌, ℕ, List, false, ◌||◌, refl, ap, ◌∙◌}
use Rattle.std.proofs.lemmas.Bool.{or_parts}
use Rattle.serde_json.specs.Data.{Data, null, boolean, number, string, array, object, Items, no_items, item, Members, no_members, member}
use Rattle.serde_json.specs.Written.{has_float, items_have_float, members_have_float, compact_text}
use Rattle.json_tables.proofs.Members.{put_plain}
use Rattle.oci_docs.specs.Nfc.{composed_text, composed, composed_items, composed_members}

mutual
  pub composed_plain : (d : Data) → has_float d ≡ false → has_float (composed d) ≡ false
  composed_plain null h = refl
  composed_plain (boolean b) h = refl
  composed_plain (number n) h = h
  composed_plain (string s) h = refl
  composed_plain (array ds) h = items_plain ds h
  composed_plain (object ms) h = members_plain no_members ms refl h

  items_plain : (ds : Items) → items_have_float ds ≡ false → items_have_float (composed_items ds) ≡ false
  items_plain no_items h = refl
  items_plain (item d ds) h =
      let parts = or_parts (has_float d) (items_have_float ds) h in
      ap (λ b. b || items_have_float (composed_items ds)) (composed_plain d parts.0) ∙ items_plain ds parts.1

  members_plain : (before ms : Members) → members_have_float before ≡ false → members_have_float ms ≡ false → members_have_float (composed_members before ms) ≡ false
  members_plain before no_members p h = p
  members_plain before (member k d ms) p h =
      let parts = or_parts (has_float d) (members_have_float ms) h in
      members_plain _ ms (put_plain (composed_text k) (composed d) before (composed_plain d parts.0) p) parts.1

-- the text of a value in NFC
pub text_of_composed : (s : List ℕ) (v d : Data) → (has_float v ≡ false → s ≡ compact_text v) → v ≡ composed d → has_float d ≡ false → s ≡ compact_text (composed d)
text_of_composed s v d text same plain = text (ap has_float same ∙ composed_plain d plain) ∙ ap compact_text same
