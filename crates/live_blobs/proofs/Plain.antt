-- The frame of digests has no float.
use Rattle.std.proofs.Common.{◌≡◌, ℕ, false, ◌||◌, List, [], ◌∷◌, Some, refl, ap, codes}
use Rattle.serde_json.specs.Data.{string}
use Rattle.serde_json.specs.Written.{has_float}
use Rattle.json_tables.proofs.Members.{fields_plain}
use Rattle.json_values.specs.Writing.{listed}
use Rattle.live_host.specs.Heads.{text_field}
use Rattle.live_blobs.specs.Heads.{stood_head}

items_plain : (xs : List (List ℕ)) → has_float (listed string xs) ≡ false
items_plain [] = refl
items_plain (x ∷ xs) = items_plain xs

pub stood_plain : (digests : List (List ℕ)) → has_float (stood_head digests) ≡ false
stood_plain digests = fields_plain (text_field (codes "frame") (codes "stood") ∷ (codes "digests", Some (listed string digests)) ∷ []) (ap (λ b. b || false) (items_plain digests))
