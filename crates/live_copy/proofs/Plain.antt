-- The frame of what was pushed has no float.
use Rattle.std.proofs.Common.{◌≡◌, ℕ, false, ◌||◌, List, [], ◌∷◌, Some, refl, ap, codes}
use Rattle.serde_json.specs.Data.{string}
use Rattle.serde_json.specs.Written.{has_float}
use Rattle.json_tables.proofs.Members.{fields_plain}
use Rattle.json_values.specs.Writing.{listed}
use Rattle.live_host.specs.Heads.{text_field}
use Rattle.live_copy.specs.Heads.{copied_head}

items_plain : (xs : List (List ℕ)) → has_float (listed string xs) ≡ false
items_plain [] = refl
items_plain (x ∷ xs) = items_plain xs

pub copied_plain : (url : List ℕ) (pushed : List (List ℕ)) → has_float (copied_head url pushed) ≡ false
copied_plain url pushed = fields_plain (text_field (codes "frame") (codes "copied") ∷ text_field (codes "url") url ∷ (codes "pushed", Some (listed string pushed)) ∷ []) (ap (λ b. b || false) (items_plain pushed))
