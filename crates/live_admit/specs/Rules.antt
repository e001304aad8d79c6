-- Rules, and the one that covers an image.
use Rattle.std.specs.Prelude.{◌≡◌, ℕ, zero, suc, true, false, List, [], ◌∷◌, Option, Some, None, if◌then◌else◌, codes}
use Rattle.serde_json.specs.Data.{Data}
use Rattle.json_tables.specs.Reading.{◌>>=◌, text_of}
use Rattle.json_tables.specs.Member.{required}
use Rattle.json_tables.specs.Objects.{only}
use Rattle.oci_names.specs.declared.reference.Reference.{Reference}
use Rattle.live_admit.specs.Covering.{covers, place_of}
use Rattle.live_admit.specs.declared.rule.Rule.{Rule}

-- a rule whose settings f reads, with no other members
unfoldable pub rule_of : {T : Type 0} → (Data → Option T) → Data → Option (Rule T)
rule_of f d = do
  known ← only (codes "images" ∷ codes "settings" ∷ []) d
  images ← required text_of (codes "images") d
  settings ← required f (codes "settings") d
  Some (record { images = images; settings = settings })

-- the first rule that covers a place
abbrev pub first_for : {T : Type 0} → List (Rule T) → List ℕ → Option (Rule T)
first_for [] place = None
first_for (rule ∷ rules) place = if covers rule.images place then Some rule else first_for rules place

-- the first rule that covers an image
abbrev pub rule_for : {T : Type 0} → List (Rule T) → Reference → Option (Rule T)
rule_for rules image = first_for rules (place_of image)

-- the rules, with these settings in the first one that covers a place
abbrev pub with_first : {T : Type 0} → List (Rule T) → List ℕ → T → List (Rule T)
with_first [] place settings = []
with_first (rule ∷ rules) place settings =
    if covers rule.images place then record rule { settings = settings } ∷ rules
    else rule ∷ with_first rules place settings

-- the rule at this index covers a place, and none before it does
abbrev pub IsFirstAt : {T : Type 0} → List (Rule T) → List ℕ → ℕ → Type 0
IsFirstAt [] place i = ⊥
IsFirstAt (rule ∷ rules) place zero = covers rule.images place ≡ true
IsFirstAt (rule ∷ rules) place (suc i) = (covers rule.images place ≡ false) × IsFirstAt rules place i
