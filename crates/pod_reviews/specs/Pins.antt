-- The JSON Patch (RFC 6902) that gives each image of a Pod without a digest the one that was verified.
use Rattle.std.specs.Prelude.{◌≡◌, ℕ, List, [], ◌∷◌, ◌++◌, Bool, true, false, Option, Some, None, Result}
use Rattle.std.specs.Prelude.{Ok, Err, is_some, if◌then◌else◌, codes, ⊤}
use Rattle.base64.specs.Engines.{standard}
use Rattle.base64.specs.GeneralPurpose.{encode_of}
use Rattle.serde_json.specs.Data.{Data, string}
use Rattle.json_values.specs.Writing.{listed}
use Rattle.json_events.specs.Canonical.{Canonical}
use Rattle.json_tables.specs.Fields.{fields}
use Rattle.oci_names.specs.Reference.{reference_of, whole_text}
use Rattle.oci_names.specs.declared.parse_error.ParseError.{ParseError}
use Rattle.oci_names.specs.declared.reference.Reference.{Reference}
use Rattle.pod_reviews.specs.declared.pins.Pin.{Pin}
use Rattle.pod_reviews.specs.declared.places.PlacedImage.{PlacedImage}
use Rattle.pod_reviews.specs.declared.verdict.Verdict.{Verdict}
use Rattle.pod_reviews.specs.declared.verdict.Verdict.TheVariants.{Allowed, Denied}

-- the whole text of a reference, and this digest
abbrev pub pinned_text : Reference → List ℕ → List ℕ
pinned_text image digest = whole_text image ++ codes "@" ++ digest

-- a reference with a digest needs no pin; the text of an image that is allowed is a reference
abbrev pub pin_by : List ℕ → Result Reference ParseError → List ℕ → List Pin
pin_by place (Err e) digest = []
pin_by place (Ok image) digest =
    if is_some image.digest then [] else record { place = place; text = pinned_text image digest } ∷ []

abbrev pub pin_of : PlacedImage → Verdict → List Pin
pin_of x (Allowed digest) = pin_by x.place (reference_of x.image) digest
pin_of x (Denied cause) = []

-- of each image, in order
abbrev pub pins : List PlacedImage → List Verdict → List Pin
pins (x ∷ xs) (v ∷ vs) = pin_of x v ++ pins xs vs
pins _ _ = []

abbrev pub pins_if : Bool → List PlacedImage → List Verdict → List Pin
pins_if true xs vs = pins xs vs
pins_if false xs vs = []

-- the operation that puts the text at the place
abbrev pub operation : Pin → Data
operation pin = fields (
    (codes "op", Some (string (codes "replace")))
    ∷ (codes "path", Some (string pin.place))
    ∷ (codes "value", Some (string pin.text))
    ∷ [])

-- the base64 of the canonical text of these operations, if there are any
abbrev pub PatchOf : List Pin → Option (List ℕ) → Type 0
PatchOf [] patch = patch ≡ None
PatchOf (p ∷ ps) patch =
    (text : List ℕ) × Canonical (listed operation (p ∷ ps)) text × (patch ≡ Some (encode_of standard text))

-- ---- what a new text means

-- the text parses to the same registry, repository and tag, with this digest
abbrev pub IsPinned : Reference → List ℕ → List ℕ → Type 0
IsPinned image digest text = (r : Reference) × (reference_of text ≡ Ok r) × (r.registry ≡ image.registry)
    × (r.repository ≡ image.repository) × (r.tag ≡ image.tag) × (r.digest ≡ Some digest)

abbrev pub PinsBy : Result Reference ParseError → List ℕ → Type 0
PinsBy (Err e) digest = ⊤
PinsBy (Ok image) digest = image.digest ≡ None → IsPinned image digest (pinned_text image digest)

abbrev pub Pins : PlacedImage → Verdict → Type 0
Pins x (Allowed digest) = PinsBy (reference_of x.image) digest
Pins x (Denied cause) = ⊤

-- the new text of each image without a digest means the same image with the digest that was verified
abbrev pub EachPins : List PlacedImage → List Verdict → Type 0
EachPins (x ∷ xs) (v ∷ vs) = Pins x v × EachPins xs vs
EachPins _ _ = ⊤
