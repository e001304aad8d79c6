-- Verdicts about the images of a Pod, and the response to its review.
use Rattle.std.specs.Prelude.{ℕ, List, [], ◌∷◌, ◌++◌, Bool, true, false, ◌&&◌, Option, Some, None}
use Rattle.std.specs.Prelude.{option_map, codes, flat_map, ⊤}
use Rattle.serde_json.specs.Data.{Data, boolean, string}
use Rattle.json_values.specs.Canon.{quoted_text}
use Rattle.json_events.specs.Canonical.{Canonical}
use Rattle.json_tables.specs.Fields.{fields}
use Rattle.pod_reviews.specs.Pins.{PatchOf, pins_if}
use Rattle.pod_reviews.specs.declared.places.PlacedImage.{PlacedImage}
use Rattle.pod_reviews.specs.declared.pod.PodReview.{PodReview}
use Rattle.pod_reviews.specs.declared.verdict.Denial.{Denial}
use Rattle.pod_reviews.specs.declared.verdict.Denial.TheVariants.{NotAReference, NoRule, Refused}
use Rattle.pod_reviews.specs.declared.verdict.Verdict.{Verdict}
use Rattle.pod_reviews.specs.declared.verdict.Verdict.TheVariants.{Allowed, Denied}

abbrev pub is_allowed : Verdict → Bool
is_allowed (Allowed digest) = true
is_allowed (Denied cause) = false

abbrev pub all_allowed : List Verdict → Bool
all_allowed [] = true
all_allowed (v ∷ vs) = is_allowed v && all_allowed vs

-- the same as a proposition
abbrev pub IsAllowed : Verdict → Type 0
IsAllowed (Allowed digest) = ⊤
IsAllowed (Denied cause) = ⊥

-- a cause on one line
abbrev pub denial_print : Denial → List ℕ
denial_print (NotAReference text) = codes "NotAReference " ++ quoted_text text
denial_print NoRule = codes "NoRule"
denial_print (Refused print) = print

-- of a denied image its name, `: ` and the cause
abbrev pub denial : PlacedImage → Verdict → List (List ℕ)
denial image (Allowed digest) = []
denial image (Denied cause) = (image.name ++ codes ": " ++ denial_print cause) ∷ []

-- of each denied image, in order
abbrev pub denials : List PlacedImage → List Verdict → List (List ℕ)
denials (x ∷ xs) (v ∷ vs) = denial x v ++ denials xs vs
denials _ _ = []

-- the texts, separated by `; `
abbrev pub joined : List (List ℕ) → List ℕ
joined [] = []
joined (text ∷ texts) = text ++ flat_map (λ one. codes "; " ++ one) texts

abbrev pub message : List PlacedImage → List Verdict → List ℕ
message images verdicts = joined (denials images verdicts)

-- a message, if an image is denied
abbrev pub status_if : Bool → List ℕ → Option Data
status_if true text = None
status_if false text = Some (fields ((codes "message", Some (string text)) ∷ []))

abbrev pub json_patch : List ℕ → Data
json_patch patch = string (codes "JSONPatch")

abbrev pub outcome_data : Bool → Option (List ℕ) → List ℕ → List ℕ → Data
outcome_data allowed patch text uid = fields (
    (codes "allowed", Some (boolean allowed))
    ∷ (codes "patch", option_map string patch)
    ∷ (codes "patchType", option_map json_patch patch)
    ∷ (codes "status", status_if allowed text)
    ∷ (codes "uid", Some (string uid))
    ∷ [])

-- the response: whether all images are allowed, otherwise with a message; the patch, if there is one; the request's id
abbrev pub response_data : PodReview → List Verdict → Option (List ℕ) → Data
response_data review verdicts patch = fields (
    (codes "apiVersion", Some (string (codes "admission.k8s.io/v1")))
    ∷ (codes "kind", Some (string (codes "AdmissionReview")))
    ∷ (
      codes "response",
      Some (outcome_data (all_allowed verdicts) patch (message review.images verdicts) review.uid),
    )
    ∷ [])

-- the canonical text of the response; if a patch is asked for and all images are allowed, it pins those without digest
abbrev pub Responds : Bool → PodReview → List Verdict → List ℕ → Type 0
Responds mutate review verdicts text =
    (patch : Option (List ℕ)) × PatchOf (pins_if (mutate && all_allowed verdicts) review.images verdicts) patch
    × Canonical (response_data review verdicts patch) text
