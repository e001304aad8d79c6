-- The response to a review.
use Rattle.std.specs.Prelude.{ℕ, List, [], ◌∷◌, ◌++◌, Bool, true, false, ◌&&◌, Option, Some, None, codes, flat_map, ⊤}
use Rattle.serde_json.specs.Data.{Data, boolean, string}
use Rattle.json_values.specs.Canon.{quoted_text}
use Rattle.json_tables.specs.Fields.{fields}
use Rattle.pull_report.specs.Prints.{refusal_print}
use Rattle.pull_report.specs.Words.{spaced}
use Rattle.pod_reviews.specs.declared.asked.Review.{Review}
use Rattle.pull_admit.specs.declared.decision.Decision.{Decision}
use Rattle.pull_admit.specs.declared.decision.Decision.TheVariants.{Allow, Deny}
use Rattle.pull_admit.specs.declared.decision.DenyCause.{DenyCause}
use Rattle.pull_admit.specs.declared.decision.DenyCause.TheVariants.{NotAReference, Refused}
use Rattle.pod_reviews.specs.declared.images.ReviewImage.{ReviewImage}

abbrev pub is_allowed : Decision → Bool
is_allowed (Allow v) = true
is_allowed (Deny cause) = false

abbrev pub all_allowed : List Decision → Bool
all_allowed [] = true
all_allowed (d ∷ ds) = is_allowed d && all_allowed ds

-- the same as a proposition
abbrev pub IsAllowed : Decision → Type 0
IsAllowed (Allow v) = ⊤
IsAllowed (Deny cause) = ⊥

-- a cause on one line; of the values that `Unsatisfied` holds, only the digest
abbrev pub cause_print : DenyCause → List ℕ
cause_print (NotAReference text) = spaced (codes "NotAReference" ∷ quoted_text text ∷ [])
cause_print (Refused refusal) = refusal_print refusal

-- of a denied image its name, `: ` and the cause
abbrev pub denial : ReviewImage → Decision → List (List ℕ)
denial image (Allow v) = []
denial image (Deny cause) = (image.name ++ codes ": " ++ cause_print cause) ∷ []

-- of each denied image, in order
abbrev pub denials : List ReviewImage → List Decision → List (List ℕ)
denials (x ∷ xs) (d ∷ ds) = denial x d ++ denials xs ds
denials _ _ = []

-- the texts, separated by `; `
abbrev pub joined : List (List ℕ) → List ℕ
joined [] = []
joined (text ∷ texts) = text ++ flat_map (λ one. codes "; " ++ one) texts

abbrev pub message : List ReviewImage → List Decision → List ℕ
message images decisions = joined (denials images decisions)

abbrev pub status_data : List ℕ → Data
status_data text = fields ((codes "message", Some (string text)) ∷ [])

-- a message, if an image is denied
abbrev pub status_if : Bool → List ℕ → Option Data
status_if true text = None
status_if false text = Some (status_data text)

abbrev pub outcome_data : Bool → List ℕ → List ℕ → Data
outcome_data allowed text uid = fields (
    (codes "allowed", Some (boolean allowed))
    ∷ (codes "status", status_if allowed text)
    ∷ (codes "uid", Some (string uid))
    ∷ [])

-- the response: whether all images are allowed, otherwise with a message, and the id of the request
abbrev pub response_data : Review → List Decision → Data
response_data review decisions = fields (
    (codes "apiVersion", Some (string (codes "admission.k8s.io/v1")))
    ∷ (codes "kind", Some (string (codes "AdmissionReview")))
    ∷ (
      codes "response",
      Some (outcome_data (all_allowed decisions) (message review.images decisions) review.uid),
    )
    ∷ [])
