-- Verdicts and the decisions that they are of lead to the same response.
use Rattle.std.proofs.Common.{◌≡◌, ◌++◌, ℕ, List, [], ◌∷◌, None, refl, ap, ◌∙◌}
use Rattle.std.specs.Prelude.{map}
use Rattle.pod_reviews.specs.Verdicts.{all_allowed, denial, denials, response_data}
use Rattle.pod_reviews.specs.declared.places.PlacedImage.{PlacedImage}
use Rattle.pod_reviews.specs.declared.pod.PodReview.{PodReview}
use Rattle.pull_admit.specs.Responses.{all_allowed as all_decided, denial as decided_denial, denials as decided_denials, response_data as decided_data}
use Rattle.pull_admit.specs.declared.decision.Decision.{Decision}
use Rattle.pull_admit.specs.declared.decision.Decision.TheVariants.{Allow, Deny}
use Rattle.pull_admit.specs.declared.decision.DenyCause.TheVariants.{NotAReference, Refused}
use Rattle.pull_admit.specs.Verdicts.{unplaced, verdict_of, without_places}

all_same : (ds : List Decision) → all_allowed (map verdict_of ds) ≡ all_decided ds
all_same [] = refl
all_same (Allow v ∷ ds) = all_same ds
all_same (Deny (NotAReference text) ∷ ds) = refl
all_same (Deny (Refused e) ∷ ds) = refl

denial_same : (x : PlacedImage) (d : Decision) → denial x (verdict_of d) ≡ decided_denial (unplaced x) d
denial_same x (Allow v) = refl
denial_same x (Deny (NotAReference text)) = refl
denial_same x (Deny (Refused e)) = refl

denials_same : (xs : List PlacedImage) (ds : List Decision) → denials xs (map verdict_of ds) ≡ decided_denials (map unplaced xs) ds
denials_same [] [] = refl
denials_same [] (d ∷ ds) = refl
denials_same (x ∷ xs) [] = refl
denials_same (x ∷ xs) (d ∷ ds) =
    ap (λ (texts : List (List ℕ)). texts ++ denials xs (map verdict_of ds)) (denial_same x d)
    ∙ ap (λ (texts : List (List ℕ)). decided_denial (unplaced x) d ++ texts) (denials_same xs ds)

pub responses_same : (review : PodReview) (ds : List Decision) → response_data review (map verdict_of ds) None ≡ decided_data (without_places review) ds
responses_same review ds = rw (all_same ds, denials_same review.images ds) refl
