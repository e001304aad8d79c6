-- The verdict of a decision, and the response over both.
use Rattle.std.specs.Prelude.{◌≡◌, List, None, map}
use Rattle.pod_reviews.specs.Verdicts.{response_data}
use Rattle.pod_reviews.specs.declared.places.PlacedImage.{PlacedImage}
use Rattle.pod_reviews.specs.declared.pod.PodReview.{PodReview}
use Rattle.pod_reviews.specs.declared.verdict.Denial.TheVariants as denial
use Rattle.pod_reviews.specs.declared.verdict.Verdict.{Verdict}
use Rattle.pod_reviews.specs.declared.verdict.Verdict.TheVariants.{Allowed, Denied}
use Rattle.pull_report.specs.Prints.{refusal_print}
use Rattle.pull_admit.specs.Responses.{response_data as decided_data}
use Rattle.pod_reviews.specs.declared.asked.Review.{Review}
use Rattle.pull_admit.specs.declared.decision.Decision.{Decision}
use Rattle.pull_admit.specs.declared.decision.Decision.TheVariants.{Allow, Deny}
use Rattle.pull_admit.specs.declared.decision.DenyCause.TheVariants.{NotAReference, Refused}
use Rattle.pod_reviews.specs.declared.images.ReviewImage.{ReviewImage}

-- the digest of an image that is allowed, or the cause, an error as its print
abbrev pub verdict_of : Decision → Verdict
verdict_of (Allow v) = Allowed v.digest
verdict_of (Deny (NotAReference text)) = Denied (denial.NotAReference text)
verdict_of (Deny (Refused e)) = Denied (denial.Refused (refusal_print e))

abbrev pub unplaced : PlacedImage → ReviewImage
unplaced x = record { name = x.name; image = x.image }

-- the review without places
abbrev pub without_places : PodReview → Review
without_places review = record { uid = review.uid; images = map unplaced review.images }

-- the response over the verdicts of decisions is the one over the decisions
abbrev pub ResponsesAgree : Type 0
ResponsesAgree = (review : PodReview) (decisions : List Decision)
    → response_data review (map verdict_of decisions) None ≡ decided_data (without_places review) decisions
