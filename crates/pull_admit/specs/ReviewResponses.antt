-- The response to a review over the responses of a recorded registry.
use Rattle.std.specs.Prelude.{◌≡◌, ℕ, false, IsTrue, List, [], ◌∷◌, ◌++◌, Some, not}
use Rattle.json_events.specs.Canonical.{Canonical}
use Rattle.oci_transport.specs.FaultsOnlyWhere.{faults_only_where}
use Rattle.oci_transport.specs.Link.{AnsweredBy}
use Rattle.oci_transport.specs.declared.message.Exchange.{Exchange}
use Rattle.engine_terms.specs.Contexts.{within}
use Rattle.cosign_rows.specs.Snapshots.{Snapshot, snapshot}
use Rattle.cosign_client.specs.Clients.{fresh}
use Rattle.recorded_case.specs.Policy.{meaning_of}
use Rattle.recorded_case.specs.Registry.{answering_by}
use Rattle.recorded_case.specs.declared.case.Case.{Case}
use Rattle.pulled_cases.specs.Pulls.{settings_of}
use Rattle.pulled_cases.specs.declared.report.Report.{Report}
use Rattle.pull_admit.specs.Decided.{PullTerms, Reviewed}
use Rattle.pull_admit.specs.Responses.{all_allowed, response_data}
use Rattle.pod_reviews.specs.declared.asked.Review.{Review}
use Rattle.pull_admit.specs.declared.decision.Decision.{Decision}
use Rattle.pod_reviews.specs.declared.images.ReviewImage.{ReviewImage}
use Rattle.pull_admit.specs.declared.input.ReviewInput.{ReviewInput}

-- what each image is pulled with at this moment, by a case
abbrev pub terms_of : Case → ℕ → PullTerms ⊥ (λ v. ⊥)
terms_of case moment = record {
  policy_context = meaning_of case;
  context = within (settings_of case) moment;
  auth = case.auth;
  accepted = case.accepted;
}

-- The decisions about the images by a new client without a cache. Each exchange has the recorded answer at its index,
-- or the answer of the shelf's table. The transport failed only if a fault is recorded.
pub record DecidedOver (case : Case) (moment : ℕ) (images : List ReviewImage) (decisions : List Decision)
    : Type 0 where
  pub conversation : List Exchange
  pub end : Snapshot
  pub reviewed : Reviewed (Some (answering_by case.registry)) 0 (terms_of case moment) images
      (snapshot (fresh false) 0) conversation end decisions
  pub answered : AnsweredBy (answering_by case.registry) 0 conversation
  pub calm_is : IsTrue (faults_only_where (answering_by case.registry).fails 0 conversation end.faults)

-- the response with a line feed, refused unless every image is allowed
pub record IsResponse (review : Review) (decisions : List Decision) (made : Report) : Type 0 where
  pub text : List ℕ
  pub canonical : Canonical (response_data review decisions) text
  pub written : made.bytes ≡ text ++ 10 ∷ []
  pub refused : made.refused ≡ not (all_allowed decisions)

-- the output for a review is the response of the decisions about its images, at the moment of the settings
pub record ReportsReview (input : ReviewInput) (made : Report) : Type 0 where
  pub moment : ℕ
  pub moment_is : input.settings.moments ≡ moment ∷ []
  pub decisions : List Decision
  pub decided : DecidedOver input.settings moment input.review.images decisions
  pub response : IsResponse input.review decisions made
