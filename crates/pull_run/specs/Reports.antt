-- The output for a mirror.
use Rattle.std.specs.Prelude.{◌≡◌, ℕ, List, [], ◌∷◌, Result, Ok}
use Rattle.oci_names.specs.Reference.{reference_of}
use Rattle.oci_names.specs.declared.reference.Reference.{Reference}
use Rattle.oci_transport.specs.declared.message.Exchange.{Exchange}
use Rattle.cosign_chain.specs.declared.image.VerifiedImage.{VerifiedImage}
use Rattle.cosign_rows.specs.declared.refusal.PullRefusal.{PullRefusal}
use Rattle.recorded_case.specs.declared.case.Case.{Case}
use Rattle.pulled_cases.specs.Pulls.{PullRecord, Pulled}
use Rattle.pulled_cases.specs.declared.report.Report.{Report}
use Rattle.pull_run.specs.Mirrors.{ReportsOver}
use Rattle.pull_run.specs.Targets.{side_for}
use Rattle.pull_run.specs.declared.mirror_input.MirrorInput.{MirrorInput}

-- the one pull of the case, by a new client, had this conversation and this result, with all that `Pulled` says of it
pub record PullsOnce (case : Case) (c : List Exchange) (outcome : Result VerifiedImage PullRefusal) : Type 0 where
  pub talk : PullRecord
  pub pulled : Pulled case (talk ∷ [])
  pub conversation : talk.conversation ≡ c
  pub outcome_is : talk.result ≡ outcome

-- the output for an image and a target is that of the mirror of the image at the case's moment, by new clients over the
-- responses of both registries
pub record ReportsMirror (input : MirrorInput) (made : Report) : Type 0 where
  pub moment : ℕ
  pub moment_is : input.case.moments ≡ moment ∷ []
  pub image : Reference
  pub reads : reference_of input.target.reference ≡ Ok image
  pub reports : ReportsOver (PullsOnce input.case) (side_for input.target image moment) moment made
