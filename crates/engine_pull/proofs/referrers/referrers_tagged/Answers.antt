use Rattle.std.specs.Prelude.{option_copied}
use Rattle.engine_rows.proofs.Exits.{wanting}
use Rattle.engine_rows.specs.Referrers.{referrers_tagged}
use Rattle.engine_pull.proofs.TagLists.{tagged_met}
use Rattle.engine_pull.proofs.referrers.referrers_tagged.Goals as goal

pub returns-in_err-image : goal.returns-in_err-image
returns-in_err-image g c = wanting c.from_residual.ensures.1

pub returns : goal.returns
unfolding referrers_tagged
returns g c = tagged_met c.args.digest.now (option_copied c.args.artifact_type) _ _ (rw c.in_ok-image.ensures at c.manifest_asked-answer.ensures) c.tagged_index.ensures
