use Rattle.json_tables.proofs.Refusals.{passed_on}
use Rattle.pod_reviews.specs.Asked.{image_of}
use Rattle.pod_reviews.proofs.images.ReviewImageReads.read_value.Goals as goal

pub returns-in_err-name : goal.returns-in_err-name
unfolding image_of
returns-in_err-name c = passed_on _ _ _ (c.in_err-name.ensures.refused _) c.from_residual.ensures
