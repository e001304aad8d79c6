use Rattle.valid_shelves.proofs.Signed.{by_tag}
use Rattle.valid_shelves.proofs.examples.an_image_signed_under_its_tag.Goals as goal

pub returns : goal.returns
returns c = by_tag
