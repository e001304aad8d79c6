use Rattle.image_blobs.proofs.TakenImages.{call_took, ranges_join, blobs_taken}
use Rattle.image_blobs.proofs.laws.documents_with_blobs_are_images.Goals as goal

pub returns-clause-taken : goal.returns-clause-taken
returns-clause-taken g c = call_took

pub returns-clause-joined : goal.returns-clause-joined
returns-clause-joined g c = ranges_join

pub returns-clause-images : goal.returns-clause-images
returns-clause-images g c = λ trust image accepted promise d fresh end before after holds some allowed all has. blobs_taken _ image accepted promise d fresh before after end holds some allowed all has
