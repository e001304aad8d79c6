use Rattle.std.proofs.Common.{refl}
use Rattle.cosign_rows.specs.Rows.{image_documents}
use Rattle.cosign_rows.proofs.Exits.{and_then, refused, wanting}
use Rattle.cosign_pull.proofs.documents.pull_documents.Goals as goal

pub returns-in_err-types : goal.returns-in_err-types
unfolding image_documents
returns-in_err-types g c = λ s. wanting _ refl c.from_residual.ensures.1

pub returns-in_err-found : goal.returns-in_err-found
unfolding image_documents
returns-in_err-found g c = λ s. refused _ (rw (c.as_slice.ensures, c.in_ok-types.ensures) at (c.in_err-found.ensures.run s)) c.from_residual-in_err-found.ensures.1

pub returns : goal.returns
unfolding image_documents
returns g c = λ s. and_then _ (rw (c.as_slice.ensures, c.in_ok-types.ensures) at (c.in_ok-found.ensures.run s)) (c.documents_in.ensures s)
