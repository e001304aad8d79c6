use Rattle.engine_streams.proofs.Responses.{partial_on, partial_here, left_as}
use Rattle.engine_streams.proofs.blobs.pull_blob_stream_partial.Goals as goal

pub returns-in_err-opening-clause-run : goal.returns-in_err-opening-clause-run
returns-in_err-opening-clause-run g c = partial_on _ _ _ _ _ _ c.in_err-opening.ensures.run c.from_residual.ensures.1

pub returns-clause-run : goal.returns-clause-run
returns-clause-run g c = partial_here _ _ _ _ _ _ c.in_ok-opening.ensures.run c.by_digests.ensures.response

pub returns-clause-left : goal.returns-clause-left
returns-clause-left g c = left_as _ _ c.by_digests.ensures.opening c.in_ok-opening.ensures.left
