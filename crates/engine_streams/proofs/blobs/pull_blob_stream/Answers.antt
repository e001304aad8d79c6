use Rattle.engine_streams.proofs.Responses.{stream_on, stream_here, left_as}
use Rattle.engine_streams.proofs.blobs.pull_blob_stream.Goals as goal

pub returns-in_err-opening-clause-run : goal.returns-in_err-opening-clause-run
returns-in_err-opening-clause-run g c = stream_on _ _ c.in_err-opening.ensures.run c.from_residual.ensures.1

pub returns-clause-run : goal.returns-clause-run
returns-clause-run g c = stream_here _ c.new.result c.in_ok-opening.ensures.run c.new.ensures.opening

pub returns-clause-left : goal.returns-clause-left
returns-clause-left g c = left_as _ _ c.new.ensures.opening c.in_ok-opening.ensures.left
