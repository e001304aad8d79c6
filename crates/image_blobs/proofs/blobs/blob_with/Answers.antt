use Rattle.std.proofs.Common.{Some}
use Rattle.oci_protocol.proofs.Laws.{Meets-refused}
use Rattle.oci_protocol.proofs.Exits.{said}
use Rattle.engine_pull.proofs.AttemptSteps.{spills_next, spills_on}
use Rattle.engine_pull.proofs.NoSink.{spills_refused, done_calm, read_calm, request_calm}
use Rattle.call_laws.specs.Blobs.{blob_with}
use Rattle.image_blobs.proofs.WithinSize.{within_none}
use Rattle.image_blobs.proofs.blobs.blob_with.Goals as goal

pub returns-in_err-url-clause-run : goal.returns-in_err-url-clause-run
unfolding blob_with
returns-in_err-url-clause-run g c = λ k. spills_refused _ _ (done_calm _ (read_calm _)) (said _ (rw c.as_str.ensures at c.in_err-url.ensures)) (Meets-refused _ (said _ (rw c.as_str.ensures at c.in_err-url.ensures))) c.from_residual.ensures.1

pub returns-in_err-request-clause-run : goal.returns-in_err-request-clause-run
unfolding blob_with
returns-in_err-request-clause-run g c = λ k. spills_next _ (said _ (rw c.as_str.ensures at c.in_ok-url.ensures)) (spills_refused _ _ (done_calm _ (request_calm _ _ _ _ _)) (said _ c.in_err-request.ensures) (Meets-refused _ (said _ c.in_err-request.ensures)) c.from_residual-in_err-request.ensures.1)

pub returns-in_err-cut_at-clause-run : goal.returns-in_err-cut_at-clause-run
unfolding blob_with
returns-in_err-cut_at-clause-run g c = λ k. spills_next _ (said _ (rw c.as_str.ensures at c.in_ok-url.ensures)) (spills_next _ (said _ c.in_ok-request.ensures) (spills_on (rw (c.size_of.ensures, c.as_str.ensures, c.urls_of-urls.ensures) at (c.in_err-cut_at.ensures.run k)) c.from_residual-in_err-cut_at.ensures.1))

pub returns-clause-run : goal.returns-clause-run
unfolding blob_with
returns-clause-run g c = λ k. spills_next _ (said _ (rw c.as_str.ensures at c.in_ok-url.ensures)) (spills_next _ (said _ c.in_ok-request.ensures) (rw (c.size_of.ensures, c.as_str.ensures, c.urls_of-urls.ensures) at (c.in_ok-cut_at.ensures.run k)))

pub returns-in_err-url-clause-within : goal.returns-in_err-url-clause-within
returns-in_err-url-clause-within g c = within_none _ _

pub returns-in_err-request-clause-within : goal.returns-in_err-request-clause-within
returns-in_err-request-clause-within g c = within_none _ _

pub returns-in_err-cut_at-clause-within : goal.returns-in_err-cut_at-clause-within
returns-in_err-cut_at-clause-within g c = rw c.size_of.ensures at c.in_err-cut_at.ensures.within

pub returns-clause-within : goal.returns-clause-within
returns-clause-within g c = rw c.size_of.ensures at c.in_ok-cut_at.ensures.within
