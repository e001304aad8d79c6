use Rattle.std.proofs.Common.{refl, ap, Err, Ok}
use Rattle.call_laws.proofs.BlobTaken.{with_took}
use Rattle.image_blobs.proofs.EachInTurn.{sinks_say, sinks_count, unopened, unfilled, unclosed, kept}
use Rattle.image_blobs.proofs.SinksTaken.{closes_more, took_one, took_refused, took_front, took_nothing, told_nothing, rises, stays}
use Rattle.image_blobs.proofs.pulls.kept_blob.Goals as goal

pub returns-in-Err-clause-run : goal.returns-in-Err-clause-run
returns-in-Err-clause-run g c = λ k. unopened _ _ _ _ _ _ _ k (sinks_say c.in-Err.error _ c.refusal_of.ensures _ k)

pub returns-in-Err-clause-took : goal.returns-in-Err-clause-took
returns-in-Err-clause-took g c = λ k. took_nothing _ _ c.in-Err.ensures.unclosed (told_nothing _)

pub returns-in-Err-clause-count : goal.returns-in-Err-clause-count
returns-in-Err-clause-count g c = c.in-Err.ensures.count

pub returns-in-Err-clause-sink : goal.returns-in-Err-clause-sink
returns-in-Err-clause-sink g c = λ k. sinks_count c.in-Err.error _ _ c.refusal_of.ensures (λ is. c.in-Err.ensures.fault (ap Err is))

pub returns-in-Ok-close-clause-run : goal.returns-in-Ok-close-clause-run
returns-in-Ok-close-clause-run g c = λ k. kept _ _ _ _ _ _ _ _ k (c.in-Ok-blob_with.ensures.run k).met

pub returns-in-Ok-close-clause-took : goal.returns-in-Ok-close-clause-took
returns-in-Ok-close-clause-took g c = λ k. took_one _ _ _ (c.in-Ok-blob_with.ensures.run k).body (closes_more _ _ _ _ _ c.in-Ok.ensures.unclosed (rw c.as_str-digest.ensures at c.in-Ok-close.ensures.closed)) (rw c.in-Ok.ensures.fresh at (c.in-Ok-blob_with.ensures.run k).put) (with_took _ _ _ _ _ (c.in-Ok-blob_with.ensures.run k).met)

pub returns-in-Ok-close-clause-count : goal.returns-in-Ok-close-clause-count
returns-in-Ok-close-clause-count g c = stays c.in-Ok.ensures.count c.in-Ok-close.ensures.count

pub returns-in-Ok-close-clause-sink : goal.returns-in-Ok-close-clause-sink
returns-in-Ok-close-clause-sink g c = λ k h. absurd (cc h)

pub returns-in-Err-close-clause-run : goal.returns-in-Err-close-clause-run
returns-in-Err-close-clause-run g c = λ k. unclosed _ _ _ _ _ _ _ _ _ k (c.in-Ok-blob_with.ensures.run k).met (sinks_say c.in-Err-close.error _ c.refusal_of-in-Err-close.ensures _ k)

pub returns-in-Err-close-clause-took : goal.returns-in-Err-close-clause-took
returns-in-Err-close-clause-took g c = λ k. took_refused _ _ _ (c.in-Ok-blob_with.ensures.run k).body (closes_more _ _ _ _ _ c.in-Ok.ensures.unclosed (rw c.as_str-digest.ensures at c.in-Err-close.ensures.closed)) (rw c.in-Ok.ensures.fresh at (c.in-Ok-blob_with.ensures.run k).put) (with_took _ _ _ _ _ (c.in-Ok-blob_with.ensures.run k).met)

pub returns-in-Err-close-clause-count : goal.returns-in-Err-close-clause-count
returns-in-Err-close-clause-count g c = stays c.in-Ok.ensures.count c.in-Err-close.ensures.count

pub returns-in-Err-close-clause-sink : goal.returns-in-Err-close-clause-sink
returns-in-Err-close-clause-sink g c = λ k. sinks_count c.in-Err-close.error _ _ c.refusal_of-in-Err-close.ensures (λ is. rises c.in-Ok.ensures.count (c.in-Err-close.ensures.fault (ap Err is)))

pub returns-in-Err-blob_with-clause-run : goal.returns-in-Err-blob_with-clause-run
returns-in-Err-blob_with-clause-run g c = λ k. unfilled _ _ _ _ _ _ _ _ k (c.in-Err-blob_with.ensures.run k).met

pub returns-in-Err-blob_with-clause-took : goal.returns-in-Err-blob_with-clause-took
returns-in-Err-blob_with-clause-took g c = λ k. took_front _ _ _ (c.in-Err-blob_with.ensures.run k).body (closes_more _ _ _ _ _ c.in-Ok.ensures.unclosed (rw c.as_str-digest.ensures at c.close-in-Err-blob_with.ensures.closed)) (rw c.in-Ok.ensures.fresh at (c.in-Err-blob_with.ensures.run k).put) (rw c.in-Ok.ensures.fresh at c.in-Err-blob_with.ensures.within) (c.in-Err-blob_with.ensures.run k).front

pub returns-in-Err-blob_with-clause-count : goal.returns-in-Err-blob_with-clause-count
returns-in-Err-blob_with-clause-count g c = stays c.in-Ok.ensures.count c.close-in-Err-blob_with.ensures.count

pub returns-in-Err-blob_with-clause-sink : goal.returns-in-Err-blob_with-clause-sink
returns-in-Err-blob_with-clause-sink g c = λ k h. rises c.in-Ok.ensures.count (c.close-in-Err-blob_with.ensures.failed (rw c.in-Ok.ensures.fresh at ((c.in-Err-blob_with.ensures.run k).fault h)))
