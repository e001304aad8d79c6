use Rattle.engine_push.proofs.CallTree.{blob_whole, blob_chunked, blob_again, blob_refused}
use Rattle.engine_push.proofs.bytes.push_blob.Goals as goal

pub returns-then-call : goal.returns-then-call
returns-then-call g c = blob_whole _ _ _ _ _ c.if-call.true c.push_whole.ensures

pub returns-in-Ok : goal.returns-in-Ok
returns-in-Ok g c = blob_chunked _ _ _ _ _ c.if-call.false c.in-Ok.ensures

pub returns-then-is_violation : goal.returns-then-is_violation
returns-then-is_violation g c = blob_again _ _ _ _ _ _ c.if-call.false (rw c.is_violation.ensures at c.if-is_violation.true) c.in-Err.ensures c.push_whole-then-is_violation.ensures

pub returns : goal.returns
returns g c = blob_refused _ _ _ _ _ c.if-call.false (rw c.is_violation.ensures at c.if-is_violation.false) c.in-Err.ensures
