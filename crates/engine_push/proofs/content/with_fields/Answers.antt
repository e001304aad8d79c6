use Rattle.std.proofs.Common.{Ok, Err}
use Rattle.json_values.proofs.Refusals.{says_on}
use Rattle.engine_terms.specs.Error.{is_memory}
use Rattle.engine_push.proofs.Refusals.{range_refused, length_refused, type_said, whole_said}
use Rattle.engine_push.proofs.content.with_fields.Goals as goal

pub returns-in_err-ranged-in-Chunk : goal.returns-in_err-ranged-in-Chunk
returns-in_err-ranged-in-Chunk c = rw c.in-Chunk.is (says_on is_memory _ _ _ (range_refused _ _ _ _ (rw (c.as_str.ensures, c.in_ok-range-in-Chunk.ensures, c.as_slice-in-Chunk.ensures) at c.in_err-ranged-in-Chunk.ensures)) c.from_residual-in_err-ranged-in-Chunk.ensures.1)

pub returns-in_err-sized-in-Chunk : goal.returns-in_err-sized-in-Chunk
returns-in_err-sized-in-Chunk c = rw c.in-Chunk.is (says_on is_memory _ _ _ (length_refused _ _ _ _ _ (rw (c.as_str.ensures, c.in_ok-range-in-Chunk.ensures, c.as_slice-in-Chunk.ensures) at c.in_ok-ranged-in-Chunk.ensures) (rw c.as_slice-in-Chunk-2.ensures at c.in_err-sized-in-Chunk.ensures)) c.from_residual-in_err-sized-in-Chunk.ensures.1)

pub returns-in_err-typed-in-Chunk : goal.returns-in_err-typed-in-Chunk
returns-in_err-typed-in-Chunk c = rw c.in-Chunk.is (says_on is_memory _ _ _ (type_said _ _ _ (Err _) _ _ (rw (c.as_str.ensures, c.in_ok-range-in-Chunk.ensures, c.as_slice-in-Chunk.ensures) at c.in_ok-ranged-in-Chunk.ensures) (rw c.as_slice-in-Chunk-2.ensures at c.in_ok-sized-in-Chunk.ensures) c.in_err-typed-in-Chunk.ensures) c.from_residual-in_err-typed-in-Chunk.ensures.1)

pub returns-in_ok-typed-in-Chunk : goal.returns-in_ok-typed-in-Chunk
returns-in_ok-typed-in-Chunk c = rw c.in-Chunk.is (type_said _ _ _ (Ok _) _ _ (rw (c.as_str.ensures, c.in_ok-range-in-Chunk.ensures, c.as_slice-in-Chunk.ensures) at c.in_ok-ranged-in-Chunk.ensures) (rw c.as_slice-in-Chunk-2.ensures at c.in_ok-sized-in-Chunk.ensures) c.in_ok-typed-in-Chunk.ensures)

pub returns-in_ok-typed-in-Whole : goal.returns-in_ok-typed-in-Whole
returns-in_ok-typed-in-Whole c = rw c.in-Whole.is (whole_said _ _ (Ok _) _ (rw c.as_slice.ensures at c.in_ok-sized-in-Whole.ensures) c.in_ok-typed-in-Whole.ensures)
