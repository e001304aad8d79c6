use Rattle.std.proofs.Common.{sym, ◌∙◌}
use Rattle.pull_run.proofs.Inputs.{cut_off, wanting_behind, no_ok}
use Rattle.pull_run.proofs.input.read_input.Goals as goal

pub returns-in_err-bytes-clause-reads : goal.returns-in_err-bytes-clause-reads
returns-in_err-bytes-clause-reads g c = cut_off _ c.from_residual.result _ _ _ c.from_residual.ensures.0 c.from_residual.ensures.1 c.in_err-bytes.ensures.reads

pub returns-in_err-bytes-clause-valid : goal.returns-in_err-bytes-clause-valid
returns-in_err-bytes-clause-valid g c = no_ok c.from_residual.result _ c.from_residual.ensures.0

pub returns-in_err-input-clause-reads : goal.returns-in_err-input-clause-reads
returns-in_err-input-clause-reads g c =
    wanting_behind _ c.from_residual-in_err-input.result c.in_ok-bytes.bytes _ _ c.from_residual-in_err-input.ensures.0 c.from_residual-in_err-input.ensures.1 c.in_ok-bytes.ensures.reads

pub returns-in_err-input-clause-valid : goal.returns-in_err-input-clause-valid
returns-in_err-input-clause-valid g c = no_ok c.from_residual-in_err-input.result _ c.from_residual-in_err-input.ensures.0

pub returns-in_default-clause-reads : goal.returns-in_default-clause-reads
returns-in_default-clause-reads g c =
    (c.in_ok-bytes.bytes, c.in_ok-bytes.ensures.reads, rw c.as_slice.ensures at (sym c.in_ok-input.ensures.exact ∙ c.in_default.is))

pub returns-clause-reads : goal.returns-clause-reads
returns-clause-reads g c =
    (c.in_ok-bytes.bytes, c.in_ok-bytes.ensures.reads, rw c.as_slice.ensures at (sym c.in_ok-input.ensures.exact ∙ c.in-Some.is))

pub returns-clause-valid : goal.returns-clause-valid
returns-clause-valid g c = rw c.in-Some.is at c.in_ok-input.ensures.valid
