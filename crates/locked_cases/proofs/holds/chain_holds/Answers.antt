use Rattle.std.proofs.Common.{refl}
use Rattle.locked_cases.proofs.ChainHolds.{case_answers}
use Rattle.locked_cases.proofs.holds.chain_holds.Goals as goal

pub returns : goal.returns
returns c =
    case_answers (record { keys = c.args.input.case.keys; constraints = c.in_ok-constraints.constraints }) _ c.args.input c.in_ok-image.image c.holds_under-held.result
    (rw c.as_str.ensures at c.in_ok-image.ensures) refl (rw c.as_slice.ensures at c.in_ok-constraints.ensures) (rw c.terms_in-terms.ensures at c.holds_under-held.ensures)
