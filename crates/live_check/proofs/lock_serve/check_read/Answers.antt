use Rattle.live_check.proofs.LockEnds.{judged_ends}
use Rattle.live_check.proofs.lock_serve.check_read.Goals as goal

pub returns : goal.returns
returns g c =
    rw (c.end_with-2.ensures, c.status_by.ensures) (judged_ends _ c.args.settings c.in-Ok.constraints c.args.lock c.ask_and_judge-held.result _ _ (rw c.as_slice.ensures at c.in-Ok.ensures)
    (rw c.terms_in-terms.ensures at c.ask_and_judge-held.ensures.told) (rw c.terms_in-terms.ensures at c.ask_and_judge-held.ensures.cause))
