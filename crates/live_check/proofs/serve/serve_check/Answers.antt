use Rattle.live_check.proofs.Policies.{checked_ends}
use Rattle.live_check.proofs.serve.serve_check.Goals as goal

pub returns : goal.returns
returns g c = record {
  status = rw (c.end_with-2.ensures, c.status_by.ensures) (checked_ends _ c.args.settings c.in-Ok.constraints c.ask_and_decide-held.result _ _ (rw c.as_slice.ensures at c.in-Ok.ensures)
      (rw c.terms_in-terms.ensures at c.ask_and_decide-held.ensures.told) (rw c.terms_in-terms.ensures at c.ask_and_decide-held.ensures.cause));
}
