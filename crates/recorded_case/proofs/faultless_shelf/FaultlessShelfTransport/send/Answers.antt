use Rattle.recorded_case.proofs.ShelfFaults.{still_quiet}
use Rattle.recorded_case.proofs.faultless_shelf.FaultlessShelfTransport.send.Goals as goal

pub invariant_of-self : goal.invariant_of-self
invariant_of-self c = record {
  quiet = still_quiet c.send.result c.args.request.now c.args.self.now.transport c.send.new.self c.send.ensures.answered c.send.ensures.never_fails c.send.ensures.memory c.args.self.now.quiet;
}
