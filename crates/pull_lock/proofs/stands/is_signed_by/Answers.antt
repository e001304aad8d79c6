use Rattle.std.proofs.Common.{length, sym, ap}
use Rattle.pull_lock.proofs.Signatures.{unconstrained, signed, rejected}
use Rattle.pull_lock.proofs.stands.is_signed_by.Goals as goal

pub returns-then-is_empty : goal.returns-then-is_empty
returns-then-is_empty g c = λ is. unconstrained _ c.args.entry.now _ (ap length c.as_slice.ensures) c.if-is_empty.ensures

pub returns-in_ok-stands-in-Ok : goal.returns-in_ok-stands-in-Ok
returns-in_ok-stands-in-Ok g c = λ is.
    signed _ c.args.entry.now c.args.content.now c.in-Ok.layer c.in_ok-stands-in-Ok.stands is c.in-Ok.ensures.gives c.in-Ok.ensures.law
    _ (ap length c.as_slice.ensures) c.if-is_empty.ensures c.in_ok-stands-in-Ok.ensures.exact

pub returns-else-is_memory : goal.returns-else-is_memory
returns-else-is_memory g c = λ is.
    rejected _ c.args.entry.now c.args.content.now c.in-Err.rejection is c.in-Err.ensures.rejects (sym c.if-is_memory.ensures) c.in-Err.ensures.law
