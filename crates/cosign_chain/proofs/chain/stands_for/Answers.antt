use Rattle.std.proofs.Common.{length, sym, ap}
use Rattle.cosign_chain.proofs.LayerSatisfies.{another, supported, rejected}
use Rattle.cosign_chain.proofs.chain.stands_for.Goals as goal

pub returns-then-not-same_reading : goal.returns-then-not-same_reading
returns-then-not-same_reading g c =
    another _ _ c.in-Ok.again c.args.layer.now c.in-Ok.ensures.gives c.in-Ok.ensures.law (sym c.if-not-same_reading.ensures)

pub returns-in_ok-stood-in-Ok : goal.returns-in_ok-stood-in-Ok
returns-in_ok-stood-in-Ok g c =
    supported _ _ c.in-Ok.again c.args.layer.now _ c.in-Ok.ensures.gives (sym c.if-not-same_reading.ensures)
    _ (ap length c.as_slice.ensures) c.if-is_empty.ensures
    c.in_ok-stood-in-Ok.ensures.exact

pub returns-else-is_memory : goal.returns-else-is_memory
returns-else-is_memory g c =
    rejected _ _ c.args.layer.now c.in-Err.rejection c.in-Err.ensures.rejects (sym c.if-is_memory.ensures)
    c.in-Err.ensures.law
