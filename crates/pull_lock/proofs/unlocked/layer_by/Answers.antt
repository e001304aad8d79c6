use Rattle.std.proofs.Common.{sym}
use Rattle.pull_lock.proofs.Unlocks.{layer_read, layer_rejected}
use Rattle.pull_lock.proofs.unlocked.layer_by.Goals as goal

pub returns-in-Ok : goal.returns-in-Ok
returns-in-Ok g c = λ is. layer_read _ c.args.entry.now c.args.content.now c.in-Ok.layer is c.in-Ok.ensures.gives

pub returns-else-is_memory : goal.returns-else-is_memory
returns-else-is_memory g c = λ is. layer_rejected _ c.args.entry.now c.args.content.now c.in-Err.rejection is c.in-Err.ensures.rejects (sym c.if-is_memory.ensures) c.in-Err.ensures.law
