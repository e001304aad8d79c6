use Rattle.pull_lock.proofs.Unlocks.{not_unlocked, unlocked}
use Rattle.pull_lock.proofs.unlocked.documents_of.Goals as goal

pub returns-then-not-locked : goal.returns-then-not-locked
returns-then-not-locked g c = not_unlocked _ _ c.args.entry.now c.in_ok-locked.locked c.in_ok-locked.ensures c.if-not-locked.true

pub returns : goal.returns
returns g c = unlocked _ _ c.args.entry.now c.in_ok-locked.locked c.in_ok-documents.documents c.in_ok-locked.ensures c.if-not-locked.false c.in_ok-documents.ensures
