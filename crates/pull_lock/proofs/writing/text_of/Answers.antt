use Rattle.pull_lock.proofs.Values.{lock_taken}
use Rattle.pull_lock.proofs.writing.text_of.Goals as goal

pub value_text-requires : goal.value_text-requires
value_text-requires c = lock_taken c.args.lock.now
