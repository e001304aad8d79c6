use Rattle.pull_lock.proofs.FileLaws.{reads_back}
use Rattle.pull_lock.proofs.reading.read_lock.Goals as goal

pub returns-clause-again : goal.returns-clause-again
returns-clause-again c = reads_back c.args.bytes.now c.read_exactly.result c.read_exactly.ensures
