use Rattle.live_copy.proofs.Plain.{copied_plain}
use Rattle.live_copy.proofs.heads.copied_head.Goals as goal

pub returns-clause-plain : goal.returns-clause-plain
returns-clause-plain c = rw c.in_ok-head.ensures (copied_plain c.args.url.now c.args.pushed.now)
