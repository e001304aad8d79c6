use Rattle.std.proofs.Common.{rules}
use Rattle.live_admit.proofs.Places.{here_first, one_passed}
use Rattle.live_admit.proofs.rules.first_at.Goals as goal

pub returns-then-covers : goal.returns-then-covers
returns-then-covers g c = here_first _ _ _ c.index-rules-at.result (search rules) c.index-rules-at.is (search rules) c.loop-at.invariant

pub loop-at-preserved : goal.loop-at-preserved
loop-at-preserved g c = one_passed _ _ _ c.index-rules-at.result (search rules) c.index-rules-at.is (search rules) c.loop-at.invariant
