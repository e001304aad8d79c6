use Rattle.std.proofs.Common.{arith, refl}
use Rattle.oci_protocol.proofs.OneMoreExchange.{follows_none, follows_next, follows_count, misses, cuts, cuts_start}
use Rattle.oci_protocol.proofs.followed.follow.Goals as goal

pub returns-in-Err-clause-cut : goal.returns-in-Err-clause-cut
returns-in-Err-clause-cut g c = λ _. cuts_start _ _ _

pub loop-head-init : goal.loop-head-init
loop-head-init g c = follows_none _ _ _ _ c.in-Ok.ensures

pub returns-in-Err-Failed-clause-count : goal.returns-in-Err-Failed-clause-count
returns-in-Err-Failed-clause-count g c = omega (arith, follows_count _ _ _ _ _ _ c.loop-head.invariant, c.ask.ensures.count)

pub returns-in-Err-WantOfMemory-clause-count : goal.returns-in-Err-WantOfMemory-clause-count
returns-in-Err-WantOfMemory-clause-count g c = omega (arith, follows_count _ _ _ _ _ _ c.loop-head.invariant, c.ask.ensures.count)

pub returns-then-left-eq0-clause-count : goal.returns-then-left-eq0-clause-count
returns-then-left-eq0-clause-count g c = omega (arith, follows_count _ _ _ _ _ _ c.loop-head.invariant, c.ask.ensures.count)

pub returns-in-Ok-None-clause-count : goal.returns-in-Ok-None-clause-count
returns-in-Ok-None-clause-count g c = omega (arith, follows_count _ _ _ _ _ _ c.loop-head.invariant, c.ask.ensures.count)

pub returns-in-Err-redirected-clause-count : goal.returns-in-Err-redirected-clause-count
returns-in-Err-redirected-clause-count g c = omega (arith, follows_count _ _ _ _ _ _ c.loop-head.invariant, c.ask.ensures.count)

pub loop-head-preserved : goal.loop-head-preserved
loop-head-preserved g c = follows_next _ _ _ _ _ _ _ _ _ c.loop-head.invariant c.if-left-eq0.false c.in-Ok-ask.ensures.answered c.ask.ensures.count (rw c.in-Ok-Some.field-0-is at c.in-Ok-Some.ensures)

pub returns-in-Err-Failed-clause-missed : goal.returns-in-Err-Failed-clause-missed
returns-in-Err-Failed-clause-missed g c _ = misses _ _ _ _ _ _ _ c.loop-head.invariant (c.in-Err-Failed.ensures.unanswered (rw c.in-Err-Failed.field-0-is refl)) (c.in-Err-Failed.ensures.fault (rw c.in-Err-Failed.field-0-is refl)) c.ask.ensures.count

pub returns-in-Err-WantOfMemory-clause-cut : goal.returns-in-Err-WantOfMemory-clause-cut
returns-in-Err-WantOfMemory-clause-cut g c _ = cuts _ _ _ _ _ _ _ c.loop-head.invariant (c.in-Err-WantOfMemory.ensures.memory (rw c.in-Err-WantOfMemory.field-0-is refl)) c.ask.ensures.count
