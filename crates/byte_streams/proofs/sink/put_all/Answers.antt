use Rattle.byte_streams.proofs.Sinks.{put_next, put_front, put_part}
use Rattle.byte_streams.proofs.sink.put_all.Goals as goal

pub loop-at-preserved : goal.loop-at-preserved
loop-at-preserved g c = put_next _ _ _ _ _ _ c.loop-at.invariant c.in-Ok.ensures.most c.in-Ok.ensures.no_fault c.in-Ok.ensures.taken

pub returns-in-Err-Failed-clause-prefix : goal.returns-in-Err-Failed-clause-prefix
returns-in-Err-Failed-clause-prefix g c = put_front _ _ _ _ _ c.loop-at.invariant c.in-Err-Failed.ensures.refused

pub returns-in-Err-WantOfMemory-clause-prefix : goal.returns-in-Err-WantOfMemory-clause-prefix
returns-in-Err-WantOfMemory-clause-prefix g c = put_front _ _ _ _ _ c.loop-at.invariant c.in-Err-WantOfMemory.ensures.refused

pub returns-in-Err-Failed-clause-part : goal.returns-in-Err-Failed-clause-part
returns-in-Err-Failed-clause-part g c = put_part _ _ _ _ _ c.loop-at.invariant c.loop-at-test.true c.in-Err-Failed.ensures.refused

pub returns-in-Err-WantOfMemory-clause-part : goal.returns-in-Err-WantOfMemory-clause-part
returns-in-Err-WantOfMemory-clause-part g c = put_part _ _ _ _ _ c.loop-at.invariant c.loop-at-test.true c.in-Err-WantOfMemory.ensures.refused
