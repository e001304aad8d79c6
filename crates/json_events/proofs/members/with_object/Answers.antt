use Rattle.json_events.proofs.Commas.{writing_none, writing_more, writing_end}
use Rattle.json_events.proofs.members.with_object.Goals as goal

pub loop-member-init : goal.loop-member-init
loop-member-init c = writing_none _ _ _ _ c.in_ok-append.ensures.ok c.into_iter-member-iterator.ensures.into_iter_gives.0

pub loop-member-preserved : goal.loop-member-preserved
loop-member-preserved c = writing_more _ _ _ _ _ _ _ c.in-Some.member _ c.loop-member.invariant c.in-Some.ensures.steps c.in_ok-append_comma.ensures c.in_ok-whole.ensures

pub returns : goal.returns
returns c = writing_end _ _ _ _ _ _ c.loop-member.invariant c.in-None.ensures.steps.0 c.in_ok-append-2.ensures.ok
