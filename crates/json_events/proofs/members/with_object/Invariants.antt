use Rattle.json_events.proofs.Commas.{Writing}
use Rattle.json_events.proofs.members.with_object.Given as goal

abbrev pub invariant-loop-member : goal.invariant-loop-member
invariant-loop-member l = Writing l.fn.text l.whole l.fn.members.keys l.member-iterator l.later
