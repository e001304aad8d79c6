use Rattle.std.proofs.lemmas.Str.{IsUtf8-past_char}
use Rattle.json_events.proofs.Utf16.{units_more, units_all}
use Rattle.json_events.proofs.units.units_of.Goals as goal

pub loop-c-preserved : goal.loop-c-preserved
loop-c-preserved c =
    let held = c.loop-c.invariant in
    let parts = c.in-Some.ensures.steps.0 in
    (IsUtf8-past_char _ _ c.in-Some.c held.0 parts, rw c.in_ok-push_units.ensures (units_more _ _ _ _ c.in-Some.c held.0 parts held.1))

pub returns : goal.returns
returns c = units_all _ _ _ c.in-None.ensures.steps.0.0 c.loop-c.invariant.1
