use Rattle.std.proofs.Common.{refl}
use Rattle.live_admit.proofs.ClientStates.{under_rule, untold}
use Rattle.live_admit.proofs.image.decide_under.Goals as goal

pub returns-in-Ok : goal.returns-in-Ok
returns-in-Ok g c =
    under_rule c.args.rule.now _ c.in-Ok.settings c.args.moment c.args.image.now c.decide.result.verdict _ _ _
    c.in_default.ensures.told c.in-Ok.ensures c.decide.ensures.verdict c.decide.ensures.settings c.decide.ensures.log_keys refl refl

pub returns-in-Err : goal.returns-in-Err
returns-in-Err g c = rw (c.ended.ensures, c.from.ensures) (untold c.args.rule.now c.args.rule.now c.args.moment c.args.image.now c.in-Err.error _ _ c.in-Err.ensures.cause)
