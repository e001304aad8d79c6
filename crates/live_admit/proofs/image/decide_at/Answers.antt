use Rattle.live_admit.proofs.ClientStates.{led}
use Rattle.live_admit.proofs.image.decide_at.Goals as goal

pub returns-in-Some : goal.returns-in-Some
returns-in-Some g c = led c.args.rules.now.items c.args.at c.args.reference.now c.args.moment c.args.image.now c.in-Some.rule.now _ c.decide_under.result.verdict _ _ c.requires.first c.requires.reads c.in-Some.ensures.value c.decide_under.ensures
