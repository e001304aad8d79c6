use Rattle.live_check.proofs.Ends.{decides, decides_cut}
use Rattle.live_check.proofs.serve.decide_and_tell.Goals as goal

pub returns-clause-told : goal.returns-clause-told
returns-clause-told g c = decides _ _ _ _ _ _ c.tell_verdict-held.result _ _ c.in_ok-found.ensures c.tell_verdict-held.ensures.told

pub returns-clause-cause : goal.returns-clause-cause
returns-clause-cause g c = decides_cut _ _ _ _ _ _ c.tell_verdict-held.result _ _ c.in_ok-found.ensures c.tell_verdict-held.ensures.cause
