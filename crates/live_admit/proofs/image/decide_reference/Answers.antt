use Rattle.live_admit.proofs.ClientStates.{led_none}
use Rattle.live_admit.proofs.image.decide_reference.Goals as goal

pub returns-in-Ok-None : goal.returns-in-Ok-None
returns-in-Ok-None g c =
    rw c.deny.ensures (led_none c.args.rules.now.items c.args.reference.now c.args.moment c.args.image.now _ (rw (c.as_slice.ensures.value, c.in-Ok-None.field-0-is) at c.in-Ok-None.ensures))
