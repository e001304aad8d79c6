use Rattle.pull_lock.proofs.Parts.{not_led, if_signed}
use Rattle.pull_lock.proofs.checking.is_locked.Goals as goal

pub returns-then-not-led : goal.returns-then-not-led
returns-then-not-led g c = not_led _ _ c.args.entry.now c.in_ok-led.led c.in_ok-led.ensures c.if-not-led.true

pub returns : goal.returns
returns g c =
    if_signed _ _ c.args.entry.now c.in_ok-named.named c.in_ok-led.led c.in_ok-signed.signed c.in_ok-named.ensures c.if-not-named.false c.in_ok-led.ensures c.if-not-led.false c.in_ok-signed.ensures
