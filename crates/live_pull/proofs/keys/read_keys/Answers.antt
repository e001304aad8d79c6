use Rattle.live_pull.proofs.Loops.{next_key}
use Rattle.live_pull.proofs.keys.read_keys.Goals as goal

pub loop-item-preserved : goal.loop-item-preserved
loop-item-preserved c = next_key c.args.items.now c.loop-item.item-index c.item-item.result c.loop-item.list c.push.new.self c.in_ok-read_key.field-0 c.loop-item-test.true c.item-item.is c.loop-item.invariant c.in_ok-read_key.ensures c.in_ok-push.ensures.ok
