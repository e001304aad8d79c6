use Rattle.std.proofs.Common.{rules}
use Rattle.live_admit.proofs.ClientStates.{all_opened, one_opened}
use Rattle.live_admit.proofs.clients.open_rules.Goals as goal

pub loop-rule-preserved : goal.loop-rule-preserved
loop-rule-preserved c =
    one_opened c.args.rules.now c.loop-rule.opened.items c.push.new.self.items c.loop-rule.rule-index c.rule-item.result c.in_ok-held.held (search rules) c.rule-item.is c.in_ok-held.ensures c.in_ok-push.ensures.items c.loop-rule.invariant

pub returns : goal.returns
returns c = all_opened c.args.rules.now _ c.loop-rule.rule-index (search rules) c.loop-rule.invariant
