use Rattle.live_admit.proofs.ClientStates.{OpensRest}
use Rattle.live_admit.proofs.clients.open_rules.Given as goal

abbrev pub invariant-loop-rule : goal.invariant-loop-rule
invariant-loop-rule l = OpensRest l.rules l.opened.items l.rule-index
