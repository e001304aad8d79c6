use Rattle.std.proofs.Common.{ap, ◌∙◌}
use Rattle.registry_calls.specs.Clients.{Client}
use Rattle.live_admit.proofs.ClientStates.{few_kept}
use Rattle.live_admit.proofs.clients.bounded_client.Goals as goal

pub returns-clause-settings : goal.returns-clause-settings
returns-clause-settings c = ap (λ (client : Client). client.settings) c.with_bounds-client.ensures.state ∙ c.new-client.ensures.settings

pub returns-clause-kept : goal.returns-clause-kept
returns-clause-kept c = λ usual. ap (λ (client : Client). client.kept) (c.with_bounds-client.ensures.state ∙ few_kept c.new-client.result _ c.new-client.ensures.fresh usual)
