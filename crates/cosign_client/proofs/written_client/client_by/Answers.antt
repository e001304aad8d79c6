use Rattle.std.proofs.Common.{ap}
use Rattle.registry_calls.specs.Clients.{Client}
use Rattle.cosign_client.proofs.KeptStates.{fresh_settled}
use Rattle.cosign_client.proofs.written_client.client_by.Goals as goal

pub returns-clause-settled : goal.returns-clause-settled
returns-clause-settled c = fresh_settled _ _ (ap (λ (client : Client). client.kept) c.fresh.ensures)
