use Rattle.cosign_client.specs.State.{client_state}
use Rattle.index_mirrors.specs.Terms.{source_of}
use Rattle.index_mirrors.proofs.EntryPulls.{entry_pulled, not_pulled}
use Rattle.index_mirrors.proofs.clients.pull_entry.Goals as goal

pub returns-in_err-client : goal.returns-in_err-client
returns-in_err-client g c = not_pulled _ _ c.args.entry.now _ c.from_residual.result c.from_residual.ensures.1

pub returns : goal.returns
returns g c =
    entry_pulled _ _ _ _ (source_of c.args.terms.now) c.args.entry.now _ _ (client_state c.in_ok-client.client) (client_state c.verified_pull.new.self) c.in_ok-client.ensures.keys c.in_ok-client.ensures.state
    c.verified_pull.ensures.run c.verified_pull.ensures.chain c.verified_pull.ensures.causes c.verified_pull.ensures.fault c.verified_pull.ensures.confined
