use Rattle.cosign_client.specs.State.{client_state}
use Rattle.live_pull.proofs.Justifies.{client_decides}
use Rattle.live_pull.proofs.documents.decide_again.Goals as goal

pub returns-clause-decided : goal.returns-clause-decided
returns-clause-decided g c = λ suits.
    client_decides _ c.args.settings c.terms_from-terms.result c.args.client.now.rekor_pub_keys (client_state c.args.client.now).settings _ _ _ _ c.converse-decided.result.outcome
    (record {
      terms_are = c.terms_from-terms.ensures (rw c.as_str.ensures at c.in-Ok.ensures.image) c.in-Ok.ensures.auth (rw c.as_slice.ensures at c.in-Ok-constraints_from.ensures);
      client = suits.0;
      logs_are = suits.1;
    }) c.converse-decided.ensures.decided
