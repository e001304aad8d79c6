use Rattle.cosign_client.specs.State.{client_state}
use Rattle.live_pull.proofs.CourseParts.{finished_for}
use Rattle.live_pull.proofs.documents.finish.Goals as goal

pub returns-clause-decided : goal.returns-clause-decided
returns-clause-decided g c = finished_for _ c.args.terms.now c.args.client.now.rekor_pub_keys (client_state c.args.client.now).settings c.args.answers.now c.args.found _ _ _ _ c.decide-streams.result.1 c.decide-streams.ensures.decided
