use Rattle.cosign_client.specs.State.{client_state}
use Rattle.live_pull.proofs.PartsTogether.{finished_for}
use Rattle.live_pull.proofs.live.finish.Goals as goal

pub returns : goal.returns
returns g c = finished_for _ c.args.prepared.now.terms c.args.answers.now c.args.prepared.now.client.rekor_pub_keys (client_state c.args.prepared.now.client).settings c.args.blobs _ _ _ _ _ c.pull-streams.result.1 c.deliver-status.result c.pull-streams.ensures.pulled c.deliver-status.ensures
