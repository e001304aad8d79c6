use Rattle.cosign_client.proofs.PushedLayers.{layer_added}
use Rattle.cosign_client.proofs.signature.add_layer.Goals as goal

pub returns : goal.returns
returns c = λ before are. layer_added before c.args.images.now _ c.args.layer.now _ _ are c.in-Some.is c.in_ok-image.ensures c.in_ok-push.ensures.ok
