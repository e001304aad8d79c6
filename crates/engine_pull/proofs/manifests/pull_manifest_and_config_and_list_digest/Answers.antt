use Rattle.oci_protocol.proofs.Exits.{refused, and_then, said, done}
use Rattle.engine_rows.specs.Manifests.{pull_manifest_and_config_and_list_digest}
use Rattle.engine_pull.proofs.Layers.{held_as}
use Rattle.engine_pull.proofs.manifests.pull_manifest_and_config_and_list_digest.Goals as goal

pub returns-in_err-found : goal.returns-in_err-found
unfolding pull_manifest_and_config_and_list_digest
returns-in_err-found g c = refused _ c.in_err-found.ensures c.from_residual.ensures.1

pub returns-in_err-content : goal.returns-in_err-content
unfolding pull_manifest_and_config_and_list_digest
returns-in_err-content g c = and_then _ c.in_ok-found.ensures (refused _ (held_as _ _ c.as_layer_descriptor-blob.ensures c.in_err-content.ensures) c.from_residual-in_err-content.ensures.1)

pub returns-in_err-config : goal.returns-in_err-config
unfolding pull_manifest_and_config_and_list_digest
returns-in_err-config g c = and_then _ c.in_ok-found.ensures (and_then _ (held_as _ _ c.as_layer_descriptor-blob.ensures c.in_ok-content.ensures) (refused _ (said _ c.in_err-config.ensures) c.from_residual-in_err-config.ensures.1))

pub returns : goal.returns
unfolding pull_manifest_and_config_and_list_digest
returns g c = and_then _ c.in_ok-found.ensures (and_then _ (held_as _ _ c.as_layer_descriptor-blob.ensures c.in_ok-content.ensures) (and_then _ (said _ c.in_ok-config.ensures) done))
