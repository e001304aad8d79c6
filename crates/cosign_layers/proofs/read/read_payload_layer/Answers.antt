use Rattle.cosign_layers.specs.Checks.{input}
use Rattle.cosign_parts.specs.Trust.{trust}
use Rattle.cosign_parts.specs.declared.layer.LayerKind.TheVariants as kinds
use Rattle.cosign_layers.proofs.Layers.{gives, rejects, one_outcome}
use Rattle.cosign_layers.proofs.read.read_payload_layer.Goals as goal

pub returns-clause-gives : goal.returns-clause-gives
returns-clause-gives g c = gives (trust (g.V.SignatureVerifier.valid c.args.verifier.now) (g.O.Offline.vouched c.args.judge.now) c.args.log_keys.now) c.args.source_digest.now (input kinds.Payload c.args.content.now c.args.oci_digest.now c.args.annotations.now) c.read_layer.result c.read_layer.ensures

pub returns-clause-rejects : goal.returns-clause-rejects
returns-clause-rejects g c = rejects (trust (g.V.SignatureVerifier.valid c.args.verifier.now) (g.O.Offline.vouched c.args.judge.now) c.args.log_keys.now) c.args.source_digest.now (input kinds.Payload c.args.content.now c.args.oci_digest.now c.args.annotations.now) c.read_layer.result c.read_layer.ensures

pub returns-clause-law : goal.returns-clause-law
returns-clause-law g c = one_outcome (trust (g.V.SignatureVerifier.valid c.args.verifier.now) (g.O.Offline.vouched c.args.judge.now) c.args.log_keys.now) c.args.source_digest.now (input kinds.Payload c.args.content.now c.args.oci_digest.now c.args.annotations.now)
