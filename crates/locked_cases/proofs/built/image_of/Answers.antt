use Rattle.cosign_parts.specs.Trust.{trust}
use Rattle.locked_cases.proofs.BuiltImages.{built, no_signature, no_manifest}
use Rattle.locked_cases.proofs.built.image_of.Goals as goal

pub returns-in_default : goal.returns-in_default
returns-in_default g c =
    no_signature (trust (g.V.SignatureVerifier.valid c.args.verifier.now) (g.O.Offline.vouched c.args.judge.now) c.args.log_keys.now)
    c.args.chain.now c.as_str-digest.result.now c.in_ok-signature.field-0 c.as_str-digest.ensures c.in_default.is c.in_ok-signature.ensures

pub returns-in_default-2 : goal.returns-in_default-2
returns-in_default-2 g c =
    no_manifest (trust (g.V.SignatureVerifier.valid c.args.verifier.now) (g.O.Offline.vouched c.args.judge.now) c.args.log_keys.now)
    c.args.chain.now c.in_ok-manifest.field-0 c.in_default-2.is c.in_ok-manifest.ensures

pub returns : goal.returns
returns g c =
    built (trust (g.V.SignatureVerifier.valid c.args.verifier.now) (g.O.Offline.vouched c.args.judge.now) c.args.log_keys.now)
    c.args.chain.now c.as_str-digest.result.now c.in_ok-signature.field-0 c.in_ok-manifest.field-0 c.in-Some-2.manifest c.in-Some.signature c.in_ok-parts.parts c.image_with.result
    c.as_str-digest.ensures c.in-Some.is c.in_ok-signature.ensures c.in-Some-2.is c.in_ok-manifest.ensures c.in_ok-parts.ensures c.image_with.ensures
