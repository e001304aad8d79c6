use Rattle.std.proofs.Common.{◌∙◌, sym, ap}
use Rattle.oci_digests.specs.Names.{digest_text}
use Rattle.oci_names.specs.declared.algorithm.Algorithm.TheVariants.{Sha256}
use Rattle.cosign_parts.specs.Trust.{trust}
use Rattle.locked_cases.proofs.BuiltImages.{gives_one, gives_none}
use Rattle.locked_cases.proofs.built.signature_of.Goals as goal

pub returns-in-Ok : goal.returns-in-Ok
returns-in-Ok g c =
    gives_one (trust (g.V.SignatureVerifier.valid c.args.verifier.now) (g.O.Offline.vouched c.args.judge.now) c.args.log_keys.now)
    c.args.digest.now c.args.written.now c.as_str.result.now c.in-Ok.signature
    (c.as_str.ensures ∙ c.in_ok-named.ensures ∙ ap (digest_text Sha256) c.as_slice.ensures) c.in-Ok.ensures.gives c.in-Ok.ensures.law

pub returns : goal.returns
returns g c =
    gives_none (trust (g.V.SignatureVerifier.valid c.args.verifier.now) (g.O.Offline.vouched c.args.judge.now) c.args.log_keys.now)
    c.args.digest.now c.args.written.now c.as_str.result.now c.in-Err.rejection
    (c.as_str.ensures ∙ c.in_ok-named.ensures ∙ ap (digest_text Sha256) c.as_slice.ensures) (sym c.if-is_memory.ensures) c.in-Err.ensures.rejects c.in-Err.ensures.law
