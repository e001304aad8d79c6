use Rattle.std.proofs.Common.{sym}
use Rattle.cosign_layers.specs.Checks.{input_from}
use Rattle.cosign_parts.specs.Trust.{trust_of}
use Rattle.cosign_layers.proofs.Outcomes.{wanting}
use Rattle.cosign_layers.proofs.Steps.{no_content, no_signature, no_entry, no_certificate, all_passed}
use Rattle.cosign_layers.proofs.checks.read_layer.Goals as goal

pub returns-in_err-shown : goal.returns-in_err-shown
returns-in_err-shown g c = no_content (trust_of g.V.SignatureVerifier.valid g.O.Offline.vouched c.args.trusted.now) c.args.source_digest.now (input_from c.args.pulled.now) _ c.from_residual.result c.in_err-shown.ensures c.from_residual.ensures.1

pub returns-in_err-spelled : goal.returns-in_err-spelled
returns-in_err-spelled g c = no_signature (trust_of g.V.SignatureVerifier.valid g.O.Offline.vouched c.args.trusted.now) c.args.source_digest.now (input_from c.args.pulled.now) c.in_ok-shown.shown _ c.from_residual-in_err-spelled.result c.in_ok-shown.ensures c.in_err-spelled.ensures c.from_residual-in_err-spelled.ensures.1

pub returns-in_err-entry : goal.returns-in_err-entry
returns-in_err-entry g c = no_entry (trust_of g.V.SignatureVerifier.valid g.O.Offline.vouched c.args.trusted.now) c.args.source_digest.now (input_from c.args.pulled.now) c.in_ok-shown.shown c.in_ok-spelled.spelled _ c.from_residual-in_err-entry.result c.in_ok-shown.ensures c.in_ok-spelled.ensures (rw c.as_slice.ensures at c.in_err-entry.ensures) c.from_residual-in_err-entry.ensures.1

pub returns-in_err-certificate : goal.returns-in_err-certificate
returns-in_err-certificate g c = no_certificate (trust_of g.V.SignatureVerifier.valid g.O.Offline.vouched c.args.trusted.now) c.args.source_digest.now (input_from c.args.pulled.now) c.in_ok-shown.shown c.in_ok-spelled.spelled c.in_ok-entry.entry _ c.from_residual-in_err-certificate.result c.in_ok-shown.ensures c.in_ok-spelled.ensures (rw c.as_slice.ensures at c.in_ok-entry.ensures) c.in_err-certificate.ensures c.from_residual-in_err-certificate.ensures.1

pub returns-in_err-layer : goal.returns-in_err-layer
returns-in_err-layer g c = wanting _ c.from_residual-in_err-layer.result c.from_residual-in_err-layer.ensures.1

pub returns : goal.returns
returns g c = all_passed (trust_of g.V.SignatureVerifier.valid g.O.Offline.vouched c.args.trusted.now) c.args.source_digest.now (input_from c.args.pulled.now) c.in_ok-shown.shown c.in_ok-spelled.spelled c.in_ok-entry.entry c.in_ok-certificate.certificate _ c.in_ok-shown.ensures c.in_ok-spelled.ensures (rw c.as_slice.ensures at c.in_ok-entry.ensures) c.in_ok-certificate.ensures (sym c.in_ok-layer.ensures)
