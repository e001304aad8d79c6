use Rattle.std.proofs.Common.{refl, Some, None, codes}
use Rattle.serde_json.specs.Written.{compact_text}
use Rattle.service_models.specs.CertificateRequest.{request_written, signing_request_written}
use Rattle.oci_protocol.proofs.Exits.{refused, and_then, said, passed_on, wanting}
use Rattle.sig_services.specs.Client.{request_cert, certificate_in}
use Rattle.service_models.specs.Token.{token_of}
use Rattle.sig_services.proofs.AuthorityCauses.{certificate_refuses, caused}
use Rattle.sig_services.proofs.client.FulcioClient.request_cert.Goals as goal

pub returns-in_err-body-clause-run : goal.returns-in_err-body-clause-run
returns-in_err-body-clause-run g c = λ k. wanting _ refl c.from_residual.ensures.1

pub returns-in_err-body-clause-causes : goal.returns-in_err-body-clause-causes
returns-in_err-body-clause-causes g c = caused certificate_in certificate_refuses c.args.self.now.root_url (codes "api/v1/signingCert") (token_of c.args.self.now.token_provider).0 None (compact_text (request_written c.args.algorithm c.args.public_key.now c.args.signature.now)) _ (λ k. wanting _ refl c.from_residual.ensures.1)

pub returns-in_err-answer-clause-run : goal.returns-in_err-answer-clause-run
unfolding request_cert
returns-in_err-answer-clause-run g c = λ k. refused _ (rw (c.shown_token-token.ensures, c.in_ok-body.ensures) at (c.in_err-answer.ensures k)) c.from_residual-in_err-answer.ensures.1

pub returns-in_err-answer-clause-causes : goal.returns-in_err-answer-clause-causes
unfolding request_cert
returns-in_err-answer-clause-causes g c = caused certificate_in certificate_refuses c.args.self.now.root_url (codes "api/v1/signingCert") (token_of c.args.self.now.token_provider).0 None (compact_text (request_written c.args.algorithm c.args.public_key.now c.args.signature.now)) _ (λ k. refused _ (rw (c.shown_token-token.ensures, c.in_ok-body.ensures) at (c.in_err-answer.ensures k)) c.from_residual-in_err-answer.ensures.1)

pub returns-in_err-cert-clause-run : goal.returns-in_err-cert-clause-run
unfolding request_cert
returns-in_err-cert-clause-run g c = λ k. and_then _ (rw (c.shown_token-token.ensures, c.in_ok-body.ensures) at (c.in_ok-answer.ensures k)) (passed_on (said _ c.in_err-cert.ensures) c.from_residual-in_err-cert.ensures.1)

pub returns-in_err-cert-clause-causes : goal.returns-in_err-cert-clause-causes
unfolding request_cert
returns-in_err-cert-clause-causes g c = caused certificate_in certificate_refuses c.args.self.now.root_url (codes "api/v1/signingCert") (token_of c.args.self.now.token_provider).0 None (compact_text (request_written c.args.algorithm c.args.public_key.now c.args.signature.now)) _ (λ k. and_then _ (rw (c.shown_token-token.ensures, c.in_ok-body.ensures) at (c.in_ok-answer.ensures k)) (passed_on (said _ c.in_err-cert.ensures) c.from_residual-in_err-cert.ensures.1))

pub returns-clause-run : goal.returns-clause-run
unfolding request_cert
returns-clause-run g c = λ k. and_then _ (rw (c.shown_token-token.ensures, c.in_ok-body.ensures) at (c.in_ok-answer.ensures k)) (said _ c.in_ok-cert.ensures)

pub returns-clause-causes : goal.returns-clause-causes
unfolding request_cert
returns-clause-causes g c = caused certificate_in certificate_refuses c.args.self.now.root_url (codes "api/v1/signingCert") (token_of c.args.self.now.token_provider).0 None (compact_text (request_written c.args.algorithm c.args.public_key.now c.args.signature.now)) _ (returns-clause-run g c)
