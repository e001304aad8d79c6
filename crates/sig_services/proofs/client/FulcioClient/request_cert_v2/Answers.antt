use Rattle.std.proofs.Common.{refl, Some, None, codes}
use Rattle.serde_json.specs.Written.{compact_text}
use Rattle.service_models.specs.CertificateRequest.{request_written, signing_request_written}
use Rattle.oci_protocol.proofs.Exits.{refused, and_then, said, passed_on, wanting}
use Rattle.sig_services.specs.Client.{request_cert_v2, response_in}
use Rattle.service_models.specs.Token.{token_of}
use Rattle.sig_services.proofs.AuthorityCauses.{response_refuses, caused}
use Rattle.sig_services.proofs.client.FulcioClient.request_cert_v2.Goals as goal

pub returns-in_err-body-clause-run : goal.returns-in_err-body-clause-run
returns-in_err-body-clause-run g c = λ k. wanting _ refl c.from_residual.ensures.1

pub returns-in_err-body-clause-causes : goal.returns-in_err-body-clause-causes
returns-in_err-body-clause-causes g c = caused response_in response_refuses c.args.self.now.root_url (codes "api/v2/signingCert") c.args.identity.now (Some (codes "application/pem-certificate-chain")) (compact_text (signing_request_written c.args.request.now)) _ (λ k. wanting _ refl c.from_residual.ensures.1)

pub returns-in_err-answer-clause-run : goal.returns-in_err-answer-clause-run
unfolding request_cert_v2
returns-in_err-answer-clause-run g c = λ k. refused _ (rw c.in_ok-body.ensures at (c.in_err-answer.ensures k)) c.from_residual-in_err-answer.ensures.1

pub returns-in_err-answer-clause-causes : goal.returns-in_err-answer-clause-causes
unfolding request_cert_v2
returns-in_err-answer-clause-causes g c = caused response_in response_refuses c.args.self.now.root_url (codes "api/v2/signingCert") c.args.identity.now (Some (codes "application/pem-certificate-chain")) (compact_text (signing_request_written c.args.request.now)) _ (λ k. refused _ (rw c.in_ok-body.ensures at (c.in_err-answer.ensures k)) c.from_residual-in_err-answer.ensures.1)

pub returns-in_err-response-clause-run : goal.returns-in_err-response-clause-run
unfolding request_cert_v2
returns-in_err-response-clause-run g c = λ k. and_then _ (rw c.in_ok-body.ensures at (c.in_ok-answer.ensures k)) (passed_on (said _ c.in_err-response.ensures) c.from_residual-in_err-response.ensures.1)

pub returns-in_err-response-clause-causes : goal.returns-in_err-response-clause-causes
unfolding request_cert_v2
returns-in_err-response-clause-causes g c = caused response_in response_refuses c.args.self.now.root_url (codes "api/v2/signingCert") c.args.identity.now (Some (codes "application/pem-certificate-chain")) (compact_text (signing_request_written c.args.request.now)) _ (λ k. and_then _ (rw c.in_ok-body.ensures at (c.in_ok-answer.ensures k)) (passed_on (said _ c.in_err-response.ensures) c.from_residual-in_err-response.ensures.1))

pub returns-clause-run : goal.returns-clause-run
unfolding request_cert_v2
returns-clause-run g c = λ k. and_then _ (rw c.in_ok-body.ensures at (c.in_ok-answer.ensures k)) (said _ c.in_ok-response.ensures)

pub returns-clause-causes : goal.returns-clause-causes
unfolding request_cert_v2
returns-clause-causes g c = caused response_in response_refuses c.args.self.now.root_url (codes "api/v2/signingCert") c.args.identity.now (Some (codes "application/pem-certificate-chain")) (compact_text (signing_request_written c.args.request.now)) _ (returns-clause-run g c)
