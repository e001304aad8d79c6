-- The calls to Fulcio (its API, versions 1 and 2).
use Rattle.std.specs.Prelude.{ℕ, List, [], ◌∷◌, ◌++◌, nat_eq, length, if◌then◌else◌, Option, Some, None, Result, Ok}
use Rattle.std.specs.Prelude.{Err, codes}
use Rattle.std.specs.FinMap as map
use Rattle.serde_json.specs.Written.{compact_text}
use Rattle.url.specs.Parts.{Parts, serialize}
use Rattle.url.specs.Parser.{Parsed, parse_url}
use Rattle.json_values.specs.Refusals.{◌>>=◌}
use Rattle.json_tables.specs.Plain.{read_plain}
use Rattle.json_tables.specs.Reading as option
use Rattle.service_models.specs.Certificate.{signing_certificate_of}
use Rattle.service_models.specs.CertificateRequest.{request_written, signing_request_written}
use Rattle.service_models.specs.declared.certificate_request.KeyAlgorithm.{KeyAlgorithm}
use Rattle.service_models.specs.declared.certificate.SigningCertificate.{SigningCertificate}
use Rattle.service_models.specs.declared.certificate.SigningCertificate.TheVariants.{SignedCertificateDetachedSct}
use Rattle.service_models.specs.declared.certificate.SigningCertificate.TheVariants.{SignedCertificateEmbeddedSct}
use Rattle.oci_transport.specs.Headers.{Fields, with_header}
use Rattle.oci_transport.specs.declared.message.Request.{Request}
use Rattle.oci_transport.specs.declared.message.Answer.{Answer}
use Rattle.oci_transport.specs.declared.message.Method.TheVariants.{Post}
use Rattle.oci_protocol.specs.Proto as protocol
use Rattle.oci_protocol.specs.Proto.{Done}
use Rattle.sig_services.specs.Body.{text_body}
use Rattle.sig_services.specs.Exchange.{Row, whole}
use Rattle.service_models.specs.Token.{token_of}
use Rattle.sig_services.specs.declared.client.FulcioClient.{FulcioClient}
use Rattle.sig_services.specs.declared.client.FulcioCert.{FulcioCert}
use Rattle.sig_services.specs.declared.client.CertificateResponse.{CertificateResponse}
use Rattle.sig_services.specs.declared.fulcio_error.FulcioError.{FulcioError}
use Rattle.sig_services.specs.declared.fulcio_error.FulcioError.TheVariants.{Link, BodyTooLong, Url, Header, Json}
use Rattle.sig_services.specs.declared.fulcio_error.FulcioError.TheVariants.{ChainTooShort}

-- ---- the request

abbrev pub joined_to : List ℕ → Parsed Parts → Result Parts FulcioError
joined_to path (Ok url) = Ok url
joined_to path (Err e) = Err (Url path)

-- a path under the root
abbrev pub joined : Parts → List ℕ → Result Parts FulcioError
joined root path = joined_to path (parse_url (Some root) path)

abbrev pub with_type : Fields → Option Fields
with_type headers = with_header headers (codes "content-type") (codes "application/json")

abbrev pub with_accept : Option (List ℕ) → Fields → Option Fields
with_accept None headers = Some headers
with_accept (Some types) headers = with_header headers (codes "accept") types

abbrev pub headers_read : List ℕ → Option Fields → Result Fields FulcioError
headers_read token (Some headers) = Ok headers
headers_read token None = Err (Header token)

-- credentials, the type of the body, and the accepted types
unfoldable pub headers_with : List ℕ → Option (List ℕ) → Option Fields
headers_with credentials accept = option.◌>>=◌
    (with_header map.empty (codes "authorization") credentials)
    (λ headers. option.◌>>=◌ (with_type headers) (with_accept accept))

-- the token in the form of RFC 6750, 2.1
abbrev pub headers_of : List ℕ → Option (List ℕ) → Result Fields FulcioError
headers_of token accept = headers_read token (headers_with (codes "Bearer " ++ token) accept)

unfoldable pub request_of : Parts → List ℕ → List ℕ → Option (List ℕ) → List ℕ → Result Request FulcioError
request_of root path token accept body = do
  url ← joined root path
  headers ← headers_of token accept
  Ok (record { method = Post; url = serialize url; headers = headers; body = body })

-- ---- the result of an answer

abbrev pub certificate_read : List ℕ → Option (List ℕ) → Result FulcioCert FulcioError
certificate_read body (Some text) = Ok (record { text = text })
certificate_read body None = Err (Json body)

-- version 1: the body is the certificate chain
abbrev pub certificate_in : List ℕ → Result FulcioCert FulcioError
certificate_in body = certificate_read body (text_body body)

-- the first certificate, and at least one more
abbrev pub parted : List (List ℕ) → Result (List ℕ × List (List ℕ)) FulcioError
parted [] = Err ChainTooShort
parted (cert ∷ chain) = if nat_eq (length chain) 0 then Err ChainTooShort else Ok (cert, chain)

abbrev pub response_of : SigningCertificate → Result CertificateResponse FulcioError
response_of (SignedCertificateDetachedSct x) = do
  both ← parted x.chain.certificates
  Ok (record { cert = both.0; chain = both.1; detached_sct = Some x })
response_of (SignedCertificateEmbeddedSct x) = do
  both ← parted x.chain.certificates
  Ok (record { cert = both.0; chain = both.1; detached_sct = None })

abbrev pub response_read : List ℕ → Option SigningCertificate → Result CertificateResponse FulcioError
response_read body (Some certificate) = response_of certificate
response_read body None = Err (Json body)

-- version 2: the body is JSON without floats
abbrev pub response_in : List ℕ → Result CertificateResponse FulcioError
response_in body = response_read body (read_plain signing_certificate_of body)

-- ---- the calls

-- one request and its answer
unfoldable pub asked : Parts → List ℕ → List ℕ → Option (List ℕ) → List ℕ → Row FulcioError Answer
asked root path token accept body =
    protocol.◌>>=◌ (Done (request_of root path token accept body)) (whole Link BodyTooLong 4294967295)

unfoldable pub request_cert : FulcioClient → KeyAlgorithm → List ℕ → List ℕ → Row FulcioError FulcioCert
request_cert client algorithm public_key signature = protocol.◌>>=◌
    (asked client.root_url (codes "api/v1/signingCert") (token_of client.token_provider).0 None
    (compact_text (request_written algorithm public_key signature)))
    (λ answer. Done (certificate_in answer.body))

unfoldable pub request_cert_v2 : FulcioClient → List ℕ → List ℕ → Row FulcioError CertificateResponse
request_cert_v2 client request identity = protocol.◌>>=◌
    (asked client.root_url (codes "api/v2/signingCert") identity
    (Some (codes "application/pem-certificate-chain")) (compact_text (signing_request_written request)))
    (λ answer. Done (response_in answer.body))
