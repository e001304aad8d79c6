-- How a whole response is interpreted (OCI distribution specification, "Error Codes", "Pulling manifests").
use Rattle.std.specs.Prelude.{ℕ, Bool, List, Option, Some, None, Result, Ok, Err, if◌then◌else◌, nat_eq}
use Rattle.std.specs.Prelude.{nat_le, nat_lt, ◌&&◌, not, bytes_eq, option_and_then}
use Rattle.json_values.specs.JsonText.{plain_json_of}
use Rattle.oci_digests.specs.Checks.{header_digest as digest_in, validated, parts_of}
use Rattle.oci_digests.specs.declared.error.DigestError.{DigestError}
use Rattle.oci_digests.specs.declared.error.DigestError.TheVariants as digest_refusal
use Rattle.oci_errors.specs.Envelope.{envelope_of}
use Rattle.oci_errors.specs.declared.envelope.OciEnvelope.{OciEnvelope}
use Rattle.oci_names.specs.declared.reference.Reference.{Reference}
use Rattle.oci_names.specs.Reference.{digest_of}
use Rattle.oci_transport.specs.Headers.{Fields, first_of, digest_header}
use Rattle.oci_transport.specs.declared.message.Answer.{Answer}
use Rattle.engine_answers.specs.declared.answers.Got.{Got}
use Rattle.engine_terms.specs.declared.error.SpecViolation.TheVariants.{Status}
use Rattle.engine_terms.specs.declared.error.OciDistributionError.{OciDistributionError}
use Rattle.engine_terms.specs.declared.error.OciDistributionError.TheVariants as refusal
use Rattle.json_values.specs.Refusals.{◌>>=◌}

abbrev pub is_success : ℕ → Bool
is_success status = nat_le 200 status && nat_lt status 300

-- an error of the client or of the server
abbrev pub is_error : ℕ → Bool
is_error status = nat_le 400 status && nat_lt status 600

abbrev pub is_client_error : ℕ → Bool
is_client_error status = nat_le 400 status && nat_lt status 500

-- the registry's own list of errors, if the body is one
abbrev pub envelope_in : List ℕ → Option OciEnvelope
envelope_in body = option_and_then envelope_of (plain_json_of body)

abbrev pub by_envelope : List ℕ → Answer → Option OciEnvelope → OciDistributionError
by_envelope url answer (Some envelope) = refusal.RegistryError envelope url
by_envelope url answer None = refusal.ServerError answer.status url answer.body

-- why a response is refused that has another status than expected
abbrev pub refused_answer : ℕ → List ℕ → Answer → OciDistributionError
refused_answer expected url answer =
    if nat_eq answer.status 401 then refusal.UnauthorizedError url
    else (if is_success answer.status then refusal.SpecViolationError (Status expected answer.status url)
    else (if is_client_error answer.status then by_envelope url answer (envelope_in answer.body)
    else refusal.ServerError answer.status url answer.body))

-- the response, if it has the expected status
abbrev pub accepted : ℕ → List ℕ → Answer → Result Answer OciDistributionError
accepted expected url answer =
    if nat_eq answer.status expected then Ok answer else Err (refused_answer expected url answer)

abbrev pub or_digest_error : {A : Type 0} → Result A DigestError → Result A OciDistributionError
or_digest_error (Ok a) = Ok a
or_digest_error (Err e) = Err (refusal.DigestError e)

-- the digest that the header names, if it names one
abbrev pub header_digest : Fields → Result (Option (List ℕ)) OciDistributionError
header_digest headers = or_digest_error (digest_in (first_of digest_header headers))

-- the digest of a body; every given digest must name the body
abbrev pub body_digest : List ℕ → Option (List ℕ) → Option (List ℕ) → Result (List ℕ) OciDistributionError
body_digest body header reference = or_digest_error (validated body header reference)

-- the digest of a response's body: the header's, else the reference's, else the one by SHA-256
abbrev pub answer_digest : Reference → Answer → Result (List ℕ) OciDistributionError
answer_digest image answer = header_digest answer.headers >>= λ header. body_digest answer.body header (digest_of image)

-- the body of an accepted response, with its digest
abbrev pub document_in : Reference → Got → Result (List ℕ × List ℕ) OciDistributionError
document_in image got = accepted 200 got.url got.answer >>= λ answer. answer_digest image answer >>= λ digest. Ok
    (answer.body, digest)

abbrev pub agreed : List ℕ → List ℕ → Option (List ℕ × List ℕ) → Option (List ℕ × List ℕ) → Result (List ℕ) DigestError
agreed digest own None parts = Err digest_refusal.MissingAlgorithm
agreed digest own (Some given) None = Err digest_refusal.MissingAlgorithm
agreed digest own (Some given) (Some named) = if bytes_eq given.0 named.0 && not
    (bytes_eq digest own) then Err (digest_refusal.VerificationError own digest) else Ok digest

-- the digest that the registry returned, which must equal the reference's if that has the same algorithm
abbrev pub fits_reference : List ℕ → Option (List ℕ) → Result (List ℕ) OciDistributionError
fits_reference digest None = Ok digest
fits_reference digest (Some own) = or_digest_error (agreed digest own (parts_of digest) (parts_of own))
