-- How the response to a blob's request is read (OCI distribution specification, "Pulling blobs").
use Rattle.std.specs.Prelude.{ℕ, Bool, true, false, List, Option, Some, None, Result, Ok, Err, if◌then◌else◌, bytes_eq}
use Rattle.oci_digests.specs.Names.{digest_text}
use Rattle.oci_digests.specs.Checks.{header_digest as digest_in, and_then, named_algorithm}
use Rattle.oci_transport.specs.Headers.{first_of, digest_header}
use Rattle.oci_names.specs.declared.algorithm.Algorithm.{Algorithm}
use Rattle.oci_digests.specs.declared.error.DigestError.{DigestError}
use Rattle.oci_digests.specs.declared.error.DigestError.TheVariants.{VerificationError}
use Rattle.oci_transport.specs.declared.message.AnswerHead.{AnswerHead}
use Rattle.engine_answers.specs.declared.blobs.Expected.{Expected}
use Rattle.engine_answers.specs.declared.blobs.Plan.{Plan}
use Rattle.engine_answers.specs.declared.blobs.Plan.TheVariants.{Refuse, Judge, Pour}
use Rattle.engine_terms.specs.declared.error.OciDistributionError.{OciDistributionError}
use Rattle.engine_terms.specs.declared.error.OciDistributionError.TheVariants as refusal
use Rattle.json_values.specs.Refusals.{◌>>◌}
use Rattle.engine_answers.specs.Answers.{is_success}

-- a digest text with its algorithm
abbrev pub digest_expected : List ℕ → Result Expected DigestError
digest_expected text = and_then (named_algorithm text) (λ a. Ok (record { text = text; algorithm = a }))

-- the header's digest, if there is one
abbrev pub given_expected : Option (List ℕ) → Result (Option Expected) DigestError
given_expected None = Ok None
given_expected (Some text) = and_then (digest_expected text) (λ x. Ok (Some x))

abbrev pub pouring : Bool → Option Expected → Expected → Plan
pouring true given own = Pour given own
pouring false given own = Judge

abbrev pub plan_by : Bool → List ℕ → Option (List ℕ) → Result Plan DigestError
plan_by good digest header = and_then (given_expected header) (λ given. and_then (digest_expected digest)
    (λ own. Ok (pouring good given own)))

abbrev pub planned : Result Plan DigestError → Plan
planned (Ok plan) = plan
planned (Err e) = Refuse e

-- the header's digest is checked, then the descriptor's, then the status
abbrev pub plan_in : List ℕ → AnswerHead → Result Plan DigestError
plan_in digest head = and_then (digest_in (first_of digest_header head.headers)) (plan_by
    (is_success head.status) digest)

unfoldable pub plan_of : List ℕ → AnswerHead → Plan
plan_of digest head = planned (plan_in digest head)

-- the digest must be that of the body
abbrev pub compared : Expected → List ℕ → Result Unit OciDistributionError
compared x body = if bytes_eq x.text (digest_text x.algorithm body) then Ok tt else Err (refusal.DigestError
    (VerificationError x.text (digest_text x.algorithm body)))

abbrev pub given_compared : Option Expected → List ℕ → Result Unit OciDistributionError
given_compared None body = Ok tt
given_compared (Some x) body = compared x body

-- the digest of the header is compared, then that of the descriptor
abbrev pub both_compared : Option Expected → Expected → List ℕ → Result Unit OciDistributionError
both_compared given own body = given_compared given body >> compared own body

-- the algorithm of the header's digest, if there is one
abbrev pub given_algorithm : Option Expected → Option Algorithm
given_algorithm None = None
given_algorithm (Some x) = Some x.algorithm
