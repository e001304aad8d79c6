-- What the head of a blob's response states about its body (OCI distribution specification, "Pulling blobs").
use Rattle.std.specs.Prelude.{ℕ, Bool, true, false, ◌||◌, ◌==◌, List, option_and_then, Option, Some, None, Result, Ok, codes}
use Rattle.json_values.specs.Decimals.{decimal_of}
use Rattle.oci_transport.specs.Headers.{Fields, first_of}
use Rattle.oci_transport.specs.declared.message.AnswerHead.{AnswerHead}
use Rattle.engine_answers.specs.Answers.{header_digest, is_success, or_digest_error}
use Rattle.engine_answers.specs.Blobs.{digest_expected}
use Rattle.json_values.specs.Refusals.{◌>>=◌}
use Rattle.engine_answers.specs.declared.blobs.Expected.{Expected}
use Rattle.engine_terms.specs.declared.error.OciDistributionError.{OciDistributionError}
use Rattle.engine_streams.specs.Range.{is_part}
use Rattle.engine_streams.specs.declared.head.Digests.{Digests}
use Rattle.engine_streams.specs.declared.head.Opening.{Opening}
use Rattle.engine_streams.specs.declared.range.ByteRange.{ByteRange}

abbrev pub content_length : Fields → Option ℕ
content_length headers = option_and_then decimal_of (first_of (codes "content-length") headers)

-- a digest text with its algorithm
abbrev pub expected : List ℕ → Result Expected OciDistributionError
expected text = or_digest_error (digest_expected text)

-- the header's digest, if there is one
abbrev pub given : Option (List ℕ) → Result (Option Expected) OciDistributionError
given None = Ok None
given (Some text) = expected text >>= (λ x. Ok (Some x))

-- nothing is compared with a part of the blob
abbrev pub unless_part : Bool → Option Expected → Expected → Option Digests
unless_part true given own = None
unless_part false given own = Some (record { given = given; own = own })

-- the descriptor's digest is checked, and then the header's
unfoldable pub opening : Option ByteRange → List ℕ → AnswerHead → Result Opening OciDistributionError
opening range digest head = do
  own ← expected digest
  value ← header_digest head.headers
  header ← given value
  Ok (record {
    content_length = content_length head.headers;
    digest_header_value = value;
    digests = unless_part (is_part range head.status) header own;
  })

-- whether the body of a response with this status is streamed: 2xx, and for a part only 200 and 206
abbrev pub is_streamed : Option ByteRange → ℕ → Bool
is_streamed None status = is_success status
is_streamed (Some range) status = status == 200 || status == 206
