-- One request for a blob whose bytes are left to be taken.
use Rattle.std.specs.Prelude.{ℕ, Bool, true, false, ◌||◌, List, Option, Some, None, Result, Ok, Err, if◌then◌else◌}
use Rattle.oci_transport.specs.declared.message.AnswerHead.{AnswerHead}
use Rattle.oci_transport.specs.declared.message.Request.{Request}
use Rattle.oci_protocol.specs.Proto.{Reading, Unread, Within, Reply, Headed, Answered, Failed, TooLong, SinkFailed}
use Rattle.oci_protocol.specs.Proto.{Done}
use Rattle.oci_protocol.specs.Follow.{follow}
use Rattle.engine_answers.specs.Answers.{is_error, refused_answer}
use Rattle.json_values.specs.Refusals.{◌>>=◌ as ◌into◌}
use Rattle.engine_requests.specs.Sources.{asked_at}
use Rattle.engine_terms.specs.declared.error.OciDistributionError.{OciDistributionError}
use Rattle.engine_terms.specs.declared.error.OciDistributionError.TheVariants as refusal
use Rattle.engine_terms.specs.declared.settings.Settings.{Settings}
use Rattle.engine_requests.specs.declared.sources.Place.{Place}
use Rattle.engine_rows.specs.Rows.{Row}
use Rattle.engine_streams.specs.Head.{opening, is_streamed}
use Rattle.engine_streams.specs.Range.{onward, with_range}
use Rattle.engine_streams.specs.declared.head.Opening.{Opening}
use Rattle.engine_streams.specs.declared.range.ByteRange.{ByteRange}

-- a response that is used is not read; any other is, for its refusal
abbrev pub reading_unless : ℕ → Bool → Reading
reading_unless limit true = Unread
reading_unless limit false = Within limit

unfoldable pub judged_reading : ℕ → (AnswerHead → Bool) → AnswerHead → Reading
judged_reading limit takes head = reading_unless limit (takes head)

abbrev pub judged_reply : {A : Type 0} → (AnswerHead → Result A OciDistributionError) → Request → Reply → Row A
judged_reply made last (Headed head) = Done (made head)
judged_reply made last (Answered answer) = Done (Err (refused_answer 200 last.url answer))
judged_reply made last TooLong = Done (Err refusal.BodyTooLong)
judged_reply made last Failed = Done (Err refusal.TransportFault)
-- unreachable: the body is not read into a sink
judged_reply made last SinkFailed = Done (Err refusal.SinkFault)

-- the last response to a request, if `takes` holds for its head; the result is computed from the head
unfoldable pub judged : {A : Type 0} → ℕ → (AnswerHead → Bool) → (AnswerHead → Result A OciDistributionError)
    → Request → Row A
judged limit takes made request = follow 10 request (judged_reading limit takes) (judged_reply made)

unfoldable pub streams : Option ByteRange → AnswerHead → Bool
streams range head = is_streamed range head.status

-- the request at the last place
abbrev pub asked : ℕ → Option ByteRange → List ℕ → Request → Row Opening
asked limit range digest request = judged limit (streams range) (opening range digest) request

unfoldable pub streams_or_passes : Option ByteRange → AnswerHead → Bool
streams_or_passes range head = is_error head.status || is_streamed range head.status

abbrev pub some_opening : Result Opening OciDistributionError → Result (Option Opening) OciDistributionError
some_opening (Ok o) = Ok (Some o)
some_opening (Err e) = Err e

unfoldable pub opening_unless_error : Option ByteRange → List ℕ → AnswerHead
    → Result (Option Opening) OciDistributionError
opening_unless_error range digest head =
    if is_error head.status then Ok None else some_opening (opening range digest head)

-- the request while another place is left: a response with a 4xx or 5xx status is skipped
abbrev pub offered : ℕ → Option ByteRange → List ℕ → Request → Row (Option Opening)
offered limit range digest request = judged limit (streams_or_passes range) (opening_unless_error range digest) request

-- the request at another place than the registry
abbrev pub ranged_at : Settings → Option ByteRange → Place → Result Request OciDistributionError
ranged_at s range place = asked_at s place into with_range (onward range)
