-- A blob that may be in more than one place: it is requested from the registry, then from the URLs that its descriptor
-- lists, in order, while the status is 4xx or 5xx (OCI image specification, descriptor.md, `urls`).
use Rattle.std.specs.Prelude.{◌≡◌, ◌⊎◌, ℕ, Bool, true, false, List, [], ◌∷◌, Option, Some, None, Result, Ok, Err}
use Rattle.std.specs.Prelude.{if◌then◌else◌}
use Rattle.byte_streams.specs.SinkState.{SinkState}
use Rattle.oci_transport.specs.Link.{Link}
use Rattle.oci_transport.specs.declared.message.Request.{Request}
use Rattle.oci_transport.specs.declared.message.AnswerHead.{AnswerHead}
use Rattle.oci_auth.specs.declared.auth_state.AuthState.{AuthState}
use Rattle.oci_protocol.specs.Proto.{Reading, Unread, Reply, Headed, Done, ◌>>=◌}
use Rattle.oci_protocol.specs.Follow.{follow}
use Rattle.oci_protocol.specs.Runs.{Meets}
use Rattle.engine_answers.specs.Answers.{is_error}
use Rattle.engine_terms.specs.Error.{is_memory}
use Rattle.engine_requests.specs.Sources.{asked_at}
use Rattle.engine_terms.specs.declared.settings.Settings.{Settings}
use Rattle.engine_terms.specs.declared.error.OciDistributionError.{OciDistributionError}
use Rattle.engine_requests.specs.declared.sources.Place.{Place}
use Rattle.engine_rows.specs.Blobs.{Destination, blob_reading, blob_reply, attempt, MeetsIntoSink}
use Rattle.engine_rows.specs.Rows.{Row}

-- the body of a response with a 4xx or 5xx status is not read
unfoldable pub offer_reading : Destination → ℕ → List ℕ → AnswerHead → Reading
offer_reading to limit digest head = if is_error head.status then Unread else blob_reading to limit digest head

-- what comes next comes after such a response
abbrev pub offer_reply : List ℕ → Row (List ℕ) → Request → Reply → Row (List ℕ)
offer_reply digest next last (Headed head) = if is_error head.status then next else blob_reply digest last (Headed head)
offer_reply digest next last reply = blob_reply digest last reply

-- one request for a blob, and what comes next if its response has a 4xx or 5xx status
unfoldable pub offer : Destination → ℕ → List ℕ → Row (List ℕ) → Request → Row (List ℕ)
offer to limit digest next request = follow 10 request (offer_reading to limit digest) (offer_reply digest next)

-- one request for a blob, and then the places that are left
unfoldable pub tried : Destination → Settings → List ℕ → List Place → Request → Row (List ℕ)
tried to s digest [] request = attempt to s.max_body_bytes digest request
tried to s digest (p ∷ ps) request = offer to s.max_body_bytes digest
    (Done (asked_at s p) >>= (λ next. tried to s digest ps next)) request

-- the row takes the response with this head as the body of a blob: it is the attempt, or the offer if the status is not
-- 4xx or 5xx
abbrev pub Takes : Destination → ℕ → List ℕ → Request → AnswerHead → Row (List ℕ) → Type 0
Takes to limit digest request head p = (p ≡ attempt to limit digest request)
    ⊎ ((is_error head.status ≡ false) × (next : Row (List ℕ)) × (p ≡ offer to limit digest next request))

-- ---- the result of an offer

-- The row ended with the bytes or a refusal, or its response was skipped: then whatever comes next is met by the row.
abbrev pub Offered : Row (List ℕ) → Row (List ℕ) → Link → Link → AuthState
    → Result (Option (List ℕ)) OciDistributionError
    → Type 0
Offered next p old new k (Ok (Some bytes)) = Meets is_memory p old new k k (Ok bytes)
Offered next p old new k (Ok None) = (end : Link) (l : AuthState) (r : Result (List ℕ) OciDistributionError)
    → Meets is_memory next new end k l r → Meets is_memory p old end k l r
Offered next p old new k (Err e) = Meets is_memory p old new k k (Err e)

-- the same for a sink, which holds the bytes, or nothing of a response that was skipped
abbrev pub OfferedInto : Row (List ℕ) → Row (List ℕ) → Link → Link → AuthState → SinkState → SinkState
    → Result Bool OciDistributionError → Type 0
OfferedInto next p old new k before after (Ok true) = MeetsIntoSink p old new k k before after (Ok tt)
OfferedInto next p old new k before after (Ok false) = (end : Link) (l : AuthState) (later : SinkState)
    (r : Result Unit OciDistributionError)
    → MeetsIntoSink next new end k l after later r → MeetsIntoSink p old end k l before later r
OfferedInto next p old new k before after (Err e) = MeetsIntoSink p old new k k before after (Err e)
