-- A blob whose bytes are left to be taken, in the terms of the OCI distribution specification ("Pulling blobs").
use Rattle.std.specs.Prelude.{◌≡◌, ◌≤◌, ◌⊎◌, ℕ, true, List, [], ◌∷◌, length, Option, Some, None, Result, Ok, Err}
use Rattle.json_values.specs.Counts.{Increased}
use Rattle.oci_transport.specs.Link.{Link, answer_of, EndsUnbroken, TakesPast}
use Rattle.oci_transport.specs.declared.message.AnswerHead.{AnswerHead}
use Rattle.oci_transport.specs.declared.message.Method.TheVariants.{Get}
use Rattle.oci_transport.specs.declared.message.Request.{Request}
use Rattle.oci_names.specs.declared.reference.Reference.{Reference}
use Rattle.oci_auth.specs.declared.token_type.RegistryOperation.TheVariants.{Pull}
use Rattle.oci_protocol.specs.Proto.{Done, ◌>>=◌}
use Rattle.engine_requests.specs.Addresses.{blob_text, url_read}
use Rattle.engine_answers.specs.Answers.{refused_answer}
use Rattle.engine_terms.specs.Contexts.{Context}
use Rattle.engine_terms.specs.Error.{is_memory}
use Rattle.engine_requests.specs.Requests.{manifest_types}
use Rattle.engine_requests.specs.Sources.{Layer, places_of}
use Rattle.engine_terms.specs.declared.error.OciDistributionError.{OciDistributionError}
use Rattle.engine_terms.specs.declared.error.OciDistributionError.TheVariants as refusal
use Rattle.engine_terms.specs.declared.settings.Settings.{Settings}
use Rattle.engine_requests.specs.declared.sources.Place.{Place}
use Rattle.engine_rows.specs.Rows.{Row, prepared}
use Rattle.engine_steps.specs.BodyUnread.{BodyUnread}
use Rattle.engine_streams.specs.Head.{opening}
use Rattle.engine_streams.specs.Range.{range_text, with_range}
use Rattle.engine_streams.specs.Streams.{opening_of}
use Rattle.engine_streams.specs.declared.head.Digests.{Digests}
use Rattle.engine_streams.specs.declared.head.Opening.{Opening}
use Rattle.engine_streams.specs.declared.blobs.BlobResponse.{BlobResponse}
use Rattle.engine_streams.specs.declared.blobs.BlobResponse.TheVariants as response
use Rattle.engine_streams.specs.declared.range.ByteRange.{ByteRange}
use Rattle.engine_streams.specs.declared.stream.SizedStream.{SizedStream}
use Rattle.engine_streams.specs.Asking.{asked, offered, ranged_at}

-- ---- all of them

abbrev pub or_next : Row Opening → Option Opening → Row Opening
or_next next (Some o) = Done (Ok o)
or_next next None = next

-- the request and, while its response is skipped, the places in order
unfoldable pub tried : Settings → Option ByteRange → List ℕ → List Place → Request → Row Opening
tried s range digest [] request = asked s.max_body_bytes range digest request
tried s range digest (p ∷ ps) request = do
  found ← offered s.max_body_bytes range digest request
  or_next (Done (ranged_at s range p) >>= tried s range digest ps) found

-- a blob, or a part of it, whose bytes are left
unfoldable pub opened : Context → Reference → Layer → Option ByteRange → Row Opening
opened s image layer range = do
  text ← Done (range_text range)
  url ← Done (url_read (blob_text s.settings image layer.digest))
  request ← prepared s image Pull Get url manifest_types
  ranged ← Done (with_range text request)
  tried s.settings range layer.digest (places_of layer.urls) ranged

-- the whole blob
abbrev pub blob_stream : Context → Reference → Layer → Row Opening
blob_stream s image layer = opened s image layer None

-- the response is a part, whose bytes are compared with nothing, or the whole blob
pub data Response : Type 0 where
  Full : (opening : Opening) → Response
  Partial : (opening : Opening) → Response

abbrev pub by_digests : Opening → Option Digests → Response
by_digests o (Some digests) = Full o
by_digests o None = Partial o

-- a part of the blob
unfoldable pub blob_stream_partial : Context → Reference → Layer → ByteRange → Row Response
blob_stream_partial s image layer range = do
  o ← opened s image layer (Some range)
  Done (Ok (by_digests o o.digests))

-- ---- what the code returns

abbrev pub opening_in : Result SizedStream OciDistributionError → Result Opening OciDistributionError
opening_in (Ok s) = Ok (opening_of s)
opening_in (Err e) = Err e

abbrev pub response_of : BlobResponse → Response
response_of (response.Full s) = Full (opening_of s)
response_of (response.Partial s) = Partial (opening_of s)

abbrev pub response_in : Result BlobResponse OciDistributionError → Result Response OciDistributionError
response_in (Ok r) = Ok (response_of r)
response_in (Err e) = Err e

abbrev pub stream_in : BlobResponse → SizedStream
stream_in (response.Full s) = s
stream_in (response.Partial s) = s

-- if exchanges are exposed, the last response's head states this about its body, and the whole body is left
pub record IsLeft (range : Option ByteRange) (digest : List ℕ) (o : Opening) (old new : Link) : Type 0 where
  pub head : AnswerHead
  pub said : opening range digest head ≡ Ok o
  pub untaken : BodyUnread head old new

-- Why a response with this head from this URL is refused, as its body is read.
abbrev pub Refuses : ℕ → List ℕ → AnswerHead → Link → Link → OciDistributionError → Type 0
Refuses limit url head old new e =
    (is_memory e ≡ true)
    ⊎ ((e ≡ refusal.TransportFault) × Increased old.faults new.faults)
    ⊎ ((e ≡ refusal.BodyTooLong) × TakesPast limit old new)
    ⊎ ((body : List ℕ) × (length body ≤ limit) × ((rest : List ℕ) → old.rest ≡ Some rest → body ≡ rest)
    × EndsUnbroken old new × (e ≡ refused_answer 200 url (answer_of head body)))
