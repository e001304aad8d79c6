-- The rows of uploads, in the terms of the OCI distribution specification ("Pushing blobs"). Each request of an upload
-- goes to the location that the response before it named.
use Rattle.std.specs.Prelude.{ℕ, zero, suc, ◌+◌, ◌-◌, List, [], ◌∷◌, ◌++◌, Option, Some, None}
use Rattle.std.specs.Prelude.{Result, Ok, Err, length, take, drop, codes, nat_lt, if◌then◌else◌}
use Rattle.url.specs.Parts.{Parts}
use Rattle.url.specs.Setters.{append_query_pairs}
use Rattle.oci_auth.specs.declared.token_type.RegistryOperation.TheVariants.{Push}
use Rattle.oci_names.specs.declared.reference.Reference.{Reference}
use Rattle.oci_protocol.specs.Proto.{Reading, Unread, Within, Reply, Headed, Answered, Failed, TooLong}
use Rattle.oci_protocol.specs.Proto.{SinkFailed, Done, Consult, ◌>>=◌}
use Rattle.oci_protocol.specs.Follow.{follow}
use Rattle.oci_transport.specs.declared.message.Request.{Request}
use Rattle.oci_transport.specs.declared.message.AnswerHead.{AnswerHead}
use Rattle.oci_transport.specs.declared.message.Method.{Method}
use Rattle.oci_transport.specs.declared.message.Method.TheVariants.{Post, Patch, Put}
use Rattle.engine_terms.specs.Contexts.{Context}
use Rattle.engine_terms.specs.declared.error.OciDistributionError.{OciDistributionError}
use Rattle.engine_terms.specs.declared.error.OciDistributionError.TheVariants as refusal
use Rattle.engine_terms.specs.declared.settings.Settings.{Settings}
use Rattle.engine_requests.specs.Addresses.{uploads_text, url_read}
use Rattle.engine_requests.specs.Requests.{request_of}
use Rattle.engine_answers.specs.Answers.{is_success}
use Rattle.engine_rows.specs.Rows.{Row, authorized}
use Rattle.push_rows.specs.Contents.{with_content}
use Rattle.push_rows.specs.Locations.{located}
use Rattle.push_rows.specs.declared.content.Content.{Content}
use Rattle.push_rows.specs.declared.content.Content.TheVariants.{Nothing, Chunk}

-- ---- one request

-- the body of a response is read unless its status is 2xx
unfoldable pub unless_success : ℕ → AnswerHead → Reading
unless_success limit head = if is_success head.status then Unread else Within limit

abbrev pub location_reply : Settings → Reference → ℕ → Request → Reply → Row (List ℕ)
location_reply s image expected last (Headed head) = Done (located s image expected last.url head)
location_reply s image expected last (Answered answer) =
    Done (Err (refusal.ServerError answer.status last.url answer.body))
location_reply s image expected last TooLong = Done (Err refusal.BodyTooLong)
location_reply s image expected last Failed = Done (Err refusal.TransportFault)
-- unreachable: the body is not read into a sink
location_reply s image expected last SinkFailed = Done (Err refusal.SinkFault)

-- the location that the response to a request names, whose redirects are not followed
unfoldable pub location_after : Settings → Reference → ℕ → Request → Row (List ℕ)
location_after s image expected request =
    follow 0 request (unless_success s.max_body_bytes) (location_reply s image expected)

-- a request of an upload, with its token if it goes to the registry, and the location that the response names
unfoldable pub sent : Context → Reference → Method → Parts → Content → ℕ → Row (List ℕ)
sent s image method url content expected = do
  token ← authorized s image Push url
  request ← Done (request_of s.settings method url None token)
  request ← Done (with_content content request)
  location_after s.settings image expected request

-- ---- the requests of an upload

unfoldable pub upload_begun : Context → Reference → Row (List ℕ)
upload_begun s image = do
  url ← Done (url_read (uploads_text s.settings image))
  sent s image Post url Nothing 202

-- bytes of the blob, from this offset on
unfoldable pub chunk_sent : Context → Reference → List ℕ → ℕ → List ℕ → Row (List ℕ)
chunk_sent s image location start bytes = do
  url ← Done (url_read location)
  sent s image Patch url (Chunk start bytes) 202

-- the blob's digest, and the blob if it was not sent yet
unfoldable pub upload_ended : Context → Reference → List ℕ → List ℕ → Content → Row (List ℕ)
upload_ended s image digest location content = do
  url ← Done (url_read location)
  sent s image Put (append_query_pairs url ((codes "digest", digest) ∷ [])) content 201

-- ---- bytes, in chunks

-- the maximum size of a chunk, in bytes
abbrev pub chunk_size : ℕ
chunk_size = 4194304

-- at most n chunks of these bytes, in order
abbrev pub first_chunks : ℕ → List ℕ → List (List ℕ)
first_chunks zero bytes = []
first_chunks (suc n) [] = []
first_chunks (suc n) (b ∷ bytes) = take chunk_size (b ∷ bytes) ∷ first_chunks n (drop chunk_size (b ∷ bytes))

-- all of them
abbrev pub chunks : List ℕ → List (List ℕ)
chunks bytes = first_chunks (length bytes) bytes

unfoldable pub chunks_sent : Context → Reference → List ℕ → ℕ → List (List ℕ) → Row (List ℕ)
chunks_sent s image location start [] = Done (Ok location)
chunks_sent s image location start (chunk ∷ rest) = do
  next ← chunk_sent s image location start chunk
  chunks_sent s image next (start + length chunk) rest

-- ---- the pieces of a source, in its order

-- bytes that were sent, and where the upload continues
pub record Sent : Type 0 where
  pub location : List ℕ
  pub bytes : List ℕ

-- the next piece from external input, or the failure of the source
abbrev pub piece_of : Option (List ℕ) → Result (List ℕ) OciDistributionError
piece_of None = Err refusal.SourceFault
piece_of (Some piece) = Ok piece

unfoldable pub next_piece : Row (List ℕ)
next_piece = Consult (λ said. Done (piece_of said))

abbrev pub no_longer : ℕ → List ℕ → Result (List ℕ) OciDistributionError
no_longer left piece = if nat_lt left (length piece) then Err refusal.BodyTooLong else Ok piece

-- an empty piece marks the end
abbrev pub unless_last : {A : Type 0} → List ℕ → Row A → Row A → Row A
unless_last [] end next = end
unless_last (b ∷ bytes) end next = next

-- The pieces that follow these bytes, each in chunks, while `left` bytes of the limit are left. Each piece has at least
-- one byte, so that the first number never runs out before the second.
unfoldable pub pieces_sent : ℕ → ℕ → Context → Reference → List ℕ → List ℕ → Row Sent
pieces_sent zero left s image location bytes = Done (Err refusal.BodyTooLong)
pieces_sent (suc n) left s image location bytes = do
  piece ← next_piece
  piece ← Done (no_longer left piece)
  unless_last piece (Done (Ok (record { location = location; bytes = bytes }))) (do
    next ← chunks_sent s image location (length bytes) (chunks piece)
    pieces_sent n (left - length piece) s image next (bytes ++ piece))

-- from the first one on
abbrev pub all_sent : Context → Reference → List ℕ → Row Sent
all_sent s image location = pieces_sent (suc s.settings.max_body_bytes) s.settings.max_body_bytes s image location []

-- The same, if they are held in memory, one after another.
unfoldable pub pieces_read : ℕ → ℕ → List ℕ → Row (List ℕ)
pieces_read zero left bytes = Done (Err refusal.BodyTooLong)
pieces_read (suc n) left bytes = do
  piece ← next_piece
  piece ← Done (no_longer left piece)
  unless_last piece (Done (Ok bytes)) (pieces_read n (left - length piece) (bytes ++ piece))

abbrev pub all_read : ℕ → Row (List ℕ)
all_read limit = pieces_read (suc limit) limit []
