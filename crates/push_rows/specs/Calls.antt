-- The rows of the calls that push blobs.
use Rattle.std.specs.Prelude.{ℕ, Bool, true, false, List, [], ◌∷◌, Option, Some, None, Result, Ok, Err, codes}
use Rattle.std.specs.Prelude.{nat_eq, length, if◌then◌else◌}
use Rattle.url.specs.Parts.{Parts}
use Rattle.url.specs.Setters.{append_query_pairs}
use Rattle.oci_digests.specs.Names.{digest_text}
use Rattle.oci_names.specs.declared.algorithm.Algorithm.TheVariants.{Sha256}
use Rattle.oci_names.specs.Reference.{repository_of}
use Rattle.oci_names.specs.declared.reference.Reference.{Reference}
use Rattle.oci_protocol.specs.Proto.{Done, bind, ◌>>=◌}
use Rattle.engine_terms.specs.Contexts.{Context}
use Rattle.engine_terms.specs.declared.error.GenericCause.TheVariants.{NoSize, SizeDiffers}
use Rattle.engine_terms.specs.declared.error.OciDistributionError.{OciDistributionError}
use Rattle.engine_terms.specs.declared.error.OciDistributionError.TheVariants as refusal
use Rattle.oci_transport.specs.declared.message.Method.TheVariants.{Post}
use Rattle.engine_requests.specs.Addresses.{uploads_text, url_read}
use Rattle.engine_rows.specs.Rows.{Row}
use Rattle.push_rows.specs.Uploads.{sent, upload_begun, upload_ended, chunks, chunks_sent}
use Rattle.push_rows.specs.Uploads.{Sent, all_sent, all_read}
use Rattle.push_rows.specs.declared.content.Content.TheVariants.{Nothing, Whole}
use Rattle.push_rows.specs.declared.responses.PushBlobStreamChunkedResponse.{PushBlobStreamChunkedResponse}

-- ---- bytes in memory

-- in chunks
unfoldable pub push_chunked : Context → Reference → List ℕ → List ℕ → Row (List ℕ)
push_chunked s image content digest = do
  location ← upload_begun s image
  location ← chunks_sent s image location 0 (chunks content)
  upload_ended s image digest location Nothing

abbrev pub not_empty : List ℕ → Result Unit OciDistributionError
not_empty [] = Err refusal.PushNoDataError
not_empty (b ∷ bytes) = Ok tt

-- by one request
unfoldable pub push_whole : Context → Reference → List ℕ → List ℕ → Row (List ℕ)
push_whole s image content digest = do
  location ← upload_begun s image
  _ ← Done (not_empty content)
  upload_ended s image digest location (Whole content)

-- a registry that responds with another 2xx status than expected may accept the blob whole
abbrev pub is_violation : OciDistributionError → Bool
is_violation (refusal.SpecViolationError v) = true
is_violation _ = false

abbrev pub or_whole : Row (List ℕ) → Result (List ℕ) OciDistributionError → Row (List ℕ)
or_whole whole (Ok url) = Done (Ok url)
or_whole whole (Err e) = if is_violation e then whole else Done (Err e)

unfoldable pub push_blob : Context → Reference → List ℕ → List ℕ → Row (List ℕ)
push_blob s image content digest =
    if s.settings.use_monolithic_push
    then push_whole s image content digest
    else bind (push_chunked s image content digest) (or_whole (push_whole s image content digest))

-- ---- a stream

abbrev pub size_given : Option ℕ → Result ℕ OciDistributionError
size_given None = Err (refusal.GenericError NoSize)
size_given (Some size) = Ok size

abbrev pub of_size : ℕ → List ℕ → Result (List ℕ) OciDistributionError
of_size size bytes = if nat_eq (length bytes) size then Ok bytes else Err (refusal.GenericError SizeDiffers)

-- whole, if its size is given
unfoldable pub stream_whole : Context → Reference → List ℕ → Option ℕ → Row (List ℕ)
stream_whole s image digest size = do
  size ← Done (size_given size)
  location ← upload_begun s image
  bytes ← all_read s.settings.max_body_bytes
  bytes ← Done (of_size size bytes)
  upload_ended s image digest location (Whole bytes)

-- the upload of all pieces, which is not finished yet
unfoldable pub stream_sent : Context → Reference → Row Sent
stream_sent s image = do
  location ← upload_begun s image
  all_sent s image location

unfoldable pub stream_chunked : Context → Reference → List ℕ → Row (List ℕ)
stream_chunked s image digest = do
  sent ← stream_sent s image
  upload_ended s image digest sent.location Nothing

unfoldable pub push_blob_stream : Context → Reference → List ℕ → Option ℕ → Row (List ℕ)
push_blob_stream s image digest size =
    if s.settings.use_monolithic_push then stream_whole s image digest size else stream_chunked s image digest

-- the response for bytes that are at this URL now
abbrev pub response_of : List ℕ → List ℕ → PushBlobStreamChunkedResponse
response_of url bytes = record { blob_url = url; blob_digest = digest_text Sha256 bytes; size = length bytes }

unfoldable pub push_blob_stream_chunked : Context → Reference → Row PushBlobStreamChunkedResponse
push_blob_stream_chunked s image = do
  sent ← stream_sent s image
  _ ← Done (not_empty sent.bytes)
  url ← upload_ended s image (digest_text Sha256 sent.bytes) sent.location Nothing
  Done (Ok (response_of url sent.bytes))

-- ---- a blob of another repository

-- the request names the blob and the other repository
abbrev pub mount_url : Reference → List ℕ → Parts → Parts
mount_url source digest url = append_query_pairs url
    ((codes "mount", digest) ∷ (codes "from", repository_of source) ∷ [])

unfoldable pub mount_blob : Context → Reference → Reference → List ℕ → Row Unit
mount_blob s image source digest = do
  url ← Done (url_read (uploads_text s.settings image))
  _ ← sent s image Post (mount_url source digest url) Nothing 201
  Done (Ok tt)
