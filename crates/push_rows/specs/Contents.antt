-- What a request of a push contains (OCI distribution specification, "Pushing blobs" and "Pushing manifests").
use Rattle.std.specs.Prelude.{ℕ, ◌+◌, ◌-◌, ◌<◌, ◌^◌, List, [], ◌++◌, length, Result, Ok, codes, decimal}
use Rattle.oci_transport.specs.Headers.{Fields}
use Rattle.oci_transport.specs.declared.message.Request.{Request}
use Rattle.engine_terms.specs.declared.error.OciDistributionError.{OciDistributionError}
use Rattle.json_values.specs.Refusals.{◌>>=◌}
use Rattle.engine_requests.specs.Requests.{with_header}
use Rattle.push_rows.specs.declared.content.Content.{Content}
use Rattle.push_rows.specs.declared.content.Content.TheVariants.{Nothing, Whole, Chunk, Document}

-- the bytes
abbrev pub bytes_of : Content → List ℕ
bytes_of Nothing = []
bytes_of (Whole bytes) = bytes
bytes_of (Chunk start bytes) = bytes
bytes_of (Document kind bytes) = bytes

-- the end of a chunk is at most 2^64 - 1
abbrev pub IsWithin : Content → Type 0
IsWithin (Chunk start bytes) = start + length bytes < 2 ^ 64
IsWithin content = Unit {0}

-- the indexes of the first and of the last byte of a chunk
abbrev pub range_text : ℕ → List ℕ → List ℕ
range_text start bytes = decimal start ++ codes "-" ++ decimal (start + length bytes - 1)

-- the media type of a blob's bytes
abbrev pub octet_stream : List ℕ
octet_stream = codes "application/octet-stream"

abbrev pub with_length : List ℕ → Fields → Result Fields OciDistributionError
with_length bytes headers = with_header headers (codes "content-length") (decimal (length bytes))

abbrev pub with_type : List ℕ → Fields → Result Fields OciDistributionError
with_type kind headers = with_header headers (codes "content-type") kind

-- of a blob: the number of bytes, their type if there are any, and the range of a chunk in it; of a document its type
abbrev pub with_fields : Content → Fields → Result Fields OciDistributionError
with_fields Nothing headers = with_length [] headers
with_fields (Whole bytes) headers = with_length bytes headers >>= with_type octet_stream
with_fields (Chunk start bytes) headers = with_header headers (codes "content-range") (range_text start bytes)
    >>= with_length bytes >>= with_type octet_stream
with_fields (Document kind bytes) headers = with_type kind headers

-- the request with this content
unfoldable pub with_content : Content → Request → Result Request OciDistributionError
with_content content request = with_fields content request.headers >>= λ headers. Ok (record request {
  headers = headers;
  body = bytes_of content;
})
