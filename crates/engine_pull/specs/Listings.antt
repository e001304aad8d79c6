-- What a registry lists, and whether it has a blob (OCI distribution specification, "Content Discovery" and "Checking if
-- content exists in the registry"; Docker Registry HTTP API V2, "Listing Repositories").
use Rattle.std.specs.Prelude.{ℕ, Bool, List, [], ◌∷◌, ◌++◌, Option, Some, None, Result, Ok, Err, codes, decimal}
use Rattle.std.specs.Prelude.{nat_eq, ◌||◌, if◌then◌else◌}
use Rattle.std.specs.Str.{is_utf8}
use Rattle.serde_json.specs.Data.{Data}
use Rattle.json_tables.specs.Plain.{read_plain}
use Rattle.url.specs.Parts.{Parts}
use Rattle.url.specs.Setters.{append_query_pairs}
use Rattle.oci_names.specs.declared.reference.Reference.{Reference}
use Rattle.oci_names.specs.Reference.{repository_of, namespace_of}
use Rattle.oci_docs.specs.Tags.{tag_response_of}
use Rattle.oci_docs.specs.Catalog.{catalog_response_of}
use Rattle.oci_docs.specs.declared.tags.TagResponse.{TagResponse}
use Rattle.oci_docs.specs.declared.catalog.CatalogResponse.{CatalogResponse}
use Rattle.oci_auth.specs.declared.auth.RegistryAuth.{RegistryAuth}
use Rattle.oci_auth.specs.declared.token_type.RegistryOperation.TheVariants.{Pull}
use Rattle.oci_transport.specs.declared.message.Request.{Request}
use Rattle.oci_transport.specs.declared.message.AnswerHead.{AnswerHead}
use Rattle.oci_transport.specs.declared.message.Method.{Method}
use Rattle.oci_transport.specs.declared.message.Method.TheVariants.{Get, Head}
use Rattle.oci_protocol.specs.Proto.{Reading, Unread, Within, Reply, Headed, Answered, Failed, TooLong, SinkFailed}
use Rattle.oci_protocol.specs.Proto.{Done, ◌>>=◌, ◌>>◌}
use Rattle.oci_protocol.specs.Follow.{follow}
use Rattle.engine_terms.specs.Contexts.{Context}
use Rattle.engine_terms.specs.declared.settings.Settings.{Settings}
use Rattle.engine_terms.specs.declared.error.OciDistributionError.{OciDistributionError}
use Rattle.engine_terms.specs.declared.error.OciDistributionError.TheVariants as refusal
use Rattle.engine_requests.specs.Addresses.{base_text, blob_text, mirrored, url_read}
use Rattle.engine_requests.specs.Requests.{request_of}
use Rattle.engine_answers.specs.Answers.{is_success, accepted, refused_answer}
use Rattle.engine_rows.specs.Rows.{Row, store, authorized, whole}

-- ---- addresses

-- where the tags of a repository are listed
abbrev pub tags_text : Settings → Reference → List ℕ
tags_text s image = base_text s image ++ repository_of image ++ codes "/tags/list" ++ mirrored (namespace_of image)

-- where the repositories of a registry are listed
abbrev pub catalog_text : Settings → Reference → List ℕ
catalog_text s image = base_text s image ++ codes "_catalog"

abbrev pub with_count : Option ℕ → Parts → Parts
with_count None url = url
with_count (Some n) url = append_query_pairs url ((codes "n", decimal n) ∷ [])

abbrev pub with_last : Option (List ℕ) → Parts → Parts
with_last None url = url
with_last (Some last) url = append_query_pairs url ((codes "last", last) ∷ [])

-- at most n entries are requested, after the one named `last`
abbrev pub with_page : Option ℕ → Option (List ℕ) → Parts → Parts
with_page n last url = with_last last (with_count n url)

-- ---- requests

-- a request that lists no types, with its token
unfoldable pub bare : Context → Reference → Method → Parts → Row Request
bare s image method url = do
  token ← authorized s image Pull url
  Done (request_of s.settings method url None token)

-- whether a response with this status states that the blob is there, or that it is not
abbrev pub is_told : ℕ → Bool
is_told status = is_success status || nat_eq status 404

-- any other response is read, for its refusal
unfoldable pub unless_told : ℕ → AnswerHead → Reading
unless_told limit head = if is_told head.status then Unread else Within limit

abbrev pub is_there : Request → Reply → Row Bool
is_there last (Headed head) = Done (Ok (is_success head.status))
is_there last (Answered answer) = Done (Err (refused_answer 200 last.url answer))
is_there last TooLong = Done (Err refusal.BodyTooLong)
is_there last Failed = Done (Err refusal.TransportFault)
-- unreachable: the body is not read into a sink
is_there last SinkFailed = Done (Err refusal.SinkFault)

unfoldable pub there_after : Request → ℕ → Row Bool
there_after request limit = follow 10 request (unless_told limit) is_there

-- whether the registry has the blob of this digest
unfoldable pub blob_exists : Context → Reference → List ℕ → Row Bool
blob_exists s image digest = do
  url ← Done (url_read (blob_text s.settings image digest))
  request ← bare s image Head url
  there_after request s.settings.max_body_bytes

-- ---- lists

-- the body of the response for this URL
unfoldable pub list_asked : Context → Reference → Parts → Row (List ℕ)
list_asked s image url = do
  request ← bare s image Get url
  got ← whole 10 request s.settings.max_body_bytes
  answer ← Done (accepted 200 got.url got.answer)
  Done (Ok answer.body)

abbrev pub or_unread : {A : Type 0} → List ℕ → Option A → Result A OciDistributionError
or_unread body None = Err (refusal.JsonError body)
or_unread body (Some list) = Ok list

-- what the table reads from a body, which must be UTF-8
abbrev pub list_in : {A : Type 0} → (Data → Option A) → List ℕ → Result A OciDistributionError
list_in table body =
    if is_utf8 body then or_unread body (read_plain table body) else Err (refusal.ManifestEncodingError body)

-- the list at this address, or a page of it
unfoldable pub listed : {A : Type 0} → (Data → Option A) → List ℕ → Context → Reference → RegistryAuth → Option ℕ
    → Option (List ℕ) → Row A
listed table text s image a n last = do
  store image a
  url ← Done (url_read text)
  body ← list_asked s image (with_page n last url)
  Done (list_in table body)

-- the tags of the image's repository
abbrev pub list_tags : Context → Reference → RegistryAuth → Option ℕ → Option (List ℕ) → Row TagResponse
list_tags s image a n last = listed tag_response_of (tags_text s.settings image) s image a n last

-- the repositories of the image's registry
abbrev pub catalog : Context → Reference → RegistryAuth → Option ℕ → Option (List ℕ) → Row CatalogResponse
catalog s image a n last = listed catalog_response_of (catalog_text s.settings image) s image a n last
