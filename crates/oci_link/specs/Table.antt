-- The answer of a shelf to a request (OCI distribution specification, "Pull").
use Rattle.std.specs.Prelude.{ℕ, ◌==◌, Bool, true, false, List, [], length, Option, Some, None, unwrap_or, codes}
use Rattle.std.specs.Prelude.{if◌then◌else◌}
use Rattle.std.specs.List.{list_any}
use Rattle.std.specs.FinMap as map
use Rattle.oci_transport.specs.Headers as fields
use Rattle.oci_transport.specs.Headers.{Fields, digest_header}
use Rattle.oci_transport.specs.declared.message.Request.{Request}
use Rattle.oci_transport.specs.declared.message.Answer.{Answer}
use Rattle.oci_transport.specs.declared.message.Method.{Method}
use Rattle.oci_transport.specs.declared.message.Method.TheVariants.{Get, Head}
use Rattle.oci_link.specs.declared.shelf.Shelf.{Shelf}
use Rattle.oci_link.specs.declared.shelf.ShelfDocument.{ShelfDocument}
use Rattle.oci_link.specs.Paths.{after, path_of}

abbrev pub is_get : Method → Bool
is_get Get = true
is_get _ = false

abbrev pub is_get_or_head : Method → Bool
is_get_or_head Get = true
is_get_or_head Head = true
is_get_or_head _ = false

-- a header with an invalid value is omitted
abbrev pub with_header : List ℕ → List ℕ → Fields → Fields
with_header name value headers = unwrap_or (fields.with_header headers name value) headers

abbrev pub found : Fields → List ℕ → Answer
found headers body = record { status = 200; headers = headers; body = body }

abbrev pub not_found : Answer
not_found = record { status = 404; headers = map.empty; body = [] }

abbrev pub with_digest : List ℕ → Fields
with_digest digest = with_header digest_header digest map.empty

-- the answer to a HEAD has no body
abbrev pub body_for : Method → List ℕ → List ℕ
body_for Head content = []
body_for _ content = content

abbrev pub document_answer : Method → List ℕ → Option ShelfDocument → Answer
document_answer method digest None = not_found
document_answer method digest (Some document) =
    found
    (with_header (codes "content-type") document.media_type (with_digest digest))
    (body_for method document.content)

abbrev pub is_colon : ℕ → Bool
is_colon b = b == 58

-- a name with a colon is a digest, another one is a tag
abbrev pub digest_named : Shelf → List ℕ → Option (List ℕ)
digest_named shelf name = if list_any is_colon name then Some name else map.get shelf.tags name

abbrev pub digest_answer : Shelf → Method → Option (List ℕ) → Answer
digest_answer shelf method None = not_found
digest_answer shelf method (Some digest) = document_answer method digest (map.get shelf.documents digest)

abbrev pub manifest_answer : Shelf → Method → List ℕ → Answer
manifest_answer shelf method name =
    if is_get_or_head method then digest_answer shelf method (digest_named shelf name) else not_found

abbrev pub bytes_answer : Fields → Option (List ℕ) → Answer
bytes_answer headers None = not_found
bytes_answer headers (Some bytes) = found headers bytes

abbrev pub blob_answer : Shelf → Method → List ℕ → Answer
blob_answer shelf method digest =
    if is_get method then bytes_answer (with_digest digest) (map.get shelf.blobs digest) else not_found

abbrev pub referrers_answer : Shelf → Method → List ℕ → Answer
referrers_answer shelf method digest =
    if is_get method then bytes_answer map.empty (map.get shelf.referrers digest) else not_found

-- `/referrers/<digest>`
abbrev pub or_referrers : Shelf → Method → Option (List ℕ) → Answer
or_referrers shelf method (Some digest) = referrers_answer shelf method digest
or_referrers shelf method None = not_found

-- `/blobs/<digest>`
abbrev pub or_blob : Shelf → Method → List ℕ → Option (List ℕ) → Answer
or_blob shelf method rest (Some digest) = blob_answer shelf method digest
or_blob shelf method rest None = or_referrers shelf method (after (codes "/referrers/") rest)

-- `/manifests/<name>`
abbrev pub or_manifest : Shelf → Method → List ℕ → Option (List ℕ) → Answer
or_manifest shelf method rest (Some name) = manifest_answer shelf method name
or_manifest shelf method rest None = or_blob shelf method rest (after (codes "/blobs/") rest)

-- the rest after the repository
abbrev pub in_repository : Shelf → Method → Option (List ℕ) → Answer
in_repository shelf method None = not_found
in_repository shelf method (Some rest) = or_manifest shelf method rest (after (codes "/manifests/") rest)

-- the rest after `/v2/`
abbrev pub in_registry : Shelf → Method → Option (List ℕ) → Answer
in_registry shelf method None = not_found
in_registry shelf method (Some rest) =
    if length rest == 0
    then (if is_get method then found map.empty [] else not_found)
    else in_repository shelf method (after shelf.repository rest)

abbrev pub at_path : Shelf → Method → Option (List ℕ) → Answer
at_path shelf method None = not_found
at_path shelf method (Some path) = in_registry shelf method (after (codes "v2/") path)

abbrev pub redirect_to : List ℕ → Answer
redirect_to location = record { status = 307; headers = with_header (codes "location") location map.empty; body = [] }

abbrev pub unless_redirected : Shelf → Request → Option (List ℕ) → Answer
unless_redirected shelf request (Some location) = redirect_to location
unless_redirected shelf request None = at_path shelf request.method (path_of request.url)

-- the answers: first a redirect of a GET or HEAD, then by the path
unfoldable pub answer : Shelf → Request → Answer
answer shelf request =
    unless_redirected shelf request
    (if is_get_or_head request.method then map.get shelf.redirects request.url else None)
