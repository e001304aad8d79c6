-- The target of a redirect.
use Rattle.std.specs.Prelude.{ℕ, Bool, true, false, ◌&&◌, ◌||◌, List, Option, Some, None, Ok, Err, codes, nat_eq}
use Rattle.std.specs.Prelude.{if◌then◌else◌}
use Rattle.url.specs.Parts.{Parts, serialize}
use Rattle.url.specs.Parser.{Parsed, parse_url}
use Rattle.oci_transport.specs.Headers.{Fields, first_of, without, header_text}
use Rattle.oci_transport.specs.Urls.{request_url, same_origin}
use Rattle.oci_transport.specs.declared.message.Request.{Request}
use Rattle.oci_transport.specs.declared.message.AnswerHead.{AnswerHead}
use Rattle.oci_transport.specs.declared.message.Method.{Method}
use Rattle.oci_transport.specs.declared.message.Method.TheVariants.{Get, Head}

abbrev pub text_of : Parsed Parts → Option (List ℕ)
text_of (Ok url) = Some (serialize url)
text_of (Err e) = None

abbrev pub may_follow : Method → Bool
may_follow Get = true
may_follow Head = true
may_follow _ = false

abbrev pub is_redirect_status : ℕ → Bool
is_redirect_status status =
    nat_eq status 301 || (nat_eq status 302 || (nat_eq status 303 || (nat_eq status 307 || nat_eq status 308)))

abbrev pub kept_headers : Bool → Fields → Fields
kept_headers true headers = headers
kept_headers false headers = without (codes "authorization") headers

-- the same request to another URL, without credentials if its origin is different
abbrev pub moved : Request → Parts → List ℕ → Option Parts → Option Request
moved request base text None = None
moved request base text (Some url) = Some (record {
  method = request.method;
  url = text;
  headers = kept_headers (same_origin base url) request.headers;
  body = request.body;
})

-- the text of a location resolved against a URL
unfoldable pub joined_text : Parts → List ℕ → Option (List ℕ)
joined_text base location = text_of (parse_url (Some base) location)

-- as `request_url` parses it
abbrev pub moved_text : Request → Parts → Option (List ℕ) → Option Request
moved_text request base None = None
moved_text request base (Some text) = moved request base text (request_url text)

abbrev pub moved_from : Request → List ℕ → Option Parts → Option Request
moved_from request location None = None
moved_from request location (Some base) = moved_text request base (joined_text base location)

abbrev pub moved_to : Request → Option (List ℕ) → Option Request
moved_to request None = None
moved_to request (Some location) = moved_from request location (request_url request.url)

-- the first location, if it is text
abbrev pub location_of : Option (List ℕ) → Option (List ℕ)
location_of (Some value) = header_text value
location_of None = None

-- the request to which an answer with this head leads, if it is a redirect
unfoldable pub redirected : Request → AnswerHead → Option Request
redirected request head =
    if may_follow request.method && is_redirect_status head.status
    then moved_to request (location_of (first_of (codes "location") head.headers))
    else None
