-- Requests to Rekor (its API).
use Rattle.std.specs.Prelude.{ℕ, List, [], ◌++◌, Option, Some, None, unwrap_or, Result, Ok, Err, codes}
use Rattle.std.specs.FinMap as map
use Rattle.url.specs.Parts.{Parts, serialize}
use Rattle.form_urlencoded.specs.Form.{extend_pairs}
use Rattle.json_values.specs.Refusals.{◌>>=◌}
use Rattle.json_tables.specs.Reading as option
use Rattle.oci_transport.specs.Headers.{Fields, with_header}
use Rattle.oci_transport.specs.Urls.{request_url}
use Rattle.oci_transport.specs.declared.message.Request.{Request}
use Rattle.oci_transport.specs.declared.message.Method.{Method}
use Rattle.sig_services.specs.declared.configuration.Configuration.{Configuration}
use Rattle.sig_services.specs.declared.error.Error.{Error}
use Rattle.sig_services.specs.declared.error.Error.TheVariants.{Url, Header}

-- the text of a request's URL
abbrev pub address : List ℕ → List ℕ → List ℕ
address base path = base ++ codes "/api/v1" ++ path

-- a path followed by fields of a form
abbrev pub queried : List ℕ → List (List ℕ × List ℕ) → List ℕ
queried path pairs = path ++ codes "?" ++ extend_pairs [] pairs

abbrev pub url_read : {E : Type 0} → List ℕ → Option Parts → Result Parts (Error E)
url_read text (Some url) = Ok url
url_read text None = Err (Url text)

abbrev pub url_of : {E : Type 0} → List ℕ → Result Parts (Error E)
url_of text = url_read text (request_url text)

-- the user agent, if there is one
abbrev pub with_agent : Option (List ℕ) → Fields → Option Fields
with_agent None headers = Some headers
with_agent (Some agent) headers = with_header headers (codes "user-agent") agent

-- the type of the body, if there is one
abbrev pub with_type : Option (List ℕ) → Fields → Option Fields
with_type None headers = Some headers
with_type (Some content) headers = with_header headers (codes "content-type") (codes "application/json")

abbrev pub agent_text : Option (List ℕ) → List ℕ
agent_text agent = unwrap_or agent []

abbrev pub headers_read : {E : Type 0} → Option (List ℕ) → Option Fields → Result Fields (Error E)
headers_read agent (Some headers) = Ok headers
headers_read agent None = Err (Header (agent_text agent))

abbrev pub headers_sent : Option (List ℕ) → Option (List ℕ) → Option Fields
headers_sent agent content = option.◌>>=◌ (with_type content map.empty) (with_agent agent)

abbrev pub headers_of : {E : Type 0} → Option (List ℕ) → Option (List ℕ) → Result Fields (Error E)
headers_of agent content = headers_read agent (headers_sent agent content)

abbrev pub body_of : Option (List ℕ) → List ℕ
body_of content = unwrap_or content []

-- the request of a call: this method, this path, and this JSON text if one is given
unfoldable pub request_of : {E : Type 0} → Configuration → Method → List ℕ → Option (List ℕ) → Result Request (Error E)
request_of c method path content = do
  url ← url_of (address c.base_path path)
  headers ← headers_of c.user_agent content
  Ok (record { method = method; url = serialize url; headers = headers; body = body_of content })
