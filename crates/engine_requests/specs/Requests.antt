-- What a request contains (OCI distribution specification, "Pull").
use Rattle.std.specs.Prelude.{ℕ, flat_map, List, [], ◌∷◌, ◌++◌, Option, Some, None, Result, Ok, codes, ok_or}
use Rattle.url.specs.Parts.{Parts, serialize}
use Rattle.oci_auth.specs.Auth.{authorization_of}
use Rattle.oci_auth.specs.declared.token_type.RegistryTokenType.{RegistryTokenType}
use Rattle.oci_transport.specs.Headers as fields
use Rattle.oci_transport.specs.Headers.{Fields}
use Rattle.std.specs.FinMap as map
use Rattle.oci_transport.specs.declared.message.Request.{Request}
use Rattle.oci_transport.specs.declared.message.Method.{Method}
use Rattle.engine_terms.specs.declared.settings.Settings.{Settings}
use Rattle.engine_terms.specs.declared.error.GenericCause.TheVariants.{HeaderText}
use Rattle.engine_terms.specs.declared.error.OciDistributionError.{OciDistributionError}
use Rattle.engine_terms.specs.declared.error.OciDistributionError.TheVariants as refusal
use Rattle.json_values.specs.Refusals.{◌>>=◌}

-- one more type in a header
abbrev pub behind : List ℕ → List ℕ
behind kind = codes ", " ++ kind

abbrev pub listed : List (List ℕ) → List ℕ
listed [] = []
listed (kind ∷ rest) = kind ++ flat_map behind rest

-- the four types of manifests and indexes
abbrev pub manifest_types : List ℕ
manifest_types = listed (
    codes "application/vnd.docker.distribution.manifest.v2+json"
    ∷ codes "application/vnd.docker.distribution.manifest.list.v2+json"
    ∷ codes "application/vnd.oci.image.manifest.v1+json"
    ∷ codes "application/vnd.oci.image.index.v1+json" ∷ [])

-- a header is added, or the request is refused
abbrev pub with_header : Fields → List ℕ → List ℕ → Result Fields OciDistributionError
with_header headers name value =
    ok_or (fields.with_header headers name value) (refusal.GenericError HeaderText)

abbrev pub with_accept : Option (List ℕ) → Fields → Result Fields OciDistributionError
with_accept None headers = Ok headers
with_accept (Some types) headers = with_header headers (codes "accept") types

abbrev pub with_token : Option RegistryTokenType → Fields → Result Fields OciDistributionError
with_token None headers = Ok headers
with_token (Some token) headers = with_header headers (codes "authorization") (authorization_of token)

-- Every request names the client, and one for a document or a blob the accepted types. It contains a token if there is
-- one.
abbrev pub headers_of : Settings → Option (List ℕ) → Option RegistryTokenType → Result Fields OciDistributionError
headers_of s types token =
    with_header map.empty (codes "user-agent") s.user_agent >>= with_accept types >>= with_token token

abbrev pub bare_request : Method → Parts → Fields → Request
bare_request method url headers = record { method = method; url = serialize url; headers = headers; body = [] }

-- a request without a body
unfoldable pub request_of : Settings → Method → Parts → Option (List ℕ) → Option RegistryTokenType
    → Result Request OciDistributionError
request_of s method url types token = headers_of s types token >>= λ headers. Ok (bare_request method url headers)
