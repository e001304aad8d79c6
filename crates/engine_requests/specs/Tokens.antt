-- How a token is requested (OCI distribution specification, "Authentication"; RFC 6750, section 3).
use Rattle.std.specs.Prelude.{ℕ, List, [], ◌∷◌, ◌++◌, Option, Some, None, Result, Ok, Err, codes, nat_eq, if◌then◌else◌}
use Rattle.url.specs.Parts.{Parts}
use Rattle.url.specs.Setters.{append_query_pairs}
use Rattle.oci_auth.specs.Bearer.{in_header}
use Rattle.oci_auth.specs.declared.bearer.BearerChallenge.{BearerChallenge}
use Rattle.oci_auth.specs.declared.bearer.ChallengeError.{ChallengeError}
use Rattle.oci_names.specs.declared.reference.Reference.{Reference}
use Rattle.oci_names.specs.Reference.{repository_of}
use Rattle.oci_auth.specs.Auth.{own_token}
use Rattle.oci_auth.specs.Token.{token_of}
use Rattle.oci_auth.specs.declared.auth.RegistryAuth.{RegistryAuth}
use Rattle.oci_auth.specs.declared.token.RegistryToken.{RegistryToken}
use Rattle.oci_auth.specs.declared.token_type.RegistryOperation.{RegistryOperation}
use Rattle.oci_auth.specs.declared.token_type.RegistryOperation.TheVariants.{Push, Pull}
use Rattle.oci_auth.specs.declared.token_type.RegistryTokenType.{RegistryTokenType}
use Rattle.oci_auth.specs.declared.token_type.RegistryTokenType.TheVariants.{Bearer}
use Rattle.oci_transport.specs.Headers.{first_of}
use Rattle.oci_transport.specs.declared.message.Request.{Request}
use Rattle.oci_transport.specs.declared.message.Answer.{Answer}
use Rattle.oci_transport.specs.declared.message.AnswerHead.{AnswerHead}
use Rattle.oci_transport.specs.declared.message.Method.TheVariants.{Get}
use Rattle.engine_terms.specs.declared.settings.Settings.{Settings}
use Rattle.engine_requests.specs.declared.tokens.Wanted.{Wanted}
use Rattle.engine_requests.specs.declared.tokens.Wanted.TheVariants.{Nothing, Credentials, Token}
use Rattle.engine_terms.specs.declared.error.OciDistributionError.{OciDistributionError}
use Rattle.engine_terms.specs.declared.error.OciDistributionError.TheVariants as refusal
use Rattle.engine_requests.specs.Requests.{request_of}

-- ---- challenges

abbrev pub wanted_by : Result BearerChallenge ChallengeError → Wanted
wanted_by (Ok challenge) = Token challenge
wanted_by (Err e) = Credentials

abbrev pub wanted_in : Option (List ℕ) → Wanted
wanted_in None = Nothing
wanted_in (Some value) = wanted_by (in_header value)

-- what the head of a response requires: by its first challenges a token of a realm, the credentials themselves, or
-- nothing if there are none
unfoldable pub wanted : AnswerHead → Wanted
wanted head = wanted_in (first_of (codes "www-authenticate") head.headers)

-- ---- the realm's request

abbrev pub allowed : RegistryOperation → List ℕ
allowed Pull = codes ":pull"
allowed Push = codes ":pull,push"

abbrev pub scope_of : Reference → RegistryOperation → List ℕ
scope_of image op = codes "repository:" ++ repository_of image ++ allowed op

abbrev pub with_scope : Reference → RegistryOperation → Parts → Parts
with_scope image op url = append_query_pairs url ((codes "scope", scope_of image op) ∷ [])

abbrev pub with_service : Option (List ℕ) → Parts → Parts
with_service None url = url
with_service (Some service) url = append_query_pairs url ((codes "service", service) ∷ [])

-- the realm's URL with the requested scope, and the service if the challenge names one
abbrev pub realm_url : Reference → RegistryOperation → Option (List ℕ) → Parts → Parts
realm_url image op service url = with_service service (with_scope image op url)

-- the credentials are sent to the realm
unfoldable pub realm_request : Settings → Reference → RegistryAuth → RegistryOperation → Option (List ℕ) → Parts
    → Result Request OciDistributionError
realm_request s image a op service url = request_of s Get (realm_url image op service url) None (own_token a)

-- ---- the realm's response

abbrev pub decoded : List ℕ → Option RegistryToken → Result (Option RegistryTokenType) OciDistributionError
decoded body None = Err (refusal.RegistryTokenDecodeError body)
decoded body (Some token) = Ok (Some (Bearer token))

-- the token in the body of a response of status 200
abbrev pub token_read : Answer → Result (Option RegistryTokenType) OciDistributionError
token_read answer = if nat_eq answer.status 200 then decoded answer.body (token_of answer.body) else Err
    (refusal.AuthenticationFailure answer.body)
