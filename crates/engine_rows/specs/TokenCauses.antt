-- Why the call for a token was refused. Such a refusal is about the last exchange of the call.
use Rattle.std.specs.Prelude.{◌≡◌, ◌≢◌, ◌<◌, ◌⊎◌, ℕ, false, List, [], ◌∷◌, ◌++◌, Some, None, length}
use Rattle.json_values.specs.Counts.{Increased}
use Rattle.oci_transport.specs.Headers.{is_header_value}
use Rattle.oci_transport.specs.Urls.{request_url}
use Rattle.oci_transport.specs.declared.message.Answer.{Answer}
use Rattle.oci_transport.specs.declared.message.Exchange.{Exchange}
use Rattle.oci_auth.specs.Auth.{own_token, authorization_of}
use Rattle.oci_auth.specs.Token.{token_of}
use Rattle.oci_auth.specs.declared.auth.RegistryAuth.{RegistryAuth}
use Rattle.oci_auth.specs.declared.token_type.RegistryTokenType.{RegistryTokenType}
use Rattle.oci_auth.specs.declared.bearer.BearerChallenge.{BearerChallenge}
use Rattle.oci_names.specs.declared.reference.Reference.{Reference}
use Rattle.oci_protocol.specs.Runs.{head_part}
use Rattle.engine_requests.specs.Addresses.{base_text}
use Rattle.engine_requests.specs.Tokens.{wanted}
use Rattle.engine_requests.specs.declared.tokens.Wanted.TheVariants.{Token}
use Rattle.engine_terms.specs.declared.settings.Settings.{Settings}
use Rattle.engine_terms.specs.declared.error.GenericCause.TheVariants.{HeaderText}
use Rattle.engine_terms.specs.declared.error.OciDistributionError.{OciDistributionError}
use Rattle.engine_terms.specs.declared.error.OciDistributionError.TheVariants as refusal

-- P holds for the last exchange
pub record LastIs (P : Exchange → Type 0) (c : List Exchange) : Type 0 where
  pub before : List Exchange
  pub last : Exchange
  pub split : c ≡ before ++ last ∷ []
  pub holds : P last

-- it has a response, and P holds for the response
abbrev pub WithAnswer : (Answer → Type 0) → Exchange → Type 0
WithAnswer P e = (answer : Answer) × (e.answer ≡ Some answer) × P answer

-- the token of the credentials is not a valid header value
abbrev pub HasBadAuth : RegistryAuth → Type 0
HasBadAuth a = (token : RegistryTokenType) × (own_token a ≡ Some token)
    × (is_header_value (authorization_of token) ≡ false)

-- the realm of the challenge in the last response
abbrev pub LastRealm : List Exchange → List ℕ → Type 0
LastRealm c text = LastIs (WithAnswer (λ answer. (challenge : BearerChallenge)
    × (wanted (head_part answer) ≡ Token challenge) × (text ≡ challenge.realm))) c

-- the URL at which the registry states which token it requires, or that realm
abbrev pub TokenUrl : Settings → Reference → List Exchange → List ℕ → Type 0
TokenUrl s image c text = (text ≡ base_text s image) ⊎ LastRealm c text

abbrev pub TokenCause : Settings → Reference → RegistryAuth → List Exchange → ℕ → OciDistributionError → Type 0
TokenCause s image a c now (refusal.UrlParseError text) = (request_url text ≡ None) × TokenUrl s image c text
TokenCause s image a c now (refusal.GenericError HeaderText) = (is_header_value s.user_agent ≡ false) ⊎ HasBadAuth a
TokenCause s image a c now refusal.BodyTooLong = LastIs (WithAnswer (λ answer. s.max_body_bytes < length answer.body)) c
TokenCause s image a c now refusal.TransportFault = LastIs (λ e. Increased e.faults now) c
TokenCause s image a c now (refusal.AuthenticationFailure body) = LastIs (WithAnswer (λ answer.
    (answer.status ≢ 200) × (body ≡ answer.body))) c
TokenCause s image a c now (refusal.RegistryTokenDecodeError body) = LastIs (WithAnswer (λ answer.
    (answer.status ≡ 200) × (body ≡ answer.body) × (token_of body ≡ None))) c
TokenCause s image a c now refusal.WantOfMemory = Unit {0}
TokenCause s image a c now _ = ⊥
