-- The tokens that a call may send to a registry.
use Rattle.std.specs.Prelude.{◌≡◌, ◌⊎◌, ℕ, List, ◌∷◌, ◌++◌, Option, Some, Ok}
use Rattle.std.specs.FinMap as map
use Rattle.oci_transport.specs.declared.message.Answer.{Answer}
use Rattle.oci_transport.specs.declared.message.Exchange.{Exchange}
use Rattle.oci_names.specs.declared.reference.Reference.{Reference}
use Rattle.oci_names.specs.Reference.{resolved_registry}
use Rattle.oci_auth.specs.Cache.{key_of, token_at}
use Rattle.oci_auth.specs.Auth.{own_token}
use Rattle.oci_auth.specs.declared.auth.RegistryAuth.{RegistryAuth}
use Rattle.oci_auth.specs.declared.auth_state.AuthState.{AuthState}
use Rattle.oci_auth.specs.declared.token_type.RegistryOperation.{RegistryOperation}
use Rattle.oci_auth.specs.declared.token_type.RegistryOperation.TheVariants.{Pull}
use Rattle.oci_auth.specs.declared.token_type.RegistryTokenType.{RegistryTokenType}
use Rattle.engine_terms.specs.Contexts.{Context}
use Rattle.engine_requests.specs.Tokens.{token_read}

-- what a call begins with: the client state, the image, the operation, the moment, and the credentials that are passed
-- in
pub record Entry : Type 0 where
  pub kept : AuthState
  pub image : Reference
  pub operation : RegistryOperation
  pub moment : ℕ
  pub handed : Option RegistryAuth

-- a call for this operation
abbrev pub asking : AuthState → Context → Reference → RegistryOperation → Option RegistryAuth → Entry
asking kept s image op handed = record {
  kept = kept;
  image = image;
  operation = op;
  moment = s.moment;
  handed = handed;
}

-- a call that pulls
abbrev pub pulling : AuthState → Context → Reference → Option RegistryAuth → Entry
pulling kept s image handed = asking kept s image Pull handed

-- credentials that are stored for the registry, or passed in
abbrev pub IsAuth : Entry → RegistryAuth → Type 0
IsAuth x a = (map.get x.kept.credentials (resolved_registry x.image) ≡ Some a) ⊎ (x.handed ≡ Some a)

-- the token of such credentials
abbrev pub OfAuth : Entry → RegistryTokenType → Type 0
OfAuth x token = (a : RegistryAuth) × IsAuth x a × (own_token a ≡ Some token)

-- a token that is stored, and valid at the moment
abbrev pub WasKept : Entry → RegistryTokenType → Type 0
WasKept x token = token_at x.kept.tokens (key_of x.image x.operation) x.moment ≡ Some token

-- a token in the body of a response
pub record GivenIn (c : List Exchange) (token : RegistryTokenType) : Type 0 where
  pub before : List Exchange
  pub exchange : Exchange
  pub after : List Exchange
  pub split : c ≡ before ++ exchange ∷ after
  pub answer : Answer
  pub answered : exchange.answer ≡ Some answer
  pub read : token_read answer ≡ Ok (Some token)

-- the call may send this token: it is one of these
abbrev pub IsHeld : Entry → List Exchange → RegistryTokenType → Type 0
IsHeld x c token = OfAuth x token ⊎ (WasKept x token ⊎ GivenIn c token)
