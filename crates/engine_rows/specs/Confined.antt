-- Where credentials and tokens go: to the image's registry, and to the realm that it names.
use Rattle.std.specs.Prelude.{◌≡◌, ◌⊎◌, ℕ, true, List, [], ◌∷◌, ◌++◌, Some, codes}
use Rattle.std.specs.FinMap as map
use Rattle.url.specs.Parts.{Parts, serialize}
use Rattle.oci_auth.specs.declared.bearer.BearerChallenge.{BearerChallenge}
use Rattle.oci_transport.specs.Headers.{values_of}
use Rattle.oci_transport.specs.Urls.{request_url, targets}
use Rattle.oci_transport.specs.declared.message.Request.{Request}
use Rattle.oci_transport.specs.declared.message.Answer.{Answer}
use Rattle.oci_transport.specs.declared.message.Exchange.{Exchange}
use Rattle.oci_transport.specs.declared.message.Method.TheVariants.{Get}
use Rattle.oci_names.specs.declared.reference.Reference.{Reference}
use Rattle.oci_names.specs.Reference.{resolved_registry}
use Rattle.oci_auth.specs.Cache.{key_of, token_at}
use Rattle.oci_auth.specs.Auth.{authorization_of}
use Rattle.oci_auth.specs.Kept.{Key}
use Rattle.oci_auth.specs.declared.auth.RegistryAuth.{RegistryAuth}
use Rattle.oci_auth.specs.declared.auth_state.AuthState.{AuthState}
use Rattle.oci_auth.specs.declared.token_type.RegistryOperation.{RegistryOperation}
use Rattle.oci_auth.specs.declared.token_type.RegistryTokenType.{RegistryTokenType}
use Rattle.oci_protocol.specs.Runs.{head_part}
use Rattle.oci_protocol.specs.Safe.{EachAfter}
use Rattle.engine_requests.specs.Addresses.{registry_text, base_text}
use Rattle.engine_requests.specs.Tokens.{wanted, realm_url}
use Rattle.engine_terms.specs.declared.settings.Settings.{Settings}
use Rattle.engine_requests.specs.declared.tokens.Wanted.TheVariants.{Token}
use Rattle.engine_rows.specs.Held.{Entry, IsHeld}

-- the request goes to the image's registry: the same host and port, and not from `https` to `http`
pub record ToRegistry (s : Settings) (image : Reference) (request : Request) : Type 0 where
  pub registry : Parts
  pub url : Parts
  pub registry_is : request_url (registry_text s image) ≡ Some registry
  pub url_is : request_url request.url ≡ Some url
  pub goes : targets url registry ≡ true

-- It is the GET of the realm that the exchange directly before it names, which requested the registry's `/v2/`.
pub record ToRealm (s : Settings) (image : Reference) (op : RegistryOperation) (seen : List Exchange)
    (request : Request) : Type 0 where
  pub before : List Exchange
  pub exchange : Exchange
  pub split : seen ≡ before ++ exchange ∷ []
  pub base : Parts
  pub base_is : request_url (base_text s image) ≡ Some base
  pub asked_by : exchange.request.method ≡ Get
  pub asked : exchange.request.url ≡ serialize base
  pub answer : Answer
  pub answered : exchange.answer ≡ Some answer
  pub challenge : BearerChallenge
  pub names : wanted (head_part answer) ≡ Token challenge
  pub realm : Parts
  pub realm_is : request_url challenge.realm ≡ Some realm
  pub by_get : request.method ≡ Get
  pub asks : request.url ≡ serialize (realm_url image op challenge.service realm)

-- A value of `authorization` may be in the request: the request goes to one of these two, and the value is that of a
-- token or of credentials that the call may send.
pub record MayCarry (x : Entry) (s : Settings) (seen : List Exchange) (request : Request) (value : List ℕ)
    : Type 0 where
  pub goes : ToRegistry s x.image request ⊎ ToRealm s x.image x.operation seen request
  pub token : RegistryTokenType
  pub held : IsHeld x seen token
  pub value_is : value ≡ authorization_of token

-- P holds for each value
abbrev pub Each : (List ℕ → Type 0) → List (List ℕ) → Type 0
Each P [] = Unit {0}
Each P (value ∷ values) = P value × Each P values

-- each value of `authorization` in the request may be there, after these exchanges
abbrev pub Confined : Entry → Settings → List Exchange → Request → Type 0
Confined x s seen request = Each (MayCarry x s seen request) (values_of (codes "authorization") request.headers)

-- the same for each request of these exchanges
abbrev pub AllConfined : Entry → Settings → List Exchange → Type 0
AllConfined x s c = EachAfter (Confined x s) [] c

-- ---- the client state

-- the token was stored before, or these exchanges added it under the key of the call, and the call may send it
abbrev pub KeptOrAdded : Entry → List Exchange → Key → ℕ → RegistryTokenType → Type 0
KeptOrAdded x c key moment token = (token_at x.kept.tokens key moment ≡ Some token)
    ⊎ ((key ≡ key_of x.image x.operation) × IsHeld x c token)

-- the same for each token that is returned now, under any key and at any moment
abbrev pub KeptWell : Entry → AuthState → List Exchange → Type 0
KeptWell x l c = (key : Key) (moment : ℕ) (token : RegistryTokenType)
    → token_at l.tokens key moment ≡ Some token → KeptOrAdded x c key moment token

-- the credentials were stored before under this registry, or they were passed in and it is the image's
abbrev pub StoredOrHanded : Entry → List ℕ → RegistryAuth → Type 0
StoredOrHanded x registry a = (map.get x.kept.credentials registry ≡ Some a)
    ⊎ ((registry ≡ resolved_registry x.image) × (x.handed ≡ Some a))

-- the same for all stored credentials
abbrev pub StoredWell : Entry → AuthState → Type 0
StoredWell x l = (registry : List ℕ) (a : RegistryAuth)
    → map.get l.credentials registry ≡ Some a → StoredOrHanded x registry a

-- the requests contain what they may, and what is stored after them was stored before or results from them
pub record Within (x : Entry) (s : Settings) (l : AuthState) (c : List Exchange) : Type 0 where
  pub confined : AllConfined x s c
  pub kept : KeptWell x l c
  pub stored : StoredWell x l
