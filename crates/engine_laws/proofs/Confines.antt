-- A part of a call sends credentials and tokens only to the image's registry and to the realm that it names, from any
-- beginning and with any further client state.
use Rattle.std.proofs.Common.{◌≡◌, ◌⊎◌, inl, inr, ℕ, List, [], ◌∷◌, ◌++◌, Option, Some, Result, Ok, Err, codes, sym, ap, subst, ◌∙◌}
use Rattle.std.specs.Prelude.{Bool}
use Rattle.std.specs.FinMap as map
use Rattle.url.specs.Parts.{Parts, serialize}
use Rattle.url.specs.Setters.{append_query_pairs}
use Rattle.oci_transport.specs.Headers.{values_of}
use Rattle.oci_transport.specs.Link.{Link}
use Rattle.oci_transport.specs.Urls.{request_url}
use Rattle.oci_transport.specs.declared.message.Request.{Request}
use Rattle.oci_transport.specs.declared.message.Exchange.{Exchange}
use Rattle.oci_names.specs.declared.reference.Reference.{Reference}
use Rattle.oci_names.specs.Reference.{repository_of, resolved_registry}
use Rattle.oci_auth.specs.Cache.{key_of, token_at}
use Rattle.oci_auth.specs.Kept.{Key, under}
use Rattle.oci_auth.specs.declared.auth.RegistryAuth.{RegistryAuth}
use Rattle.oci_auth.specs.declared.auth_state.AuthState.{AuthState}
use Rattle.oci_auth.specs.declared.token_type.RegistryOperation.TheVariants.{Pull}
use Rattle.oci_auth.specs.declared.token_type.RegistryTokenType.{RegistryTokenType}
use Rattle.oci_protocol.specs.Proto.{Proto, Done, Ask, Recall, Keep, Consult, bind, unless_refused, ◌>>=◌}
use Rattle.oci_protocol.specs.Lift.{lifted}
use Rattle.oci_protocol.specs.Runs.{Meets, Told}
use Rattle.oci_protocol.specs.Safe.{Safe}
use Rattle.oci_protocol.proofs.WiderMemory.{Safe-lifted}
use Rattle.oci_protocol.proofs.Safety.{Safe-bind}
use Rattle.engine_requests.specs.Addresses.{registry_text, base_text}
use Rattle.engine_terms.specs.Settings.{scheme_for}
use Rattle.engine_terms.specs.Contexts.{Context}
use Rattle.engine_requests.specs.Tokens.{allowed, realm_url, with_service}
use Rattle.engine_terms.specs.declared.settings.Settings.{Settings}
use Rattle.engine_rows.specs.Confined.{ToRegistry, ToRealm, MayCarry, Confined, KeptOrAdded, StoredOrHanded, Within}
use Rattle.engine_rows.specs.Held.{Entry, pulling, IsAuth, IsHeld}
use Rattle.request_laws.proofs.RequestConfinement.{each_more}
use Rattle.request_laws.proofs.KeptTokens.{Keeps, keeps_first, keeps_more}
use Rattle.request_laws.proofs.SafeKeeps.{Lasts, Meets-within}
use Rattle.request_laws.proofs.SafeMore.{Safe-map}
use Rattle.request_laws.proofs.ShownTokens.{Carries}

-- ---- the client state keeps its invariant to the end

Safe-held : {K A : Type 0} (P : K → List Exchange → Request → Type 0) (I : K → List Exchange → Type 0) (Q : K → List Exchange → A → Type 0) (p : Proto K A) (k : K) (seen : List Exchange) → Lasts I → I k seen → Safe P I Q k seen p → Safe P I (λ k c a. I k c) k seen p
unfolding Safe
Safe-held P I Q (Done a) k seen lasts i h = i
Safe-held P I Q (Ask request reading next) k seen lasts i h = (h.0, λ e before after reply r. Safe-held P I Q (next reply) k (seen ++ e ∷ []) lasts (lasts k seen (e ∷ []) i) (h.1 e before after reply r))
Safe-held P I Q (Recall next) k seen lasts i h = Safe-held P I Q (next k) k seen lasts i h
Safe-held P I Q (Keep kept rest) k seen lasts i h = (h.0, Safe-held P I Q rest kept seen lasts h.0 h.1)
Safe-held P I Q (Consult next) k seen lasts i h = λ said. Safe-held P I Q (next said) k seen lasts i (h said)

-- From any beginning, the part's requests contain only what they may, and the client state keeps its invariant. The
-- client state has credentials and tokens, which `of` returns, and possibly more.
pub record ConfinesBy {K A : Type 0} (of : K → AuthState) (x : Entry) (s : Settings) (p : Proto K A) : Type 0 where
  pub safe : (l : K) (c : List Exchange) → Keeps x (of l) c → Safe (λ l. Carries x s (of l)) (λ l. Keeps x (of l)) (λ l c (a : A). Keeps x (of l) c) l c p

-- a part without further client state
abbrev pub Alone : AuthState → AuthState
Alone l = l

-- a part with further client state
abbrev pub Beside : {C : Type 0} → AuthState × C → AuthState
Beside l = l.0

pub confines_done : {K A : Type 0} (of : K → AuthState) (x : Entry) (s : Settings) (a : A) → ConfinesBy of x s (Done a)
unfolding Safe
confines_done {K} {A} of x s a = record { safe = λ l c keeps. held l c keeps } where
  held : (l : K) (c : List Exchange) → Keeps x (of l) c → Safe (λ l. Carries x s (of l)) (λ l. Keeps x (of l)) (λ l c (a : A). Keeps x (of l) c) l c (Done a)
  held l c keeps = keeps

pub confines_bind : {K A B : Type 0} (of : K → AuthState) (x : Entry) (s : Settings) (p : Proto K A) (f : A → Proto K B) → ConfinesBy of x s p → ((a : A) → ConfinesBy of x s (f a)) → ConfinesBy of x s (bind p f)
confines_bind {K} {A} {B} of x s p f h each = record { safe = λ l c keeps. Safe-bind (λ l. Carries x s (of l)) (λ l. Keeps x (of l)) (λ l c (a : A). Keeps x (of l) c) (λ l c (b : B). Keeps x (of l) c) p f l c (h.safe l c keeps) (λ l c a keeps. (each a).safe l c keeps) }

confines_unless : {K A B E : Type 0} (of : K → AuthState) (x : Entry) (s : Settings) (f : A → Proto K (Result B E)) → ((a : A) → ConfinesBy of x s (f a)) → (r : Result A E) → ConfinesBy of x s (unless_refused f r)
confines_unless of x s f each (Ok a) = each a
confines_unless of x s f each (Err e) = confines_done of x s (Err e)

-- a step, and then what it leads to
pub confines_next : {K A B E : Type 0} (of : K → AuthState) (x : Entry) (s : Settings) (p : Proto K (Result A E)) (f : A → Proto K (Result B E)) → ConfinesBy of x s p → ((a : A) → ConfinesBy of x s (f a)) → ConfinesBy of x s (p >>= f)
confines_next of x s p f h each = confines_bind of x s p (unless_refused f) h (confines_unless of x s f each)

-- the client state is read
pub confines_recall : {K A : Type 0} (of : K → AuthState) (x : Entry) (s : Settings) (next : K → Proto K A) → ((k : K) → ConfinesBy of x s (next k)) → ConfinesBy of x s (Recall next)
unfolding Safe
confines_recall {K} {A} of x s next each = record { safe = λ l c keeps. looked l c ((each l).safe l c keeps) } where
  looked : (l : K) (c : List Exchange) → Safe (λ l. Carries x s (of l)) (λ l. Keeps x (of l)) (λ l c (a : A). Keeps x (of l) c) l c (next l) → Safe (λ l. Carries x s (of l)) (λ l. Keeps x (of l)) (λ l c (a : A). Keeps x (of l) c) l c (Recall next)
  looked l c h = h

-- the client state is replaced, with the same credentials and tokens
pub confines_kept : {C A : Type 0} (x : Entry) (s : Settings) (more : C → C) (rest : Proto (AuthState × C) A) → ConfinesBy Beside x s rest → ConfinesBy Beside x s (Recall (λ k. Keep (k.0, more k.1) rest))
unfolding Safe
confines_kept {C} {A} x s more rest h = record { safe = λ l c keeps. stays l c keeps (h.safe (l.0, more l.1) c keeps) } where
  stays : (l : AuthState × C) (c : List Exchange) → Keeps x l.0 c → Safe (λ l. Carries x s (Beside l)) (λ l. Keeps x (Beside l)) (λ l c (a : A). Keeps x (Beside l) c) (l.0, more l.1) c rest → Safe (λ l. Carries x s (Beside l)) (λ l. Keeps x (Beside l)) (λ l c (a : A). Keeps x (Beside l) c) l c (Recall (λ k. Keep (k.0, more k.1) rest))
  stays l c keeps h = (keeps, h)

-- a part without further client state, with any result
pub confines_by : {A : Type 0} (x : Entry) (s : Settings) (Q : AuthState → List Exchange → A → Type 0) (p : Proto AuthState A) → ((l : AuthState) (c : List Exchange) → Keeps x l c → Safe (Carries x s) (Keeps x) Q l c p) → ConfinesBy Alone x s p
confines_by x s Q p h = record { safe = λ l c keeps. Safe-held (Carries x s) (Keeps x) Q p l c (keeps_more x) keeps (h l c keeps) }

-- with further client state, which is unchanged
pub confines_lifted : {C A : Type 0} (x : Entry) (s : Settings) (p : Proto AuthState A) → ConfinesBy Alone x s p → ConfinesBy {K = AuthState × C} Beside x s (lifted p)
confines_lifted {C} {A} x s p h = record { safe = λ l c keeps. Safe-lifted (Carries x s) (Keeps x) (λ l c (a : A). Keeps x l c) p l.0 l.1 c (h.safe l.0 c keeps) }

-- the same for a call
pub confines_call : {K A E : Type 0} {of_memory : E → Bool} (of : K → AuthState) (x : Entry) (s : Settings) {p : Proto K (Result A E)} {old new : Link} {k l : K} {r : Result A E} → of k ≡ x.kept → ConfinesBy of x s p → Meets of_memory p old new k l r → Told (Within x s (of l)) old new
confines_call {K} {A} {E} of x s {k = k} {l = l} begins h met =
    let first : Keeps x (of k) [] = subst (λ m. Keeps x m []) (sym begins) (keeps_first x) in
    Meets-within (Confined x s) (λ l. Keeps x (of l)) (λ l c (r : Result A E). Keeps x (of l) c) (Within x s (of l)) (λ l. keeps_more x (of l)) first (λ c confined keeps. record { confined = confined; kept = keeps.added; stored = keeps.stored }) (h.safe k [] first) met

-- ---- another reference of the same repository

module _ (k : AuthState) (s : Context) (image other : Reference) (handed : Option RegistryAuth) (registry : resolved_registry other ≡ resolved_registry image) (repository : repository_of other ≡ repository_of image) where
  abbrev X : Entry
  X = pulling k s image handed

  abbrev Y : Entry
  Y = pulling k s other handed

  key_same : key_of other Pull ≡ key_of image Pull
  key_same = ap (λ r. under r (repository_of other) Pull) registry ∙ ap (λ p. under (resolved_registry image) p Pull) repository

  auth_same : (a : RegistryAuth) → IsAuth Y a → IsAuth X a
  auth_same a (inl h) = inl (subst (λ r. map.get k.credentials r ≡ Some a) registry h)
  auth_same a (inr h) = inr h

  held_same : (c : List Exchange) (token : RegistryTokenType) → IsHeld Y c token → IsHeld X c token
  held_same c token (inl (a, is, own)) = inl (a, auth_same a is, own)
  held_same c token (inr (inl h)) = inr (inl (subst (λ key. token_at k.tokens key s.moment ≡ Some token) key_same h))
  held_same c token (inr (inr h)) = inr (inr h)

  text_same : (t : Settings) → registry_text t other ≡ registry_text t image
  text_same t = ap (λ r. scheme_for t.protocol r ++ codes "://" ++ r) registry

  base_same : (t : Settings) → base_text t other ≡ base_text t image
  base_same t = ap (λ text. text ++ codes "/v2/") (text_same t)

  realm_same : (service : Option (List ℕ)) (url : Parts) → realm_url other Pull service url ≡ realm_url image Pull service url
  realm_same service url = ap (λ p. with_service service (append_query_pairs url ((codes "scope", codes "repository:" ++ p ++ allowed Pull) ∷ []))) repository

  to_registry : (t : Settings) (request : Request) → ToRegistry t other request → ToRegistry t image request
  to_registry t request h = record { registry = h.registry; url = h.url; registry_is = subst (λ text. request_url text ≡ Some h.registry) (text_same t) h.registry_is; url_is = h.url_is; goes = h.goes }

  to_realm : (t : Settings) (seen : List Exchange) (request : Request) → ToRealm t other Pull seen request → ToRealm t image Pull seen request
  to_realm t seen request h = record {
    before = h.before;
    exchange = h.exchange;
    split = h.split;
    base = h.base;
    base_is = subst (λ text. request_url text ≡ Some h.base) (base_same t) h.base_is;
    asked_by = h.asked_by;
    asked = h.asked;
    answer = h.answer;
    answered = h.answered;
    challenge = h.challenge;
    names = h.names;
    realm = h.realm;
    realm_is = h.realm_is;
    by_get = h.by_get;
    asks = subst (λ url. request.url ≡ serialize url) (realm_same h.challenge.service h.realm) h.asks;
  }

  may_same : (t : Settings) (seen : List Exchange) (request : Request) (value : List ℕ) → MayCarry Y t seen request value → MayCarry X t seen request value
  may_same t seen request value h = record { goes = goes h.goes; token = h.token; held = held_same seen h.token h.held; value_is = h.value_is } where
    goes : ToRegistry t other request ⊎ ToRealm t other Pull seen request → ToRegistry t image request ⊎ ToRealm t image Pull seen request
    goes (inl g) = inl (to_registry t request g)
    goes (inr g) = inr (to_realm t seen request g)

  carries_same : (t : Settings) (l : AuthState) (c : List Exchange) (request : Request) → Carries Y t l c request → Carries X t l c request
  carries_same t l c request h = each_more (MayCarry Y t c request) (MayCarry X t c request) (values_of (codes "authorization") request.headers) (may_same t c request) h

  added_same : (c : List Exchange) (key : Key) (moment : ℕ) (token : RegistryTokenType) → KeptOrAdded Y c key moment token → KeptOrAdded X c key moment token
  added_same c key moment token (inl h) = inl h
  added_same c key moment token (inr h) = inr (h.0 ∙ key_same, held_same c token h.1)

  stored_same : (key : List ℕ) (a : RegistryAuth) → StoredOrHanded Y key a → StoredOrHanded X key a
  stored_same key a (inl h) = inl h
  stored_same key a (inr h) = inr (h.0 ∙ registry, h.1)

  pub keeps_same : (l : AuthState) (c : List Exchange) → Keeps Y l c → Keeps X l c
  keeps_same l c h = record {
    credentials = λ a is. auth_same a (h.credentials a (subst (λ r. map.get l.credentials r ≡ Some a) (sym registry) is));
    tokens = λ token is. held_same c token (h.tokens token (subst (λ key. token_at l.tokens key s.moment ≡ Some token) (sym key_same) is));
    added = λ key moment token is. added_same c key moment token (h.added key moment token is);
    stored = λ registry a is. stored_same registry a (h.stored registry a is);
  }

-- what may be requested for one may be requested for the other
pub confines_same : {K A : Type 0} (of : K → AuthState) (k : AuthState) (s : Context) (image other : Reference) (handed : Option RegistryAuth) → resolved_registry other ≡ resolved_registry image → repository_of other ≡ repository_of image → (t : Settings) (p : Proto K A)
    → ConfinesBy of (pulling k s other handed) t p → ConfinesBy of (pulling k s image handed) t p
confines_same {K} {A} of k s image other handed registry repository t p h = let x = pulling k s image handed in let y = pulling k s other handed in record {
  safe = λ l c keeps. Safe-map (λ l. Carries y t (of l)) (λ l. Carries x t (of l)) (λ l. Keeps y (of l)) (λ l. Keeps x (of l)) (λ l c (a : A). Keeps y (of l) c) (λ l c (a : A). Keeps x (of l) c) p (λ l. carries_same k s image other handed registry repository t (of l)) (λ l. keeps_same k s image other handed registry repository (of l)) (λ l c a h. keeps_same k s image other handed registry repository (of l) c h) l c
      (h.safe l c (keeps_same k s other image handed (sym registry) (sym repository) (of l) c keeps));
}
