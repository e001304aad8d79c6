-- A request that lists no types: when it cannot be built, and where its token goes.
use Rattle.std.proofs.Common.{◌≡◌, ◌⊎◌, inl, inr, ℕ, Bool, true, false, List, [], Option, Some, None, Result, Ok, Err, codes, refl, sym, ap, subst, ◌∙◌}
use Rattle.std.specs.Prelude.{◌&&◌, if◌then◌else◌, ok_or}
use Rattle.std.specs.FinMap as map
use Rattle.url.specs.Parts.{Parts}
use Rattle.oci_transport.specs.Headers.{Fields, added, held, is_header_value, has_room}
use Rattle.oci_transport.specs.declared.message.Exchange.{Exchange}
use Rattle.oci_transport.specs.declared.message.Method.{Method}
use Rattle.oci_transport.specs.declared.message.Request.{Request}
use Rattle.oci_names.specs.declared.reference.Reference.{Reference}
use Rattle.oci_auth.specs.Auth.{authorization_of}
use Rattle.oci_auth.specs.declared.auth.RegistryAuth.{RegistryAuth}
use Rattle.oci_auth.specs.declared.auth_state.AuthState.{AuthState}
use Rattle.oci_auth.specs.declared.token_type.RegistryOperation.TheVariants.{Pull}
use Rattle.oci_auth.specs.declared.token_type.RegistryTokenType.{RegistryTokenType}
use Rattle.oci_protocol.specs.Proto.{Done, unless_refused}
use Rattle.oci_protocol.specs.Ends.{Ends}
use Rattle.oci_protocol.specs.Safe.{Safe}
use Rattle.oci_protocol.specs.EveryRun.{EveryRun, ByResult, WhenOk}
use Rattle.oci_protocol.proofs.Ends.{Ends-bind, Runs-ends}
use Rattle.oci_protocol.proofs.RunFacts.{EveryRun-next, EveryRun-last}
use Rattle.oci_protocol.proofs.Safety.{Safe-bind}
use Rattle.engine_terms.specs.Contexts.{Context}
use Rattle.json_values.specs.Refusals.{◌>>=◌ as ◌into◌}
use Rattle.engine_terms.specs.declared.error.GenericCause.TheVariants.{HeaderText}
use Rattle.engine_terms.specs.declared.error.OciDistributionError.{OciDistributionError}
use Rattle.engine_terms.specs.declared.error.OciDistributionError.TheVariants as refusal
use Rattle.engine_terms.specs.declared.settings.Settings.{Settings}
use Rattle.engine_requests.specs.Addresses.{registry_text}
use Rattle.engine_requests.specs.Requests.{with_header, with_accept, with_token, headers_of, request_of, bare_request}
use Rattle.engine_rows.specs.Answered.{Asks}
use Rattle.engine_rows.specs.Causes.{Act, Reads, BadHeader, IsEarly, IsEarlyRefusal}
use Rattle.engine_rows.specs.Confined.{Each}
use Rattle.engine_rows.specs.Held.{Entry, pulling}
use Rattle.engine_rows.specs.Rows.{authorized}
use Rattle.request_laws.proofs.EarlyCauses.{EarlyCause, Early, authorized_early}
use Rattle.request_laws.proofs.KeptTokens.{Keeps}
use Rattle.request_laws.proofs.PreparedRequests.{with_ok, asks_of}
use Rattle.request_laws.proofs.RequestConfinement.{SentValue, request_values, request_url_is}
use Rattle.request_laws.proofs.ShownTokens.{none_held, one_held, refused_value, into_err, MayShow, MayShowAt, AuthorizedAt, Carries, HeaderCause, Ready, safe_done, sent_by, shown_at, authorized_safe}
use Rattle.engine_pull.specs.Causes.{BadValue}
use Rattle.engine_pull.specs.Listings.{bare}

-- ---- a request that cannot be built

-- it is not the call's first header, or it is that of a token
abbrev Unbuilt : Settings → Option RegistryTokenType → OciDistributionError → Type 0
Unbuilt s token e = (with_header map.empty (codes "user-agent") s.user_agent ≡ Err e)
    ⊎ ((headers : Fields) × (with_header map.empty (codes "user-agent") s.user_agent ≡ Ok headers) × (with_token token headers ≡ Err e))

unbuilt : (s : Settings) (method : Method) (url : Parts) (token : Option RegistryTokenType) (e : OciDistributionError) → request_of s method url None token ≡ Err e → Unbuilt s token e
unfolding request_of
unbuilt s method url token e is = by_headers (into_err (headers_of s None token) (λ headers. Ok (bare_request method url headers)) e is) where
  agent : Result Fields OciDistributionError
  agent = with_header map.empty (codes "user-agent") s.user_agent

  by_listing : (r : Result Fields OciDistributionError) → agent ≡ r → ((r into with_accept None) ≡ Err e) ⊎ ((headers : Fields) × ((r into with_accept None) ≡ Ok headers) × (with_token token headers ≡ Err e)) → Unbuilt s token e
  by_listing (Ok headers) made (inl refused) = absurd (cc refused)
  by_listing (Ok headers) made (inr (listed, same, refused)) = let here : headers ≡ listed = cc same in inr (headers, made, subst (λ (h : Fields). with_token token h ≡ Err e) (sym here) refused)
  by_listing (Err x) made (inl refused) = let here : x ≡ e = cc refused in inl (made ∙ ap Err here)
  by_listing (Err x) made (inr (listed, same, refused)) = absurd (cc same)

  by_headers : (headers_of s None token ≡ Err e) ⊎ ((headers : Fields) × (headers_of s None token ≡ Ok headers) × (Ok (bare_request method url headers) ≡ Err e)) → Unbuilt s token e
  by_headers (inl refused) = by_listing agent refl (into_err (agent into with_accept None) (with_token token) e refused)
  by_headers (inr (headers, made, refused)) = absurd (cc refused)

-- a header is refused for its value, or since there are too many
only_header : (headers : Fields) (name value : List ℕ) (e : OciDistributionError) → with_header headers name value ≡ Err e → e ≡ refusal.GenericError HeaderText
only_header headers name value e = by_test (is_header_value value && has_room headers) where
  by_test : (b : Bool) → (ok_or (if b then Some (added headers name value) else None) (refusal.GenericError HeaderText)) ≡ Err e → e ≡ refusal.GenericError HeaderText
  by_test true is = absurd (cc is)
  by_test false is = cc is

valid : (headers made : Fields) (name value : List ℕ) → with_header headers name value ≡ Ok made → is_header_value value ≡ true
valid headers made name value = by_test (is_header_value value) (has_room headers) where
  by_test : (a b : Bool) → (ok_or (if a && b then Some (added headers name value) else None) (refusal.GenericError HeaderText)) ≡ Ok made → a ≡ true
  by_test true b is = refl
  by_test false b is = absurd (cc is)

token_kind : (token : Option RegistryTokenType) (headers : Fields) (e : OciDistributionError) → with_token token headers ≡ Err e → e ≡ refusal.GenericError HeaderText
token_kind None headers e is = absurd (cc is)
token_kind (Some token) headers e is = only_header headers (codes "authorization") (authorization_of token) e is

built_kind : (s : Settings) (token : Option RegistryTokenType) (e : OciDistributionError) → Unbuilt s token e → e ≡ refusal.GenericError HeaderText
built_kind s token e (inl refused) = only_header map.empty (codes "user-agent") s.user_agent e refused
built_kind s token e (inr (headers, made, refused)) = token_kind token headers e refused

-- the invalid value
bad_token : (x : Entry) (s : Settings) (c : List Exchange) (token : Option RegistryTokenType) (headers : Fields) (e : OciDistributionError) → MayShow x c token → held headers ≡ 1 → with_token token headers ≡ Err e → BadHeader x s [] c
bad_token x s c None headers e shown one is = absurd (cc is)
bad_token x s c (Some token) headers e shown one is = inr (token, shown, refused_value headers (codes "authorization") (authorization_of token) e 1 one refl is)

bad_built : (x : Entry) (s : Settings) (c : List Exchange) (token : Option RegistryTokenType) (e : OciDistributionError) → MayShow x c token → Unbuilt s token e → BadHeader x s [] c
bad_built x s c token e shown (inl refused) = inl (inl (refused_value map.empty (codes "user-agent") s.user_agent e 0 none_held refl refused))
bad_built x s c token e shown (inr (headers, made, refused)) = bad_token x s c token headers e shown (ap held (with_ok map.empty (codes "user-agent") s.user_agent headers made) ∙ one_held s.user_agent) refused

-- a list of no types is valid
pub bad_value : (x : Entry) (s : Settings) (c : List Exchange) → BadHeader x s [] c → BadValue x s c
bad_value x s c (inl (inl agent)) = inl agent
bad_value x s c (inl (inr none)) = absurd (cc none)
bad_value x s c (inr token) = inr token

-- ---- refusals before the request

built_early : (T : Act → Type 0) (s : Settings) (method : Method) (url : Parts) (token : Option RegistryTokenType) (r : Result Request OciDistributionError) → request_of s method url None token ≡ r → Early T r
built_early T s method url token (Ok request) is = tt
built_early T s method url token (Err e) is = subst (EarlyCause T) (sym (built_kind s token e (unbuilt s method url token e is))) tt

module _ (T : Act → Type 0) (s : Context) (image : Reference) (method : Method) (url : Parts) where
  bare_early : T (Reads (registry_text s.settings image)) → Ends (Early T) (bare s image method url)
  unfolding bare Ends
  bare_early here = Ends-bind (Early T) (Early T) (authorized s image Pull url) (unless_refused (λ token. Done (request_of s.settings method url None token))) (authorized_early T s [] image Pull url here) by_token where
    by_token : (r : Result (Option RegistryTokenType) OciDistributionError) → Early T r → Ends {K = AuthState} (Early T) (unless_refused (λ token. Done (request_of s.settings method url None token)) r)
    by_token (Ok token) h = built_early T s.settings method url token (request_of s.settings method url None token) refl
    by_token (Err e) h = h

  any_where : {A : Type 0} (m n : ℕ) (c : List Exchange) (r : Result A OciDistributionError) → WhenOk (λ m c n (a : A). Unit {0}) m c n r
  any_where m n c (Ok a) = tt
  any_where m n c (Err e) = tt

  bare_shows : EveryRun (WhenOk (λ m c n request. Asks s.settings method url None request)) (bare s image method url)
  unfolding bare
  bare_shows = EveryRun-next (λ m c n token. Unit {0}) (λ m c n request. Asks s.settings method url None request) (authorized s image Pull url) (λ token. Done (request_of s.settings method url None token))
      (record { shows = λ k l m n c r run. any_where m n c r })
      (λ m n c token h. EveryRun-last (λ start d o request. Asks s.settings method url None request) (λ start d o e. Unit {0}) (request_of s.settings method url None token) (λ request is o. asks_of s.settings method url None token request is) (λ e is o. tt))

  by_answer : (m n : ℕ) (c : List Exchange) (r : Result Request OciDistributionError) → WhenOk (λ m c n request. Asks s.settings method url None request) m c n r → Early T r → ByResult (λ m c n request. Asks s.settings method url None request) (λ m c n e. EarlyCause T e) m c n r
  by_answer m n c (Ok request) h early = h
  by_answer m n c (Err e) h early = early

  pub bare_causes : T (Reads (registry_text s.settings image)) → EveryRun (ByResult (λ m c n request. Asks s.settings method url None request) (λ m c n e. EarlyCause T e)) (bare s image method url)
  bare_causes here = record { shows = λ k l m n c r run. by_answer m n c r (bare_shows.shows k l m n c r run) (Runs-ends (Early T) (bare s image method url) k l m n c r (bare_early here) run) }

-- ---- where its token goes

bare_ready : (x : Entry) (s : Settings) (method : Method) (url : Parts) (token : Option RegistryTokenType) (l : AuthState) (c : List Exchange) → Keeps x l c → MayShowAt x s url c token → (r : Result Request OciDistributionError) → request_of s method url None token ≡ r → Ready x s [] l c r
bare_ready x s method url token l c keeps shown (Ok request) is = (keeps, subst (Each (SentValue x s c request)) (sym (request_values s method url None token request is)) (sent_by x s url c request token (request_url_is s method url None token request is) shown))
bare_ready x s method url token l c keeps shown (Err e) is = by_cause e (bad_built x s c token e (shown_at x s url c token shown) (unbuilt s method url token e is)) where
  by_cause : (e : OciDistributionError) → BadHeader x s [] c → HeaderCause x s [] c e
  by_cause (refusal.GenericError HeaderText) bad = bad
  by_cause _ bad = tt

pub bare_safe : (s : Context) (image : Reference) (k : AuthState) (handed : Option RegistryAuth) (method : Method) (url : Parts) (l : AuthState) (c : List Exchange) → Keeps (pulling k s image handed) l c → Safe (Carries (pulling k s image handed) s.settings) (Keeps (pulling k s image handed)) (Ready (pulling k s image handed) s.settings []) l c (bare s image method url)
unfolding bare
bare_safe s image k handed method url l c keeps = Safe-bind (Carries x s.settings) (Keeps x) (AuthorizedAt x s.settings [] url) (Ready x s.settings []) (authorized s image Pull url) (unless_refused (λ token. Done (request_of s.settings method url None token))) l c (authorized_safe x s.settings [] url l c keeps) by_token where
  x : Entry
  x = pulling k s image handed

  by_token : (l : AuthState) (c : List Exchange) (r : Result (Option RegistryTokenType) OciDistributionError) → AuthorizedAt x s.settings [] url l c r → Safe (Carries x s.settings) (Keeps x) (Ready x s.settings []) l c (unless_refused (λ token. Done (request_of s.settings method url None token)) r)
  by_token l c (Ok token) h = safe_done x s.settings (Ready x s.settings []) l c _ (bare_ready x s.settings method url token l c h.0 h.1 (request_of s.settings method url None token) refl)
  by_token l c (Err e) h = safe_done x s.settings (Ready x s.settings []) l c _ h

-- ---- an invalid user agent

abbrev AnyText : Act → Type 0
AnyText act = Unit {0}

early_is : (e : OciDistributionError) → EarlyCause AnyText e → IsEarlyRefusal e
early_is (refusal.UrlParseError text) h = h.0
early_is (refusal.GenericError HeaderText) h = tt
early_is refusal.WantOfMemory h = tt
early_is e h = absurd h

agent_refused : (s : Settings) (method : Method) (url : Parts) (token : Option RegistryTokenType) (r : Result Request OciDistributionError) → is_header_value s.user_agent ≡ false → request_of s method url None token ≡ r → IsEarly r
unfolding request_of
agent_refused s method url token r bad = by_agent (with_header map.empty (codes "user-agent") s.user_agent) refl where
  by_agent : (a : Result Fields OciDistributionError) → with_header map.empty (codes "user-agent") s.user_agent ≡ a → (((a into with_accept None) into with_token token) into λ headers. Ok (bare_request method url headers)) ≡ r → IsEarly r
  by_agent (Ok headers) made is = absurd (cc (sym bad ∙ valid map.empty headers (codes "user-agent") s.user_agent made))
  by_agent (Err e) made is = subst IsEarly is (subst IsEarlyRefusal (sym (only_header map.empty (codes "user-agent") s.user_agent e made)) tt)

pub bare_bad : (s : Context) (image : Reference) (method : Method) (url : Parts) → is_header_value s.settings.user_agent ≡ false → Ends IsEarly (bare s image method url)
unfolding bare Ends
bare_bad s image method url bad = Ends-bind (Early AnyText) IsEarly (authorized s image Pull url) (unless_refused (λ token. Done (request_of s.settings method url None token))) (authorized_early AnyText s [] image Pull url tt) by_token where
  by_token : (r : Result (Option RegistryTokenType) OciDistributionError) → Early AnyText r → Ends {K = AuthState} IsEarly (unless_refused (λ token. Done (request_of s.settings method url None token)) r)
  by_token (Ok token) h = agent_refused s.settings method url token (request_of s.settings method url None token) bad refl
  by_token (Err e) h = early_is e h
