-- The requests that can be built, and how a response of status 200 is received.
use Rattle.std.specs.Prelude.{codes, nat_lt, sum_by, unwrap_or, IsTrue, if◌then◌else◌, ok_or}
use Rattle.std.specs.FinMap as map
use Rattle.std.specs.FinMap.{entries-insert, get-empty, get-insert, put}
use Rattle.std.specs.Cmp.Lexicographic.{nat_list_cmp_total}
use Rattle.std.proofs.Common.{◌≡◌, ◌≤◌, ℕ, true, ◌&&◌, List, [], ◌∷◌, ◌++◌, length, Option, Some, None, Result, Ok, Err, refl, sym, ap, ◌∙◌, subst}
use Rattle.std.proofs.lemmas.Bool.{le-ltb}
use Rattle.url.specs.Parts.{Parts, serialize}
use Rattle.json_values.specs.Places.{by_bytes}
use Rattle.oci_transport.specs.Headers.{Fields, values_of, added, held, is_header_value, has_room}
use Rattle.oci_transport.specs.Urls.{request_url}
use Rattle.oci_transport.specs.declared.message.Request.{Request}
use Rattle.oci_transport.specs.declared.message.Answer.{Answer}
use Rattle.oci_transport.specs.declared.message.Method.{Method}
use Rattle.oci_auth.specs.Auth.{authorization_of}
use Rattle.oci_auth.specs.declared.token_type.RegistryTokenType.{RegistryTokenType}
use Rattle.oci_protocol.specs.Proto.{Within, Answered, TooLong}
use Rattle.oci_protocol.specs.Evaluation.{reply_of}
use Rattle.oci_link.specs.PlainPaths.{PlainPath}
use Rattle.oci_link.specs.declared.shelf.Shelf.{Shelf}
use Rattle.engine_terms.specs.declared.error.OciDistributionError.TheVariants as refusal
use Rattle.engine_terms.specs.declared.error.GenericCause.TheVariants.{HeaderText}
use Rattle.engine_terms.specs.declared.settings.Settings.{Settings}
use Rattle.engine_requests.specs.Addresses.{url_or, url_read}
use Rattle.engine_requests.specs.Requests.{with_header, with_token, request_of}
use Rattle.shelf_laws.specs.EvaluatesWith.{Yields}
use Rattle.shelf_laws.specs.IsHosted.{base_of, IsHosted}
use Rattle.shelf_laws.proofs.ShelfRedirects.{no_entries, none_held}
use Rattle.shelf_laws.proofs.Places.{reads_at}

pub yields_ok : {A E : Type 0} (P : A → Type 0) (r : Result A E) (a : A) → r ≡ Ok a → P a → Yields P r
yields_ok P r a is h = subst (Yields P) (sym is) h

-- ---- there is room for the headers

agent_entries : (name : List ℕ) → map.entries (added map.empty (codes "user-agent") name) ≡ (codes "user-agent", name ∷ []) ∷ []
agent_entries name =
    entries-insert nat_list_cmp_total map.empty (codes "user-agent") (values_of (codes "user-agent") map.empty ++ name ∷ []) ∙ ap (λ (es : List (List ℕ × List (List ℕ))). put by_bytes (codes "user-agent") (values_of (codes "user-agent") map.empty ++ name ∷ []) es) no_entries
    ∙ ap (λ (o : Option (List (List ℕ))). (codes "user-agent", unwrap_or o [] ++ name ∷ []) ∷ []) (get-empty by_bytes (codes "user-agent"))

one_held : (name : List ℕ) → held (added map.empty (codes "user-agent") name) ≡ 1
one_held name = ap (λ (es : List (List ℕ × List (List ℕ))). sum_by (λ e. length e.1) es) (agent_entries name)

accept_none : (name : List ℕ) → values_of (codes "accept") (added map.empty (codes "user-agent") name) ≡ []
accept_none name =
    ap (λ (o : Option (List (List ℕ))). unwrap_or o []) (get-insert nat_list_cmp_total map.empty (codes "user-agent") (values_of (codes "user-agent") map.empty ++ name ∷ []) (codes "accept") ∙ get-empty by_bytes (codes "accept"))

two_held : (name types : List ℕ) → held (added (added map.empty (codes "user-agent") name) (codes "accept") types) ≡ 2
two_held name types =
    let m = added map.empty (codes "user-agent") name in
    ap (λ (es : List (List ℕ × List (List ℕ))). sum_by (λ e. length e.1) es) (entries-insert nat_list_cmp_total m (codes "accept") (values_of (codes "accept") m ++ types ∷ []))
    ∙ ap (λ (es : List (List ℕ × List (List ℕ))). sum_by (λ (e : List ℕ × List (List ℕ)). length e.1) (put by_bytes (codes "accept") (values_of (codes "accept") m ++ types ∷ []) es)) (agent_entries name)
    ∙ ap (λ (xs : List (List ℕ)). sum_by (λ (e : List ℕ × List (List ℕ)). length e.1) (put by_bytes (codes "accept") (xs ++ types ∷ []) ((codes "user-agent", name ∷ []) ∷ []))) (accept_none name)

header_ok : (headers : Fields) (name value : List ℕ) (n : ℕ) → is_header_value value ≡ true → held headers ≡ n → nat_lt n 1000 ≡ true → with_header headers name value ≡ Ok (added headers name value)
header_ok headers name value n good few small =
    ap (λ b. ok_or (if b && has_room headers then Some (added headers name value) else None) (refusal.GenericError HeaderText)) good
    ∙ ap (λ k. ok_or (if nat_lt k 1000 then Some (added headers name value) else None) (refusal.GenericError HeaderText)) few
    ∙ ap (λ b. ok_or (if b then Some (added headers name value) else None) (refusal.GenericError HeaderText)) small

-- ---- requests

-- a token, if there is one, that is a valid header value
abbrev pub CanStand : Option RegistryTokenType → Type 0
CanStand None = Unit {0}
CanStand (Some token) = is_header_value (authorization_of token) ≡ true

-- the request has this method and this URL
pub record IsFor (method : Method) (text : List ℕ) (request : Request) : Type 0 where
  pub method_is : request.method ≡ method
  pub url_is : request.url ≡ text

token_ok : (headers : Fields) (token : Option RegistryTokenType) → held headers ≡ 2 → CanStand token → (made : Fields) × (with_token token headers ≡ Ok made)
token_ok headers None few can = (headers, refl)
token_ok headers (Some token) few can = (added headers (codes "authorization") (authorization_of token), header_ok headers (codes "authorization") (authorization_of token) 2 can few refl)

-- a request for a document or a blob
pub request_made : (s : Settings) (method : Method) (url : Parts) (types : List ℕ) (token : Option RegistryTokenType) → IsTrue (is_header_value s.user_agent) → is_header_value types ≡ true → CanStand token → Yields (IsFor method (serialize url)) (request_of s method url (Some types) token)
unfolding request_of
request_made s method url types token agent listed can =
    let agent_in = added map.empty (codes "user-agent") s.user_agent in
    let types_in = added agent_in (codes "accept") types in
    let made = token_ok types_in token (two_held s.user_agent types) can in
    rw (header_ok map.empty (codes "user-agent") s.user_agent 0 agent none_held refl, header_ok agent_in (codes "accept") types 1 listed (one_held s.user_agent) refl, made.1) (record { method_is = refl; url_is = refl })

-- a request that lists no types and contains no token
pub bare_made : (s : Settings) (method : Method) (url : Parts) → IsTrue (is_header_value s.user_agent) → Yields (IsFor method (serialize url)) (request_of s method url None None)
unfolding request_of
bare_made s method url agent = rw (header_ok map.empty (codes "user-agent") s.user_agent 0 agent none_held refl) (record { method_is = refl; url_is = refl })

-- ---- URLs

-- the URL has this text, and the registry's scheme, host and port
pub record IsUrl (text : List ℕ) (registry url : Parts) : Type 0 where
  pub text_is : serialize url ≡ text
  pub reads : request_url text ≡ Some url
  pub scheme : url.scheme ≡ registry.scheme
  pub host : url.host ≡ registry.host
  pub port : url.port ≡ registry.port

pub url_reads : {s : Settings} {registry : List ℕ} {shelf : Shelf} (home : IsHosted s registry shelf) (text path : List ℕ) → text ≡ base_of s registry ++ path → PlainPath path → Yields (IsUrl (base_of s registry ++ path) home.written.url) (url_read text)
url_reads {s} {registry} home text path is plain =
    let read = reads_at home path plain in
    yields_ok (IsUrl (base_of s registry ++ path) home.written.url) (url_read text) read.read (ap url_read is ∙ ap (url_or (base_of s registry ++ path)) read.reads) (record { text_is = read.same_text; reads = read.reads; scheme = read.scheme; host = read.host; port = read.port })

-- a body that is not too long
pub within_reads : (limit : ℕ) (answer : Answer) → length answer.body ≤ limit → reply_of (Within limit) answer ≡ Answered answer
within_reads limit answer le = ap (λ b. if b then TooLong else Answered answer) (le-ltb limit (length answer.body) le)
