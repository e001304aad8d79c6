-- Why a call was refused before its request was made.
use Rattle.std.proofs.Common.{◌≡◌, ℕ, Bool, true, false, List, Option, Some, None, Result, Ok, Err, codes, refl}
use Rattle.std.specs.Prelude.{◌&&◌, if◌then◌else◌, ok_or}
use Rattle.std.specs.FinMap as map
use Rattle.url.specs.Parts.{Parts, serialize}
use Rattle.oci_transport.specs.Headers.{Fields, added, is_header_value, has_room}
use Rattle.oci_transport.specs.Urls.{request_url}
use Rattle.oci_transport.specs.declared.message.Answer.{Answer}
use Rattle.oci_transport.specs.declared.message.Exchange.{Exchange}
use Rattle.oci_transport.specs.declared.message.Method.{Method}
use Rattle.oci_names.specs.declared.reference.Reference.{Reference}
use Rattle.oci_names.specs.Reference.{resolved_registry}
use Rattle.oci_auth.specs.declared.auth.RegistryAuth.{RegistryAuth}
use Rattle.oci_auth.specs.declared.auth_state.AuthState.{AuthState}
use Rattle.oci_auth.specs.Cache.{key_of, token_at}
use Rattle.oci_auth.specs.Auth.{authorization_of}
use Rattle.oci_auth.specs.Kept.{Key}
use Rattle.oci_auth.specs.declared.token_type.RegistryOperation.{RegistryOperation}
use Rattle.oci_auth.specs.declared.token_type.RegistryTokenType.{RegistryTokenType}
use Rattle.oci_protocol.specs.Proto.{Done, bind, unless_refused, ◌>>=◌}
use Rattle.oci_protocol.specs.Ends.{Ends}
use Rattle.oci_protocol.specs.EveryRun.{EveryRun, ByResult, WhenOk}
use Rattle.oci_protocol.proofs.Ends.{Ends-any, Ends-bind, Runs-ends}
use Rattle.engine_terms.specs.Contexts.{Context}
use Rattle.engine_terms.specs.declared.settings.Settings.{Settings}
use Rattle.engine_terms.specs.declared.error.GenericCause.TheVariants.{HeaderText}
use Rattle.engine_terms.specs.declared.error.OciDistributionError.{OciDistributionError}
use Rattle.engine_terms.specs.declared.error.OciDistributionError.TheVariants as refusal
use Rattle.json_values.specs.Refusals.{◌>>=◌ as ◌into◌}
use Rattle.engine_requests.specs.Addresses.{url_or, url_read, registry_text}
use Rattle.engine_requests.specs.Requests.{with_header, with_accept, with_token, headers_of, request_of, bare_request}
use Rattle.engine_rows.specs.Rows.{Row, passed_over, taken, token_step, token_asked, kept_or_asked, token_by, token_for, goes_to, token_where, authorized, prepared, store}
use Rattle.engine_rows.specs.Blobs.{Destination}
use Rattle.engine_rows.specs.Causes.{Act, Reads, Cause, BlobCause}
use Rattle.request_laws.proofs.PreparedRequests.{Prepared, prepared_shows}

-- ---- causes, for any invalid header value

abbrev pub AnyValue : List Exchange → Type 0
AnyValue c = Unit {0}

abbrev pub Loose : (Act → Type 0) → (List ℕ → Answer → OciDistributionError → Type 0) → Settings → List ℕ → List Exchange → ℕ → OciDistributionError → Type 0
Loose T Of s types c now e = Cause T Of AnyValue s c now e

abbrev pub LooseBlob : (Act → Type 0) → Destination → Settings → List ℕ → List Exchange → ℕ → OciDistributionError → Type 0
LooseBlob T to s digest c now e = BlobCause T to AnyValue s digest c now e

-- one of these texts is not a URL, or a value is not a valid header value
abbrev pub EarlyCause : (Act → Type 0) → OciDistributionError → Type 0
EarlyCause T (refusal.UrlParseError text) = (request_url text ≡ None) × T (Reads text)
EarlyCause T (refusal.GenericError HeaderText) = Unit {0}
EarlyCause T refusal.WantOfMemory = Unit {0}
EarlyCause T _ = ⊥

-- an error has such a cause
abbrev pub Early : (Act → Type 0) → {A : Type 0} → Result A OciDistributionError → Type 0
Early T (Ok a) = Unit {0}
Early T (Err e) = EarlyCause T e

url_early : (T : Act → Type 0) (s : Settings) (types text : List ℕ) (o : Option Parts) → T (Reads text) → request_url text ≡ o → Early T (url_or text o)
url_early T s types text (Some url) here is = tt
url_early T s types text None here is = (is, here)

pub read_early : (T : Act → Type 0) (s : Settings) (types text : List ℕ) → T (Reads text) → Early T (url_read text)
read_early T s types text here = url_early T s types text (request_url text) here refl

-- ---- headers

header_early : (T : Act → Type 0) (s : Settings) (types : List ℕ) (headers : Fields) (name value : List ℕ) → Early T (with_header headers name value)
header_early T s types headers name value = by_test (is_header_value value && has_room headers) where
  by_test : (b : Bool) → Early T (ok_or (if b then Some (added headers name value) else None) (refusal.GenericError HeaderText))
  by_test true = tt
  by_test false = tt

accept_early : (T : Act → Type 0) (s : Settings) (types : List ℕ) (listed : Option (List ℕ)) (headers : Fields) → Early T (with_accept listed headers)
accept_early T s types None headers = tt
accept_early T s types (Some kinds) headers = header_early T s types headers (codes "accept") kinds

token_early : (T : Act → Type 0) (s : Settings) (types : List ℕ) (token : Option RegistryTokenType) (headers : Fields) → Early T (with_token token headers)
token_early T s types None headers = tt
token_early T s types (Some token) headers = header_early T s types headers (codes "authorization") (authorization_of token)

into_early : (T : Act → Type 0) {A B : Type 0} (s : Settings) (types : List ℕ) (r : Result A OciDistributionError) (f : A → Result B OciDistributionError) → Early T r → ((a : A) → Early T (f a)) → Early T (r into f)
into_early T s types (Ok a) f h each = each a
into_early T s types (Err e) f h each = h

headers_early : (T : Act → Type 0) (s : Settings) (types : List ℕ) (token : Option RegistryTokenType) → Early T (headers_of s (Some types) token)
headers_early T s types token = into_early T s types (with_header map.empty (codes "user-agent") s.user_agent into with_accept (Some types)) (with_token token) (into_early T s types (with_header map.empty (codes "user-agent") s.user_agent) (with_accept (Some types)) (header_early T s types map.empty (codes "user-agent") s.user_agent) (accept_early T s types (Some types))) (token_early T s types token)

pub request_early : (T : Act → Type 0) (s : Settings) (method : Method) (url : Parts) (types : List ℕ) (token : Option RegistryTokenType) → Early T (request_of s method url (Some types) token)
unfolding request_of
request_early T s method url types token = into_early T s types (headers_of s (Some types) token) (λ headers. Ok (bare_request method url headers)) (headers_early T s types token) (λ headers. tt)

-- ---- rows

unless_early : (T : Act → Type 0) {A B : Type 0} (s : Settings) (types : List ℕ) (f : A → Row B) → ((a : A) → Ends (Early T) (f a)) → (r : Result A OciDistributionError) → Early T r → Ends (Early T) (unless_refused f r)
unfolding Ends
unless_early T s types f each (Ok a) h = each a
unless_early T s types f each (Err e) h = h

next_early : (T : Act → Type 0) {A B : Type 0} (s : Settings) (types : List ℕ) (p : Row A) (f : A → Row B) → Ends (Early T) p → ((a : A) → Ends (Early T) (f a)) → Ends (Early T) (p >>= f)
next_early T s types p f h each = Ends-bind (Early T) (Early T) p (unless_refused f) h (unless_early T s types f each)

done_early : (T : Act → Type 0) {A : Type 0} (s : Settings) (types : List ℕ) (r : Result A OciDistributionError) → Early T r → Ends {K = AuthState} (Early T) (Done r)
unfolding Ends
done_early T s types r h = h

-- the only refusal of the token step is out of memory
over_early : (T : Act → Type 0) (s : Settings) (types : List ℕ) (e : OciDistributionError) → Early T (passed_over e)
over_early T s types refusal.WantOfMemory = tt
over_early T s types _ = tt

taken_early : (T : Act → Type 0) (s : Settings) (types : List ℕ) (moment : ℕ) (key : Key) (r : Result (Option RegistryTokenType) OciDistributionError) → Ends (Early T) (taken moment key r)
unfolding Ends
taken_early T s types moment key (Ok None) = tt
taken_early T s types moment key (Ok (Some token)) = λ k. tt
taken_early T s types moment key (Err e) = over_early T s types e

asked_early : (T : Act → Type 0) (s : Context) (types : List ℕ) (image : Reference) (op : RegistryOperation) (a : RegistryAuth) → Ends (Early T) (token_asked s image op a)
unfolding token_asked
asked_early T s types image op a = Ends-bind (λ r. Unit {0}) (Early T) (token_step s.settings image a op) (taken s.moment (key_of image op)) (Ends-any (λ r. Unit {0}) (token_step s.settings image a op) (λ r. tt)) (λ r h. taken_early T s.settings types s.moment (key_of image op) r)

kept_early : (T : Act → Type 0) (s : Context) (types : List ℕ) (image : Reference) (op : RegistryOperation) (a : RegistryAuth) (kept : Option RegistryTokenType) → Ends (Early T) (kept_or_asked s image op a kept)
kept_early T s types image op a (Some token) = done_early T s.settings types (Ok (Some token)) tt
kept_early T s types image op a None = asked_early T s types image op a

by_early : (T : Act → Type 0) (s : Context) (types : List ℕ) (image : Reference) (op : RegistryOperation) (a : Option RegistryAuth) (kept : Option RegistryTokenType) → Ends (Early T) (token_by s image op a kept)
by_early T s types image op None kept = done_early T s.settings types (Ok None) tt
by_early T s types image op (Some a) kept = kept_early T s types image op a kept

for_early : (T : Act → Type 0) (s : Context) (types : List ℕ) (image : Reference) (op : RegistryOperation) → Ends (Early T) (token_for s image op)
unfolding token_for Ends bind
for_early T s types image op = λ k. by_early T s types image op (map.get k.credentials (resolved_registry image)) (token_at k.tokens (key_of image op) s.moment)

where_early : (T : Act → Type 0) (s : Context) (types : List ℕ) (image : Reference) (op : RegistryOperation) (b : Bool) → Ends (Early T) (token_where s image op b)
where_early T s types image op true = for_early T s types image op
where_early T s types image op false = done_early T s.settings types (Ok None) tt

pub authorized_early : (T : Act → Type 0) (s : Context) (types : List ℕ) (image : Reference) (op : RegistryOperation) (url : Parts) → T (Reads (registry_text s.settings image)) → Ends (Early T) (authorized s image op url)
unfolding authorized
authorized_early T s types image op url here = next_early T s.settings types (Done (url_read (registry_text s.settings image))) _ (done_early T s.settings types _ (read_early T s.settings types (registry_text s.settings image) here)) (λ registry. where_early T s types image op (goes_to (request_url (serialize url)) registry))

prepared_early : (T : Act → Type 0) (s : Context) (image : Reference) (op : RegistryOperation) (method : Method) (url : Parts) (types : List ℕ) → T (Reads (registry_text s.settings image)) → Ends (Early T) (prepared s image op method url types)
unfolding prepared
prepared_early T s image op method url types here = next_early T s.settings types (authorized s image op url) _ (authorized_early T s types image op url here) (λ token. done_early T s.settings types _ (request_early T s.settings method url types token))

store_early : (T : Act → Type 0) (s : Settings) (types : List ℕ) (image : Reference) (a : RegistryAuth) → Ends (Early T) (store image a)
unfolding store Ends bind
store_early T s types image a = λ k. tt

-- P holds for an `Ok`, and an error has its cause
by_answer : (T : Act → Type 0) {A : Type 0} (s : Settings) (types : List ℕ) (P : ℕ → List Exchange → ℕ → A → Type 0) (m n : ℕ) (c : List Exchange) (r : Result A OciDistributionError) → WhenOk P m c n r → Early T r → ByResult P (λ m c n e. EarlyCause T e) m c n r
by_answer T s types P m n c (Ok a) h early = h
by_answer T s types P m n c (Err e) h early = early

early_shows : (T : Act → Type 0) {A : Type 0} (s : Settings) (types : List ℕ) (P : ℕ → List Exchange → ℕ → A → Type 0) (p : Row A) → EveryRun (WhenOk P) p → Ends (Early T) p → EveryRun (ByResult P (λ m c n e. EarlyCause T e)) p
early_shows T s types P p h ends = record { shows = λ k l m n c r run. by_answer T s types P m n c r (h.shows k l m n c r run) (Runs-ends (Early T) p k l m n c r ends run) }

pub prepared_causes : (T : Act → Type 0) (s : Context) (image : Reference) (op : RegistryOperation) (method : Method) (url : Parts) (types : List ℕ) → T (Reads (registry_text s.settings image)) → EveryRun (ByResult (λ m c n request. Prepared s.settings image op method url types c request) (λ m c n e. EarlyCause T e)) (prepared s image op method url types)
prepared_causes T s image op method url types here = early_shows T s.settings types (λ m c n request. Prepared s.settings image op method url types c request) (prepared s image op method url types) (prepared_shows s image op method url types) (prepared_early T s image op method url types here)

any_where : {A : Type 0} (m n : ℕ) (c : List Exchange) (r : Result A OciDistributionError) → WhenOk (λ m c n (a : A). Unit {0}) m c n r
any_where m n c (Ok a) = tt
any_where m n c (Err e) = tt

pub store_causes : (T : Act → Type 0) (s : Settings) (types : List ℕ) (image : Reference) (a : RegistryAuth) → EveryRun (ByResult (λ m c n u. Unit {0}) (λ m c n e. EarlyCause T e)) (store image a)
store_causes T s types image a = early_shows T s types (λ m c n u. Unit {0}) (store image a) (record { shows = λ k l m n c r run. any_where m n c r }) (store_early T s types image a)
