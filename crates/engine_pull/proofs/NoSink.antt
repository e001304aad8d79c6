-- What precedes a blob's request does not fail because of the sink.
use Rattle.std.proofs.Common.{◌≡◌, ℕ, Bool, true, false, List, [], Option, Some, None, Result, Ok, Err, codes, refl, sym, subst, ◌∙◌}
use Rattle.std.specs.Prelude.{MatchBool, if◌then◌else◌, ◌&&◌, ok_or}
use Rattle.std.specs.Result.{IsErrAnd}
use Rattle.std.proofs.lemmas.Result.{err_from_is_err_and}
use Rattle.std.specs.FinMap as map
use Rattle.url.specs.Parts.{Parts, serialize}
use Rattle.byte_streams.specs.SinkState.{SinkState}
use Rattle.oci_transport.specs.Link.{Link}
use Rattle.oci_transport.specs.Urls.{request_url}
use Rattle.oci_transport.specs.Headers.{Fields, added, is_header_value, has_room}
use Rattle.oci_transport.specs.declared.message.Method.{Method}
use Rattle.oci_names.specs.declared.reference.Reference.{Reference}
use Rattle.oci_names.specs.Reference.{resolved_registry}
use Rattle.oci_auth.specs.declared.auth.RegistryAuth.{RegistryAuth}
use Rattle.oci_auth.specs.declared.auth_state.AuthState.{AuthState}
use Rattle.oci_auth.specs.Cache.{key_of, token_at}
use Rattle.oci_auth.specs.Auth.{authorization_of}
use Rattle.oci_auth.specs.Kept.{Key}
use Rattle.oci_auth.specs.declared.token_type.RegistryOperation.{RegistryOperation}
use Rattle.oci_auth.specs.declared.token_type.RegistryTokenType.{RegistryTokenType}
use Rattle.oci_protocol.specs.Proto.{Done, bind, unless_refused, ◌>>=◌}
use Rattle.oci_protocol.specs.Runs.{Meets}
use Rattle.oci_protocol.specs.Ends.{Ends}
use Rattle.oci_protocol.proofs.Ends.{Ends-any, Ends-bind, Meets-ends}
use Rattle.engine_terms.specs.Contexts.{Context}
use Rattle.engine_terms.specs.declared.settings.Settings.{Settings}
use Rattle.engine_terms.specs.declared.error.OciDistributionError.{OciDistributionError}
use Rattle.engine_terms.specs.declared.error.OciDistributionError.TheVariants as refusal
use Rattle.engine_terms.specs.declared.error.GenericCause.TheVariants.{HeaderText}
use Rattle.json_values.specs.Refusals.{◌>>=◌ as ◌into◌}
use Rattle.engine_terms.specs.Error.{is_memory}
use Rattle.engine_requests.specs.Addresses.{url_or, url_read, registry_text}
use Rattle.engine_requests.specs.Requests.{with_header, with_accept, with_token, headers_of, request_of}
use Rattle.engine_rows.specs.Rows.{Row, passed_over, taken, token_step, token_asked, kept_or_asked, token_by, token_for, goes_to, token_where, authorized, prepared}
use Rattle.engine_rows.specs.Blobs.{MeetsIntoSink}
use Rattle.engine_pull.proofs.AttemptSteps.{spills_none}

-- an error is not a fault of the sink
abbrev pub Calm : {A : Type 0} → Result A OciDistributionError → Type 0
Calm (Ok a) = Unit {0}
Calm (Err e) = e ≡ refusal.SinkFault → ⊥

url_calm : (text : List ℕ) (url : Option Parts) → Calm (url_or text url)
url_calm text (Some url) = tt
url_calm text None = λ h. cc

pub read_calm : (text : List ℕ) → Calm (url_read text)
read_calm text = url_calm text (request_url text)

pub into_calm : {A B : Type 0} (r : Result A OciDistributionError) (f : A → Result B OciDistributionError) → Calm r → ((a : A) → Calm (f a)) → Calm (r into f)
into_calm (Ok a) f h each = each a
into_calm (Err e) f h each = h

header_calm : (headers : Fields) (name value : List ℕ) → Calm (with_header headers name value)
header_calm headers name value = by_test (is_header_value value && has_room headers) where
  by_test : (b : Bool) → Calm (ok_or (if b then Some (added headers name value) else None) (refusal.GenericError HeaderText))
  by_test true = tt
  by_test false = λ h. cc

accept_calm : (types : Option (List ℕ)) (headers : Fields) → Calm (with_accept types headers)
accept_calm None headers = tt
accept_calm (Some types) headers = header_calm headers (codes "accept") types

token_calm : (token : Option RegistryTokenType) (headers : Fields) → Calm (with_token token headers)
token_calm None headers = tt
token_calm (Some token) headers = header_calm headers (codes "authorization") (authorization_of token)

headers_calm : (s : Settings) (types : Option (List ℕ)) (token : Option RegistryTokenType) → Calm (headers_of s types token)
headers_calm s types token = into_calm (with_header map.empty (codes "user-agent") s.user_agent into with_accept types) (with_token token) (into_calm (with_header map.empty (codes "user-agent") s.user_agent) (with_accept types) (header_calm map.empty (codes "user-agent") s.user_agent) (accept_calm types)) (token_calm token)

pub request_calm : (s : Settings) (method : Method) (url : Parts) (types : Option (List ℕ)) (token : Option RegistryTokenType) → Calm (request_of s method url types token)
unfolding request_of
request_calm s method url types token = into_calm (headers_of s types token) _ (headers_calm s types token) (λ headers. tt)

unless_calm : {A B : Type 0} (f : A → Row B) → ((a : A) → Ends Calm (f a)) → (r : Result A OciDistributionError) → Calm r → Ends Calm (unless_refused f r)
unfolding Ends
unless_calm f each (Ok a) h = each a
unless_calm f each (Err e) h = h

-- a step, and then what it leads to
pub next_calm : {A B : Type 0} (p : Row A) (f : A → Row B) → Ends Calm p → ((a : A) → Ends Calm (f a)) → Ends Calm (p >>= f)
next_calm p f h each = Ends-bind Calm Calm p (unless_refused f) h (unless_calm f each)

pub done_calm : {A : Type 0} (r : Result A OciDistributionError) → Calm r → Ends {K = AuthState} Calm (Done r)
unfolding Ends
done_calm r h = h

over_calm : (e : OciDistributionError) → Calm (passed_over e)
over_calm refusal.WantOfMemory = λ h. cc
over_calm _ = tt

taken_calm : (moment : ℕ) (key : Key) (r : Result (Option RegistryTokenType) OciDistributionError) → Ends Calm (taken moment key r)
unfolding Ends
taken_calm moment key (Ok None) = tt
taken_calm moment key (Ok (Some token)) = λ k. tt
taken_calm moment key (Err e) = over_calm e

asked_calm : (s : Context) (image : Reference) (op : RegistryOperation) (a : RegistryAuth) → Ends Calm (token_asked s image op a)
unfolding token_asked
asked_calm s image op a = Ends-bind (λ r. Unit {0}) Calm (token_step s.settings image a op) (taken s.moment (key_of image op)) (Ends-any (λ r. Unit {0}) (token_step s.settings image a op) (λ r. tt)) (λ r h. taken_calm s.moment (key_of image op) r)

kept_calm : (s : Context) (image : Reference) (op : RegistryOperation) (a : RegistryAuth) (kept : Option RegistryTokenType) → Ends Calm (kept_or_asked s image op a kept)
kept_calm s image op a (Some token) = done_calm (Ok (Some token)) tt
kept_calm s image op a None = asked_calm s image op a

by_calm : (s : Context) (image : Reference) (op : RegistryOperation) (a : Option RegistryAuth) (kept : Option RegistryTokenType) → Ends Calm (token_by s image op a kept)
by_calm s image op None kept = done_calm (Ok None) tt
by_calm s image op (Some a) kept = kept_calm s image op a kept

for_calm : (s : Context) (image : Reference) (op : RegistryOperation) → Ends Calm (token_for s image op)
unfolding token_for Ends bind
for_calm s image op = λ k. by_calm s image op (map.get k.credentials (resolved_registry image)) (token_at k.tokens (key_of image op) s.moment)

where_calm : (s : Context) (image : Reference) (op : RegistryOperation) (b : Bool) → Ends Calm (token_where s image op b)
where_calm s image op true = for_calm s image op
where_calm s image op false = done_calm (Ok None) tt

authorized_calm : (s : Context) (image : Reference) (op : RegistryOperation) (url : Parts) → Ends Calm (authorized s image op url)
unfolding authorized
authorized_calm s image op url = next_calm (Done (url_read (registry_text s.settings image))) _ (done_calm _ (read_calm (registry_text s.settings image))) (λ registry. where_calm s image op (goes_to (request_url (serialize url)) registry))

pub prepared_calm : (s : Context) (image : Reference) (op : RegistryOperation) (method : Method) (url : Parts) (types : List ℕ) → Ends Calm (prepared s image op method url types)
unfolding prepared
prepared_calm s image op method url types = next_calm (authorized s image op url) _ (authorized_calm s image op url) (λ token. done_calm _ (request_calm s.settings method url (Some types) token))

is_calm : (e : OciDistributionError) → MatchBool (is_memory e) (Unit {0}) (e ≡ refusal.SinkFault → ⊥) → e ≡ refusal.SinkFault → ⊥
is_calm e h is = (rw is at h) refl

-- a step before it returned an error, with nothing written
pub spills_refused : {A : Type 0} {p : Row A} (f : A → Row (List ℕ)) {old new : Link} {k l : AuthState} {e : OciDistributionError} {r : Result Unit OciDistributionError} (sink_state : SinkState) → Ends Calm p → Meets is_memory p old new k l (Err e) → Meets is_memory (p >>= f) old new k l (Err e) → IsErrAnd r (λ x. x ≡ e) → MeetsIntoSink (p >>= f) old new k l sink_state sink_state r
spills_refused f {e = e} {r = r} sink_state calm met all is = let at = err_from_is_err_and r is in rw (at.1, at.2) (spills_none sink_state all (λ h. let sink : e ≡ refusal.SinkFault = cc in absurd (is_calm e (Meets-ends Calm calm met) sink)))
