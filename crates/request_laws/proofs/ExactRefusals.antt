-- Which calls are refused before a request is made.
use Rattle.std.proofs.Common.{◌≡◌, inl, inr, ℕ, Bool, true, false, List, Option, Some, None, Result, Ok, Err, codes, refl, sym, ap, subst, ◌∙◌}
use Rattle.std.specs.Prelude.{MatchBool, ◌&&◌, if◌then◌else◌, ok_or}
use Rattle.std.specs.FinMap as map
use Rattle.url.specs.Parts.{Parts}
use Rattle.byte_streams.specs.SinkState.{SinkState}
use Rattle.oci_transport.specs.Headers.{Fields, added, is_header_value, has_room}
use Rattle.oci_transport.specs.Link.{Link}
use Rattle.oci_transport.specs.Urls.{request_url}
use Rattle.oci_transport.specs.declared.message.Method.{Method}
use Rattle.oci_transport.specs.declared.message.Method.TheVariants.{Get, Head}
use Rattle.oci_names.specs.declared.reference.Reference.{Reference}
use Rattle.oci_auth.specs.declared.auth.RegistryAuth.{RegistryAuth}
use Rattle.oci_auth.specs.declared.auth_state.AuthState.{AuthState}
use Rattle.oci_auth.specs.declared.token_type.RegistryOperation.{RegistryOperation}
use Rattle.oci_auth.specs.declared.token_type.RegistryOperation.TheVariants.{Pull}
use Rattle.oci_auth.specs.declared.token_type.RegistryTokenType.{RegistryTokenType}
use Rattle.oci_protocol.specs.Proto.{Done, bind, unless_refused, ◌>>=◌, ◌>>◌}
use Rattle.oci_protocol.specs.Runs.{Meets}
use Rattle.oci_protocol.specs.Ends.{Ends, UnlessMemory}
use Rattle.oci_protocol.proofs.Ends.{Ends-bind, Meets-ends}
use Rattle.engine_terms.specs.Contexts.{Context}
use Rattle.engine_requests.specs.Sources.{Layer, places_of}
use Rattle.engine_terms.specs.declared.settings.Settings.{Settings}
use Rattle.engine_terms.specs.declared.error.GenericCause.TheVariants.{HeaderText}
use Rattle.engine_terms.specs.declared.error.OciDistributionError.{OciDistributionError}
use Rattle.engine_terms.specs.declared.error.OciDistributionError.TheVariants as refusal
use Rattle.json_values.specs.Refusals.{◌>>=◌ as ◌into◌}
use Rattle.engine_terms.specs.Error.{is_memory}
use Rattle.engine_requests.specs.Addresses.{manifest_text, blob_text, url_or, url_read}
use Rattle.engine_requests.specs.Requests.{with_header, with_accept, with_token, headers_of, request_of, bare_request, manifest_types}
use Rattle.engine_rows.specs.Rows.{Row, store, authorized, prepared, named_after}
use Rattle.engine_rows.specs.Blobs.{Destination, MeetsIntoSink, filled}
use Rattle.engine_rows.specs.Offers.{tried}
use Rattle.engine_rows.specs.Pulls.{document, digest_by, manifest_document, pull_manifest_raw, fetch_manifest_digest, pull_manifest, blob_to}
use Rattle.engine_rows.specs.Image.{pull}
use Rattle.engine_rows.specs.Manifests.{pull_image_manifest_and_list_digest, pull_image_manifest, pull_manifest_and_config_and_list_digest, pull_manifest_and_config}
use Rattle.engine_rows.specs.Causes.{Act, IsEarly, IsEarlyRefusal, HasBadHeader, IsRefusedAs}
use Rattle.request_laws.proofs.EarlyCauses.{Early, EarlyCause, authorized_early}

-- ---- a malformed URL

-- the refusal, and no other
abbrev pub Only : OciDistributionError → {A : Type 0} → Result A OciDistributionError → Type 0
Only e r = r ≡ Err e

pub after_refusal : {A B : Type 0} (e : OciDistributionError) (f : A → Row B) (r : Result A OciDistributionError) → r ≡ Err e → Ends (Only e) (unless_refused f r)
unfolding Ends
after_refusal e f (Ok a) is = absurd (cc is)
after_refusal {B = B} e f (Err x) is = same x e (cc is) where
  same : (x e : OciDistributionError) → x ≡ e → ◌≡◌ {A = Result B OciDistributionError} (Err x) (Err e)
  same x e is = ap Err is

pub handed_on : {A B : Type 0} (e : OciDistributionError) (p : Row A) (f : A → Row B) → Ends (Only e) p → Ends (Only e) (p >>= f)
handed_on e p f h = Ends-bind (Only e) (Only e) p (unless_refused f) h (after_refusal e f)

pub no_url : {B : Type 0} (text : List ℕ) (f : Parts → Row B) → request_url text ≡ None → Ends (Only (refusal.UrlParseError text)) (Done (url_read text) >>= f)
unfolding Ends bind
no_url text f none = after_refusal (refusal.UrlParseError text) f (url_read text) (ap (url_or text) none)

stored_before : {B : Type 0} (Q : Result B OciDistributionError → Type 0) (image : Reference) (a : RegistryAuth) (p : Row B) → Ends Q p → Ends Q (store image a >> p)
unfolding store Ends bind
stored_before Q image a p h = λ k. h

pub raw_url : (s : Context) (image : Reference) (a : RegistryAuth) (types : List ℕ) → request_url (manifest_text s.settings image) ≡ None → Ends (Only (refusal.UrlParseError (manifest_text s.settings image))) (pull_manifest_raw s image a types)
unfolding pull_manifest_raw manifest_document
raw_url s image a types none = stored_before (Only (refusal.UrlParseError (manifest_text s.settings image))) image a (Done (url_read (manifest_text s.settings image)) >>= λ url. document s image url types) (no_url (manifest_text s.settings image) (λ url. document s image url types) none)

pub digest_url : (s : Context) (image : Reference) (a : RegistryAuth) → request_url (manifest_text s.settings image) ≡ None → Ends (Only (refusal.UrlParseError (manifest_text s.settings image))) (fetch_manifest_digest s image a)
unfolding fetch_manifest_digest
digest_url s image a none = stored_before (Only (refusal.UrlParseError (manifest_text s.settings image))) image a (Done (url_read (manifest_text s.settings image)) >>= λ url. prepared s image Pull Head url manifest_types >>= λ request. named_after 10 request s.settings.max_body_bytes >>= λ x. digest_by s image url x)
    (no_url (manifest_text s.settings image) (λ url. prepared s image Pull Head url manifest_types >>= λ request. named_after 10 request s.settings.max_body_bytes >>= λ x. digest_by s image url x) none)

pub manifest_url : (s : Context) (image : Reference) (a : RegistryAuth) → request_url (manifest_text s.settings image) ≡ None → Ends (Only (refusal.UrlParseError (manifest_text s.settings image))) (pull_manifest s image a)
unfolding pull_manifest
manifest_url s image a none = handed_on (refusal.UrlParseError (manifest_text s.settings image)) (pull_manifest_raw s image a manifest_types) _ (raw_url s image a manifest_types none)

pub found_url : (s : Context) (image : Reference) (a : RegistryAuth) → request_url (manifest_text s.settings image) ≡ None → Ends (Only (refusal.UrlParseError (manifest_text s.settings image))) (pull_image_manifest_and_list_digest s image a)
unfolding pull_image_manifest_and_list_digest
found_url s image a none = handed_on (refusal.UrlParseError (manifest_text s.settings image)) (pull_manifest s image a) _ (manifest_url s image a none)

pub one_url : (s : Context) (image : Reference) (a : RegistryAuth) → request_url (manifest_text s.settings image) ≡ None → Ends (Only (refusal.UrlParseError (manifest_text s.settings image))) (pull_image_manifest s image a)
unfolding pull_image_manifest
one_url s image a none = handed_on (refusal.UrlParseError (manifest_text s.settings image)) (pull_image_manifest_and_list_digest s image a) _ (found_url s image a none)

pub config_url : (s : Context) (image : Reference) (a : RegistryAuth) → request_url (manifest_text s.settings image) ≡ None → Ends (Only (refusal.UrlParseError (manifest_text s.settings image))) (pull_manifest_and_config_and_list_digest s image a)
unfolding pull_manifest_and_config_and_list_digest
config_url s image a none = handed_on (refusal.UrlParseError (manifest_text s.settings image)) (pull_image_manifest_and_list_digest s image a) _ (found_url s image a none)

pub text_url : (s : Context) (image : Reference) (a : RegistryAuth) → request_url (manifest_text s.settings image) ≡ None → Ends (Only (refusal.UrlParseError (manifest_text s.settings image))) (pull_manifest_and_config s image a)
unfolding pull_manifest_and_config
text_url s image a none = handed_on (refusal.UrlParseError (manifest_text s.settings image)) (pull_manifest_and_config_and_list_digest s image a) _ (config_url s image a none)

pub image_url : (s : Context) (image : Reference) (a : RegistryAuth) (accepted : List (List ℕ)) → request_url (manifest_text s.settings image) ≡ None → Ends (Only (refusal.UrlParseError (manifest_text s.settings image))) (pull s image a accepted)
unfolding pull
image_url s image a accepted none = handed_on (refusal.UrlParseError (manifest_text s.settings image)) (pull_image_manifest_and_list_digest s image a) _ (found_url s image a none)

pub blob_url : (to : Destination) (s : Context) (image : Reference) (layer : Layer) → request_url (blob_text s.settings image layer.digest) ≡ None → Ends (Only (refusal.UrlParseError (blob_text s.settings image layer.digest))) (blob_to to s image layer)
unfolding blob_to
blob_url to s image layer none = no_url (blob_text s.settings image layer.digest) (λ url. prepared s image Pull Get url manifest_types >>= λ request. tried to s.settings layer.digest (places_of layer.urls) request) none

-- ---- an invalid header value

not_made : (headers : Fields) (name value : List ℕ) (r : Result Fields OciDistributionError) → is_header_value value ≡ false → with_header headers name value ≡ r → r ≡ Err (refusal.GenericError HeaderText)
not_made headers name value r bad is = sym is ∙ ap (λ b. ok_or (if b && has_room headers then Some (added headers name value) else None) (refusal.GenericError HeaderText)) bad

-- a request with such values cannot be built
unmade : {A : Type 0} (r : Result Fields OciDistributionError) → ◌≡◌ {A = Result Fields OciDistributionError} r (Err (refusal.GenericError HeaderText)) → (f : Fields → Result A OciDistributionError) → (r into f) ≡ Err (refusal.GenericError HeaderText)
unmade (Ok headers) is f = absurd (cc is)
unmade (Err e) is f = let same : e ≡ refusal.GenericError HeaderText = cc is in ap (λ (x : OciDistributionError). Err x) same

bad_types : (types : List ℕ) (r : Result Fields OciDistributionError) → is_header_value types ≡ false → (is_refused : (e : OciDistributionError) → r ≡ Err e → e ≡ refusal.GenericError HeaderText) → (r into with_accept (Some types)) ≡ Err (refusal.GenericError HeaderText)
bad_types types (Ok headers) bad other = not_made headers (codes "accept") types (with_accept (Some types) headers) bad refl
bad_types types (Err e) bad other = ap (λ (x : OciDistributionError). Err x) (other e refl)

bad_agent : (types : List ℕ) (r : Result Fields OciDistributionError) → ◌≡◌ {A = Result Fields OciDistributionError} r (Err (refusal.GenericError HeaderText)) → (r into with_accept (Some types)) ≡ Err (refusal.GenericError HeaderText)
bad_agent types (Ok headers) is = absurd (cc is)
bad_agent types (Err e) is = is

header_kind : (headers : Fields) (name value : List ℕ) (e : OciDistributionError) → with_header headers name value ≡ Err e → e ≡ refusal.GenericError HeaderText
header_kind headers name value e = by_test (is_header_value value && has_room headers) where
  by_test : (b : Bool) → (ok_or (if b then Some (added headers name value) else None) (refusal.GenericError HeaderText)) ≡ Err e → e ≡ refusal.GenericError HeaderText
  by_test true is = absurd (cc is)
  by_test false is = cc is

listing_bad : (s : Settings) (types : List ℕ) → HasBadHeader s types → (with_header map.empty (codes "user-agent") s.user_agent into with_accept (Some types)) ≡ Err (refusal.GenericError HeaderText)
listing_bad s types (inl bad) = bad_agent types (with_header map.empty (codes "user-agent") s.user_agent) (not_made map.empty (codes "user-agent") s.user_agent (with_header map.empty (codes "user-agent") s.user_agent) bad refl)
listing_bad s types (inr bad) = bad_types types (with_header map.empty (codes "user-agent") s.user_agent) bad (header_kind map.empty (codes "user-agent") s.user_agent)

headers_bad : (s : Settings) (types : List ℕ) (token : Option RegistryTokenType) → HasBadHeader s types → headers_of s (Some types) token ≡ Err (refusal.GenericError HeaderText)
headers_bad s types token bad = unmade (with_header map.empty (codes "user-agent") s.user_agent into with_accept (Some types)) (listing_bad s types bad) (with_token token)

request_bad : (s : Settings) (method : Method) (url : Parts) (types : List ℕ) (token : Option RegistryTokenType) → HasBadHeader s types → request_of s method url (Some types) token ≡ Err (refusal.GenericError HeaderText)
unfolding request_of
request_bad s method url types token bad = unmade (headers_of s (Some types) token) (headers_bad s types token bad) (λ headers. Ok (bare_request method url headers))

-- for any text
abbrev AnyText : Act → Type 0
AnyText act = Unit {0}

early_is : (s : Settings) (types : List ℕ) (e : OciDistributionError) → EarlyCause AnyText e → IsEarlyRefusal e
early_is s types (refusal.UrlParseError text) h = h.0
early_is s types (refusal.GenericError HeaderText) h = tt
early_is s types refusal.WantOfMemory h = tt
early_is s types e h = absurd h

-- after a step that may be refused early
unless_early : {A B : Type 0} (s : Settings) (types : List ℕ) (f : A → Row B) → ((a : A) → Ends IsEarly (f a)) → (r : Result A OciDistributionError) → Early AnyText r → Ends IsEarly (unless_refused f r)
unfolding Ends
unless_early s types f each (Ok a) h = each a
unless_early s types f each (Err e) h = early_is s types e h

-- after a refusal
unless_refusal : {A B : Type 0} (f : A → Row B) (r : Result A OciDistributionError) → IsEarly r → Ends IsEarly (unless_refused f r)
unfolding Ends
unless_refusal f (Ok a) h = absurd h
unless_refusal f (Err e) h = h

pub early_on : {A B : Type 0} (p : Row A) (f : A → Row B) → Ends IsEarly p → Ends IsEarly (p >>= f)
early_on p f h = Ends-bind IsEarly IsEarly p (unless_refused f) h (unless_refusal f)

done_bad : (s : Settings) (method : Method) (url : Parts) (types : List ℕ) (token : Option RegistryTokenType) → HasBadHeader s types → Ends {K = AuthState} IsEarly (Done (request_of s method url (Some types) token))
unfolding Ends
done_bad s method url types token bad = subst IsEarly (sym (request_bad s method url types token bad)) tt

pub prepared_bad : (s : Context) (image : Reference) (op : RegistryOperation) (method : Method) (url : Parts) (types : List ℕ) → HasBadHeader s.settings types → Ends IsEarly (prepared s image op method url types)
unfolding prepared
prepared_bad s image op method url types bad = Ends-bind (Early AnyText) IsEarly (authorized s image op url) (unless_refused (λ token. Done (request_of s.settings method url (Some types) token))) (authorized_early AnyText s types image op url tt) (unless_early s.settings types (λ token. Done (request_of s.settings method url (Some types) token)) (λ token. done_bad s.settings method url types token bad))

by_url : {B : Type 0} (text : List ℕ) (f : Parts → Row B) (o : Option Parts) → request_url text ≡ o → ((url : Parts) → Ends IsEarly (f url)) → Ends IsEarly (unless_refused f (url_or text o))
unfolding Ends
by_url text f (Some url) is each = each url
by_url text f None is each = is

pub url_first : {B : Type 0} (text : List ℕ) (f : Parts → Row B) → ((url : Parts) → Ends IsEarly (f url)) → Ends IsEarly (Done (url_read text) >>= f)
unfolding bind
url_first text f each = by_url text f (request_url text) refl each

pub raw_bad : (s : Context) (image : Reference) (a : RegistryAuth) (types : List ℕ) → HasBadHeader s.settings types → Ends IsEarly (pull_manifest_raw s image a types)
unfolding pull_manifest_raw manifest_document document
raw_bad s image a types bad = stored_before IsEarly image a (Done (url_read (manifest_text s.settings image)) >>= λ url. document s image url types) (url_first (manifest_text s.settings image) (λ url. document s image url types) (λ url. early_on (prepared s image Pull Get url types) _ (prepared_bad s image Pull Get url types bad)))

pub digest_bad : (s : Context) (image : Reference) (a : RegistryAuth) → HasBadHeader s.settings manifest_types → Ends IsEarly (fetch_manifest_digest s image a)
unfolding fetch_manifest_digest
digest_bad s image a bad = stored_before IsEarly image a (Done (url_read (manifest_text s.settings image)) >>= λ url. prepared s image Pull Head url manifest_types >>= λ request. named_after 10 request s.settings.max_body_bytes >>= λ x. digest_by s image url x)
    (url_first (manifest_text s.settings image) (λ url. prepared s image Pull Head url manifest_types >>= λ request. named_after 10 request s.settings.max_body_bytes >>= λ x. digest_by s image url x) (λ url. early_on (prepared s image Pull Head url manifest_types) _ (prepared_bad s image Pull Head url manifest_types bad)))

pub manifest_bad : (s : Context) (image : Reference) (a : RegistryAuth) → HasBadHeader s.settings manifest_types → Ends IsEarly (pull_manifest s image a)
unfolding pull_manifest
manifest_bad s image a bad = early_on (pull_manifest_raw s image a manifest_types) _ (raw_bad s image a manifest_types bad)

pub found_bad : (s : Context) (image : Reference) (a : RegistryAuth) → HasBadHeader s.settings manifest_types → Ends IsEarly (pull_image_manifest_and_list_digest s image a)
unfolding pull_image_manifest_and_list_digest
found_bad s image a bad = early_on (pull_manifest s image a) _ (manifest_bad s image a bad)

pub one_bad : (s : Context) (image : Reference) (a : RegistryAuth) → HasBadHeader s.settings manifest_types → Ends IsEarly (pull_image_manifest s image a)
unfolding pull_image_manifest
one_bad s image a bad = early_on (pull_image_manifest_and_list_digest s image a) _ (found_bad s image a bad)

pub config_bad : (s : Context) (image : Reference) (a : RegistryAuth) → HasBadHeader s.settings manifest_types → Ends IsEarly (pull_manifest_and_config_and_list_digest s image a)
unfolding pull_manifest_and_config_and_list_digest
config_bad s image a bad = early_on (pull_image_manifest_and_list_digest s image a) _ (found_bad s image a bad)

pub text_bad : (s : Context) (image : Reference) (a : RegistryAuth) → HasBadHeader s.settings manifest_types → Ends IsEarly (pull_manifest_and_config s image a)
unfolding pull_manifest_and_config
text_bad s image a bad = early_on (pull_manifest_and_config_and_list_digest s image a) _ (config_bad s image a bad)

pub image_bad : (s : Context) (image : Reference) (a : RegistryAuth) (accepted : List (List ℕ)) → HasBadHeader s.settings manifest_types → Ends IsEarly (pull s image a accepted)
unfolding pull
image_bad s image a accepted bad = early_on (pull_image_manifest_and_list_digest s image a) _ (found_bad s image a bad)

pub blob_bad : (to : Destination) (s : Context) (image : Reference) (layer : Layer) → HasBadHeader s.settings manifest_types → Ends IsEarly (blob_to to s image layer)
unfolding blob_to
blob_bad to s image layer bad = url_first (blob_text s.settings image layer.digest) (λ url. prepared s image Pull Get url manifest_types >>= λ request. tried to s.settings layer.digest (places_of layer.urls) request) (λ url. early_on (prepared s image Pull Get url manifest_types) _ (prepared_bad s image Pull Get url manifest_types bad))

-- ---- results

-- memory may run out before
of_error : (e : OciDistributionError) → MatchBool (is_memory e) (Unit {0}) (IsEarlyRefusal e) → IsEarlyRefusal e
of_error refusal.WantOfMemory h = tt
of_error _ h = h

by_memory : {A : Type 0} (r : Result A OciDistributionError) → UnlessMemory is_memory IsEarly r → IsEarly r
by_memory (Ok a) h = h
by_memory (Err e) h = of_error e h

pub met_early : {A : Type 0} {p : Row A} {old new : Link} {k l : AuthState} {r : Result A OciDistributionError} → Ends IsEarly p → Meets is_memory p old new k l r → IsEarly r
met_early {r = r} h met = by_memory r (Meets-ends IsEarly h met)

-- the same if the bytes were written to a sink
filled_early : (body : List ℕ) (r : Result (Unit {0}) OciDistributionError) → IsEarly (filled body r) → IsEarly r
filled_early body (Ok u) h = absurd h
filled_early body (Err e) h = h

pub spilled_early : {p : Row (List ℕ)} {old new : Link} {k l : AuthState} {before after : SinkState} {r : Result (Unit {0}) OciDistributionError} → Ends IsEarly p → MeetsIntoSink p old new k l before after r → IsEarly r
spilled_early {r = r} h spills = filled_early spills.body r (met_early h spills.met)

pub met_only : {A : Type 0} (e : OciDistributionError) {p : Row A} {old new : Link} {k l : AuthState} {r : Result A OciDistributionError} → Ends (Only e) p → Meets is_memory p old new k l r → IsRefusedAs e r
met_only e h met = Meets-ends (Only e) h met

filled_only : (e : OciDistributionError) (body : List ℕ) (r : Result (Unit {0}) OciDistributionError) → IsRefusedAs e (filled body r) → IsRefusedAs e r
filled_only e body (Ok u) h = absurd (cc h)
filled_only e body (Err x) h = by_kind (is_memory x) h where
  by_kind : (b : Bool) → MatchBool b (Unit {0}) (◌≡◌ {A = Result (List ℕ) OciDistributionError} (Err x) (Err e)) → MatchBool b (Unit {0}) (◌≡◌ {A = Result (Unit {0}) OciDistributionError} (Err x) (Err e))
  by_kind true h = tt
  by_kind false h = let same : x ≡ e = cc h in ap Err same

pub spilled_only : (e : OciDistributionError) {p : Row (List ℕ)} {old new : Link} {k l : AuthState} {before after : SinkState} {r : Result (Unit {0}) OciDistributionError} → Ends (Only e) p → MeetsIntoSink p old new k l before after r → IsRefusedAs e r
spilled_only e {r = r} h spills = filled_only e spills.body r (met_only e h spills.met)

-- types that were joined to one text
pub listed_met : (s : Context) (image : Reference) (a : RegistryAuth) (text types : List ℕ) {old new : Link} {k l : AuthState} {r : Result (List ℕ × List ℕ) OciDistributionError} → text ≡ types → Meets is_memory (pull_manifest_raw s image a text) old new k l r → Meets is_memory (pull_manifest_raw s image a types) old new k l r
listed_met s image a text types is met = rw is at met
