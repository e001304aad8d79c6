-- Refusals that must occur: a malformed URL, and an invalid user agent, before the first request of the push.
use Rattle.std.proofs.Common.{◌≡◌, ℕ, Bool, true, false, List, [], Option, Some, None, Result, Ok, Err, codes, refl, sym, ap, subst}
use Rattle.std.specs.Option.{is_some}
use Rattle.std.specs.Prelude.{◌&&◌, if◌then◌else◌, ok_or}
use Rattle.std.specs.FinMap as map
use Rattle.url.specs.Parts.{Parts}
use Rattle.oci_names.specs.declared.reference.Reference.{Reference}
use Rattle.oci_auth.specs.declared.token_type.RegistryOperation.TheVariants.{Push}
use Rattle.oci_auth.specs.declared.token_type.RegistryTokenType.{RegistryTokenType}
use Rattle.oci_transport.specs.Headers.{Fields, added, is_header_value, has_room}
use Rattle.oci_transport.specs.Urls.{request_url}
use Rattle.oci_transport.specs.declared.message.Method.{Method}
use Rattle.oci_transport.specs.declared.message.Method.TheVariants.{Post}
use Rattle.oci_protocol.specs.Ends.{Ends}
use Rattle.oci_protocol.specs.Proto.{Done, bind, unless_refused, ◌>>=◌}
use Rattle.oci_protocol.proofs.Ends.{Ends-bind}
use Rattle.engine_terms.specs.Contexts.{Context}
use Rattle.json_values.specs.Refusals.{◌>>=◌ as ◌into◌}
use Rattle.engine_terms.specs.declared.error.GenericCause.TheVariants.{HeaderText}
use Rattle.engine_terms.specs.declared.error.OciDistributionError.{OciDistributionError}
use Rattle.engine_terms.specs.declared.error.OciDistributionError.TheVariants as refusal
use Rattle.engine_terms.specs.declared.settings.Settings.{Settings}
use Rattle.engine_requests.specs.Addresses.{uploads_text}
use Rattle.engine_requests.specs.Requests.{with_header, with_accept, with_token, bare_request, request_of}
use Rattle.engine_rows.specs.Causes.{Act, IsEarly, IsEarlyRefusal}
use Rattle.engine_rows.specs.Rows.{Row, authorized}
use Rattle.request_laws.proofs.EarlyCauses.{Early, EarlyCause, authorized_early}
use Rattle.request_laws.proofs.ExactRefusals.{Only, handed_on, no_url, early_on, url_first}
use Rattle.push_rows.specs.Calls.{push_chunked, push_whole, or_whole, push_blob, stream_whole, stream_sent, stream_chunked, push_blob_stream, push_blob_stream_chunked, mount_url as mounting, mount_blob}
use Rattle.push_rows.specs.Causes.{IsSized}
use Rattle.push_rows.specs.Uploads.{sent, upload_begun}
use Rattle.push_rows.specs.declared.content.Content.{Content}
use Rattle.push_rows.specs.declared.content.Content.TheVariants.{Nothing}

-- ---- one request, with an invalid user agent

-- for any text
abbrev AnyText : Act → Type 0
AnyText act = Unit {0}

early_is : (e : OciDistributionError) → EarlyCause AnyText e → IsEarlyRefusal e
early_is (refusal.UrlParseError text) h = h.0
early_is (refusal.GenericError HeaderText) h = tt
early_is refusal.WantOfMemory h = tt
early_is e h = absurd h

abbrev invalid : {A : Type 0} → Result A OciDistributionError
invalid = Err (refusal.GenericError HeaderText)

not_named : (s : Settings) → is_header_value s.user_agent ≡ false → with_header map.empty (codes "user-agent") s.user_agent ≡ invalid
not_named s bad = ap (λ b. ok_or (if b && has_room map.empty then Some (added map.empty (codes "user-agent") s.user_agent) else None) (refusal.GenericError HeaderText)) bad

pub bare_bad : (s : Settings) (method : Method) (url : Parts) (token : Option RegistryTokenType) → is_header_value s.user_agent ≡ false → request_of s method url None token ≡ invalid
unfolding request_of
bare_bad s method url token bad = ap (λ (r : Result Fields OciDistributionError). ((r into with_accept None) into with_token token) into (λ headers. Ok (bare_request method url headers))) (not_named s bad)

-- a step without a request that is refused so
pub invalid_step : {A B : Type 0} (r : Result A OciDistributionError) (f : A → Row B) → r ≡ invalid → Ends IsEarly (Done r >>= f)
unfolding bind Ends
invalid_step (Ok a) f is = absurd (cc is)
invalid_step (Err e) f is = let same : e ≡ refusal.GenericError HeaderText = cc is in subst IsEarlyRefusal (sym same) tt

-- the token step, and then what is refused early
pub token_first : {B : Type 0} (s : Context) (image : Reference) (url : Parts) (f : Option RegistryTokenType → Row B) → ((token : Option RegistryTokenType) → Ends IsEarly (f token)) → Ends IsEarly (authorized s image Push url >>= f)
unfolding Ends
token_first {B} s image url f each = Ends-bind (Early AnyText) IsEarly (authorized s image Push url) (unless_refused f) (authorized_early AnyText s [] image Push url tt) by_result where
  by_result : (r : Result (Option RegistryTokenType) OciDistributionError) → Early AnyText r → Ends IsEarly (unless_refused f r)
  by_result (Ok token) h = each token
  by_result (Err e) h = early_is e h

pub sent_bad : (s : Context) (image : Reference) (method : Method) (url : Parts) (content : Content) (expected : ℕ) → is_header_value s.settings.user_agent ≡ false → Ends IsEarly (sent s image method url content expected)
unfolding sent
sent_bad s image method url content expected bad = token_first s image url _ (λ token. invalid_step (request_of s.settings method url None token) _ (bare_bad s.settings method url token bad))

-- ---- uploads

module _ (s : Context) (image : Reference) where
  abbrev Malformed : OciDistributionError
  Malformed = refusal.UrlParseError (uploads_text s.settings image)

  abbrev NoUrl : Type 0
  NoUrl = request_url (uploads_text s.settings image) ≡ None

  abbrev BadAgent : Type 0
  BadAgent = is_header_value s.settings.user_agent ≡ false

  begun_url : NoUrl → Ends (Only Malformed) (upload_begun s image)
  unfolding upload_begun
  begun_url none = no_url (uploads_text s.settings image) _ none

  begun_bad : BadAgent → Ends IsEarly (upload_begun s image)
  unfolding upload_begun
  begun_bad bad = url_first (uploads_text s.settings image) _ (λ url. sent_bad s image Post url Nothing 202 bad)

  chunked_url : (content digest : List ℕ) → NoUrl → Ends (Only Malformed) (push_chunked s image content digest)
  unfolding push_chunked
  chunked_url content digest none = handed_on Malformed (upload_begun s image) _ (begun_url none)

  chunked_bad : (content digest : List ℕ) → BadAgent → Ends IsEarly (push_chunked s image content digest)
  unfolding push_chunked
  chunked_bad content digest bad = early_on (upload_begun s image) _ (begun_bad bad)

  whole_url : (content digest : List ℕ) → NoUrl → Ends (Only Malformed) (push_whole s image content digest)
  unfolding push_whole
  whole_url content digest none = handed_on Malformed (upload_begun s image) _ (begun_url none)

  whole_bad : (content digest : List ℕ) → BadAgent → Ends IsEarly (push_whole s image content digest)
  unfolding push_whole
  whole_bad content digest bad = early_on (upload_begun s image) _ (begun_bad bad)

  -- neither refusal is one after which the blob is sent whole
  or_url : (whole : Row (List ℕ)) (r : Result (List ℕ) OciDistributionError) → Only Malformed r → Ends (Only Malformed) (or_whole whole r)
  unfolding Ends
  or_url whole (Ok url) is = absurd (cc is)
  or_url whole (Err e) is = let same : e ≡ Malformed = cc is in subst (λ x. Ends (Only Malformed) (or_whole whole (Err x))) (sym same) refl

  or_bad : (whole : Row (List ℕ)) (r : Result (List ℕ) OciDistributionError) → IsEarly r → Ends IsEarly (or_whole whole r)
  unfolding Ends
  or_bad whole (Ok url) h = absurd h
  or_bad whole (Err (refusal.UrlParseError text)) h = h
  or_bad whole (Err (refusal.GenericError HeaderText)) h = tt
  or_bad whole (Err refusal.WantOfMemory) h = tt
  or_bad whole (Err _) h = absurd h

  pub blob_url : (content digest : List ℕ) → NoUrl → Ends (Only Malformed) (push_blob s image content digest)
  unfolding push_blob
  blob_url content digest none = by_setting s.settings.use_monolithic_push where
    by_setting : (b : Bool) → Ends (Only Malformed) (if b then push_whole s image content digest else bind (push_chunked s image content digest) (or_whole (push_whole s image content digest)))
    by_setting true = whole_url content digest none
    by_setting false = Ends-bind (Only Malformed) (Only Malformed) (push_chunked s image content digest) (or_whole (push_whole s image content digest)) (chunked_url content digest none) (or_url (push_whole s image content digest))

  pub blob_bad : (content digest : List ℕ) → BadAgent → Ends IsEarly (push_blob s image content digest)
  unfolding push_blob
  blob_bad content digest bad = by_setting s.settings.use_monolithic_push where
    by_setting : (b : Bool) → Ends IsEarly (if b then push_whole s image content digest else bind (push_chunked s image content digest) (or_whole (push_whole s image content digest)))
    by_setting true = whole_bad content digest bad
    by_setting false = Ends-bind IsEarly IsEarly (push_chunked s image content digest) (or_whole (push_whole s image content digest)) (chunked_bad content digest bad) (or_bad (push_whole s image content digest))

  -- ---- a stream

  stream_sent_url : NoUrl → Ends (Only Malformed) (stream_sent s image)
  unfolding stream_sent
  stream_sent_url none = handed_on Malformed (upload_begun s image) _ (begun_url none)

  stream_sent_bad : BadAgent → Ends IsEarly (stream_sent s image)
  unfolding stream_sent
  stream_sent_bad bad = early_on (upload_begun s image) _ (begun_bad bad)

  stream_whole_url : (digest : List ℕ) (size : Option ℕ) → is_some size ≡ true → NoUrl → Ends (Only Malformed) (stream_whole s image digest size)
  unfolding stream_whole bind
  stream_whole_url digest None sized none = absurd (cc sized)
  stream_whole_url digest (Some size) sized none = handed_on Malformed (upload_begun s image) _ (begun_url none)

  stream_whole_bad : (digest : List ℕ) (size : Option ℕ) → is_some size ≡ true → BadAgent → Ends IsEarly (stream_whole s image digest size)
  unfolding stream_whole bind
  stream_whole_bad digest None sized bad = absurd (cc sized)
  stream_whole_bad digest (Some size) sized bad = early_on (upload_begun s image) _ (begun_bad bad)

  stream_chunked_url : (digest : List ℕ) → NoUrl → Ends (Only Malformed) (stream_chunked s image digest)
  unfolding stream_chunked
  stream_chunked_url digest none = handed_on Malformed (stream_sent s image) _ (stream_sent_url none)

  stream_chunked_bad : (digest : List ℕ) → BadAgent → Ends IsEarly (stream_chunked s image digest)
  unfolding stream_chunked
  stream_chunked_bad digest bad = early_on (stream_sent s image) _ (stream_sent_bad bad)

  pub stream_url : (digest : List ℕ) (size : Option ℕ) → IsSized s.settings size → NoUrl → Ends (Only Malformed) (push_blob_stream s image digest size)
  unfolding push_blob_stream
  stream_url digest size sized none = by_setting s.settings.use_monolithic_push sized where
    by_setting : (b : Bool) → (b ≡ true → is_some size ≡ true) → Ends (Only Malformed) (if b then stream_whole s image digest size else stream_chunked s image digest)
    by_setting true sized = stream_whole_url digest size (sized refl) none
    by_setting false sized = stream_chunked_url digest none

  pub stream_bad : (digest : List ℕ) (size : Option ℕ) → IsSized s.settings size → BadAgent → Ends IsEarly (push_blob_stream s image digest size)
  unfolding push_blob_stream
  stream_bad digest size sized bad = by_setting s.settings.use_monolithic_push sized where
    by_setting : (b : Bool) → (b ≡ true → is_some size ≡ true) → Ends IsEarly (if b then stream_whole s image digest size else stream_chunked s image digest)
    by_setting true sized = stream_whole_bad digest size (sized refl) bad
    by_setting false sized = stream_chunked_bad digest bad

  pub named_url : NoUrl → Ends (Only Malformed) (push_blob_stream_chunked s image)
  unfolding push_blob_stream_chunked
  named_url none = handed_on Malformed (stream_sent s image) _ (stream_sent_url none)

  pub named_bad : BadAgent → Ends IsEarly (push_blob_stream_chunked s image)
  unfolding push_blob_stream_chunked
  named_bad bad = early_on (stream_sent s image) _ (stream_sent_bad bad)

  -- ---- a mount

  pub mount_url : (source : Reference) (digest : List ℕ) → NoUrl → Ends (Only Malformed) (mount_blob s image source digest)
  unfolding mount_blob
  mount_url source digest none = no_url (uploads_text s.settings image) _ none

  pub mount_bad : (source : Reference) (digest : List ℕ) → BadAgent → Ends IsEarly (mount_blob s image source digest)
  unfolding mount_blob
  mount_bad source digest bad = url_first (uploads_text s.settings image) _ (λ url. early_on (sent s image Post (mounting source digest url) Nothing 201) _ (sent_bad s image Post (mounting source digest url) Nothing 201 bad))
