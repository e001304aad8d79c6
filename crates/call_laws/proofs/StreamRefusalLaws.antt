-- Which calls that open a stream are refused before a request is made.
use Rattle.std.proofs.Common.{◌≡◌, ◌<◌, ◌≤◌, ◌+◌, ◌-◌, ◌^◌, ◌++◌, ℕ, Bool, true, false, List, Option, Some, None, Result, Ok, Err, refl, sym, ap, subst, ◌∙◌, arith}
use Rattle.std.specs.Prelude.{decimal, nat_lt, if◌then◌else◌, MatchBool}
use Rattle.std.proofs.lemmas.Bool.{ltb-true, ltb-false}
use Rattle.oci_transport.specs.Link.{Link}
use Rattle.oci_transport.specs.Urls.{request_url}
use Rattle.oci_transport.specs.declared.message.Method.TheVariants.{Get}
use Rattle.oci_names.specs.declared.reference.Reference.{Reference}
use Rattle.oci_auth.specs.declared.auth_state.AuthState.{AuthState}
use Rattle.oci_auth.specs.declared.token_type.RegistryOperation.TheVariants.{Pull}
use Rattle.oci_protocol.specs.Proto.{Done, bind, unless_refused, ◌>>=◌}
use Rattle.oci_protocol.specs.Runs.{Meets}
use Rattle.oci_protocol.specs.Ends.{Ends}
use Rattle.engine_requests.specs.Addresses.{blob_text, url_read}
use Rattle.engine_terms.specs.Contexts.{Context}
use Rattle.json_values.specs.Refusals.{◌>>=◌ as ◌into◌}
use Rattle.engine_terms.specs.Error.{is_memory}
use Rattle.engine_requests.specs.Requests.{manifest_types}
use Rattle.engine_requests.specs.Sources.{Layer, places_of}
use Rattle.engine_terms.specs.declared.error.GenericCause.TheVariants.{RangeOverflow}
use Rattle.engine_terms.specs.declared.error.OciDistributionError.{OciDistributionError}
use Rattle.engine_terms.specs.declared.error.OciDistributionError.TheVariants as refusal
use Rattle.engine_rows.specs.Rows.{Row, prepared}
use Rattle.engine_rows.specs.Causes.{IsEarly, HasBadHeader, IsRefusedAs}
use Rattle.request_laws.proofs.ExactRefusals.{Only, after_refusal, handed_on, no_url, url_first, early_on, prepared_bad, met_only, met_early}
use Rattle.engine_streams.specs.Range.{onward_text, text_to, text_by, range_text, with_range}
use Rattle.engine_streams.specs.Blobs.{tried, opened, blob_stream, blob_stream_partial, opening_in, response_in, by_digests}
use Rattle.engine_streams.specs.declared.blobs.BlobResponse.{BlobResponse}
use Rattle.engine_streams.specs.declared.head.Opening.{Opening}
use Rattle.engine_streams.specs.declared.range.ByteRange.{ByteRange}
use Rattle.engine_streams.specs.declared.stream.SizedStream.{SizedStream}
use Rattle.engine_streams.specs.Causes.{Overflows, Fits}

-- ---- the range

text_fits : (offset end : ℕ) → end < 2 ^ 64 → (text : List ℕ) × (text_to offset end ≡ Ok text)
text_fits offset end small = by_test (nat_lt end (2 ^ 64)) refl where
  by_test : (b : Bool) → nat_lt end (2 ^ 64) ≡ b → (text : List ℕ) × ((if b then Ok (onward_text offset ++ decimal (end - 1)) else Err (refusal.GenericError RangeOverflow)) ≡ Ok text)
  by_test true lt = (onward_text offset ++ decimal (end - 1), refl)
  by_test false lt = let past = ltb-false end (2 ^ 64) lt in absurd (omega (arith, small, past))

some_text : (r : Result (List ℕ) OciDistributionError) → ((text : List ℕ) × (r ≡ Ok text)) → (text : Option (List ℕ)) × ((r into (λ text. Ok (Some text))) ≡ Ok text)
some_text r has = (Some has.0, ap (λ (r : Result (List ℕ) OciDistributionError). r into (λ text. Ok (Some text))) has.1)

by_length : (offset : ℕ) (o : Option ℕ) → ((n : ℕ) → o ≡ Some n → offset + n < 2 ^ 64) → (text : List ℕ) × (text_by offset o ≡ Ok text)
by_length offset None fits = (onward_text offset, refl)
by_length offset (Some n) fits = text_fits offset (offset + n) (fits n refl)

range_fits : (range : Option ByteRange) → Fits range → (text : Option (List ℕ)) × (range_text range ≡ Ok text)
range_fits None fits = (None, refl)
range_fits (Some range) fits = some_text (text_by range.offset range.length) (by_length range.offset range.length fits)

text_past : (offset end : ℕ) → 2 ^ 64 ≤ end → text_to offset end ≡ Err (refusal.GenericError RangeOverflow)
text_past offset end past = by_test (nat_lt end (2 ^ 64)) refl where
  by_test : (b : Bool) → nat_lt end (2 ^ 64) ≡ b → (if b then Ok (onward_text offset ++ decimal (end - 1)) else Err (refusal.GenericError RangeOverflow)) ≡ Err (refusal.GenericError RangeOverflow)
  by_test true lt = let small = ltb-true end (2 ^ 64) lt in absurd (omega (arith, small, past))
  by_test false lt = refl

range_past : (range : ByteRange) → Overflows (Some range) → range_text (Some range) ≡ Err (refusal.GenericError RangeOverflow)
range_past range (n, has, past) = ap (λ (o : Option ℕ). text_by range.offset o into (λ text. Ok (Some text))) has ∙ ap (λ (r : Result (List ℕ) OciDistributionError). r into (λ text. Ok (Some text))) (text_past range.offset (range.offset + n) past)

-- ---- the rows

abbrev after_range : Context → Reference → Layer → Option ByteRange → Option (List ℕ) → Row Opening
after_range s image layer range text = Done (url_read (blob_text s.settings image layer.digest)) >>= λ url. prepared s image Pull Get url manifest_types >>= λ request. Done (with_range text request) >>= λ ranged. tried s.settings range layer.digest (places_of layer.urls) ranged

opened_after : (Q : Result Opening OciDistributionError → Type 0) (s : Context) (image : Reference) (layer : Layer) (range : Option ByteRange) → Fits range → ((text : Option (List ℕ)) → Ends Q (after_range s image layer range text)) → Ends Q (opened s image layer range)
unfolding opened bind
opened_after Q s image layer range fits each =
    let made = range_fits range fits in
    subst (λ (r : Result (Option (List ℕ)) OciDistributionError). Ends Q (unless_refused (after_range s image layer range) r)) (sym made.1) (each made.0)

opened_no_url : (s : Context) (image : Reference) (layer : Layer) (range : Option ByteRange) → Fits range → request_url (blob_text s.settings image layer.digest) ≡ None → Ends (Only (refusal.UrlParseError (blob_text s.settings image layer.digest))) (opened s image layer range)
opened_no_url s image layer range fits none = opened_after (Only (refusal.UrlParseError (blob_text s.settings image layer.digest))) s image layer range fits (λ text. no_url (blob_text s.settings image layer.digest) (λ url. prepared s image Pull Get url manifest_types >>= λ request. Done (with_range text request) >>= λ ranged. tried s.settings range layer.digest (places_of layer.urls) ranged) none)

opened_bad : (s : Context) (image : Reference) (layer : Layer) (range : Option ByteRange) → Fits range → HasBadHeader s.settings manifest_types → Ends IsEarly (opened s image layer range)
opened_bad s image layer range fits bad = opened_after IsEarly s image layer range fits (λ text. url_first (blob_text s.settings image layer.digest) (λ url. prepared s image Pull Get url manifest_types >>= λ request. Done (with_range text request) >>= λ ranged. tried s.settings range layer.digest (places_of layer.urls) ranged) (λ url. early_on (prepared s image Pull Get url manifest_types) (λ request. Done (with_range text request) >>= λ ranged. tried s.settings range layer.digest (places_of layer.urls) ranged) (prepared_bad s image Pull Get url manifest_types bad)))

opened_past : (s : Context) (image : Reference) (layer : Layer) (range : ByteRange) → Overflows (Some range) → Ends (Only (refusal.GenericError RangeOverflow)) (opened s image layer (Some range))
unfolding opened bind
opened_past s image layer range past = after_refusal (refusal.GenericError RangeOverflow) (after_range s image layer (Some range)) (range_text (Some range)) (range_past range past)

partial_only : (e : OciDistributionError) (s : Context) (image : Reference) (layer : Layer) (range : ByteRange) → Ends (Only e) (opened s image layer (Some range)) → Ends (Only e) (blob_stream_partial s image layer range)
unfolding blob_stream_partial
partial_only e s image layer range h = handed_on e (opened s image layer (Some range)) (λ o. Done (Ok (by_digests o o.digests))) h

partial_early : (s : Context) (image : Reference) (layer : Layer) (range : ByteRange) → Ends IsEarly (opened s image layer (Some range)) → Ends IsEarly (blob_stream_partial s image layer range)
unfolding blob_stream_partial
partial_early s image layer range h = early_on (opened s image layer (Some range)) (λ o. Done (Ok (by_digests o o.digests))) h

-- ---- results: the code returns what the row returns

same_refusal : (A B : Type 0) (e x : OciDistributionError) → IsRefusedAs {A = A} e (Err x) → IsRefusedAs {A = B} e (Err x)
same_refusal A B e x h = by_kind (is_memory x) h where
  by_kind : (b : Bool) → MatchBool b (Unit {0}) (◌≡◌ {A = Result A OciDistributionError} (Err x) (Err e)) → MatchBool b (Unit {0}) (◌≡◌ {A = Result B OciDistributionError} (Err x) (Err e))
  by_kind true h = tt
  by_kind false h = let same : x ≡ e = cc h in ap (λ (x : OciDistributionError). Err x) same

stream_only : (e : OciDistributionError) (r : Result SizedStream OciDistributionError) → IsRefusedAs e (opening_in r) → IsRefusedAs e r
stream_only e (Ok stream) h = absurd (cc h)
stream_only e (Err x) h = same_refusal _ _ e x h

stream_early : (r : Result SizedStream OciDistributionError) → IsEarly (opening_in r) → IsEarly r
stream_early (Ok stream) h = absurd h
stream_early (Err x) h = h

response_only : (e : OciDistributionError) (r : Result BlobResponse OciDistributionError) → IsRefusedAs e (response_in r) → IsRefusedAs e r
response_only e (Ok response) h = absurd (cc h)
response_only e (Err x) h = same_refusal _ _ e x h

response_early : (r : Result BlobResponse OciDistributionError) → IsEarly (response_in r) → IsEarly r
response_early (Ok response) h = absurd h
response_early (Err x) h = h

pub stream_no_url : (s : Context) (image : Reference) (layer : Layer) {old new : Link} {k l : AuthState} (r : Result SizedStream OciDistributionError) → request_url (blob_text s.settings image layer.digest) ≡ None → Meets is_memory (blob_stream s image layer) old new k l (opening_in r) → IsRefusedAs (refusal.UrlParseError (blob_text s.settings image layer.digest)) r
stream_no_url s image layer r none met = stream_only (refusal.UrlParseError (blob_text s.settings image layer.digest)) r (met_only (refusal.UrlParseError (blob_text s.settings image layer.digest)) (opened_no_url s image layer None tt none) met)

pub stream_bad : (s : Context) (image : Reference) (layer : Layer) {old new : Link} {k l : AuthState} (r : Result SizedStream OciDistributionError) → HasBadHeader s.settings manifest_types → Meets is_memory (blob_stream s image layer) old new k l (opening_in r) → IsEarly r
stream_bad s image layer r bad met = stream_early r (met_early (opened_bad s image layer None tt bad) met)

pub partial_no_url : (s : Context) (image : Reference) (layer : Layer) (range : ByteRange) {old new : Link} {k l : AuthState} (r : Result BlobResponse OciDistributionError) → Fits (Some range) → request_url (blob_text s.settings image layer.digest) ≡ None → Meets is_memory (blob_stream_partial s image layer range) old new k l (response_in r) → IsRefusedAs (refusal.UrlParseError (blob_text s.settings image layer.digest)) r
partial_no_url s image layer range r fits none met =
    let e = refusal.UrlParseError (blob_text s.settings image layer.digest) in
    response_only e r (met_only e (partial_only e s image layer range (opened_no_url s image layer (Some range) fits none)) met)

pub partial_bad : (s : Context) (image : Reference) (layer : Layer) (range : ByteRange) {old new : Link} {k l : AuthState} (r : Result BlobResponse OciDistributionError) → Fits (Some range) → HasBadHeader s.settings manifest_types → Meets is_memory (blob_stream_partial s image layer range) old new k l (response_in r) → IsEarly r
partial_bad s image layer range r fits bad met = response_early r (met_early (partial_early s image layer range (opened_bad s image layer (Some range) fits bad)) met)

pub partial_past : (s : Context) (image : Reference) (layer : Layer) (range : ByteRange) {old new : Link} {k l : AuthState} (r : Result BlobResponse OciDistributionError) → Overflows (Some range) → Meets is_memory (blob_stream_partial s image layer range) old new k l (response_in r) → IsRefusedAs (refusal.GenericError RangeOverflow) r
partial_past s image layer range r past met = response_only (refusal.GenericError RangeOverflow) r (met_only (refusal.GenericError RangeOverflow) (partial_only (refusal.GenericError RangeOverflow) s image layer range (opened_past s image layer range past)) met)
