-- A stream of a blob sends tokens to the registry alone, and an invalid header value has its cause.
use Rattle.std.proofs.Common.{◌≡◌, ℕ, Bool, true, false, List, [], ◌∷◌, ◌++◌, Option, Some, None, Result, Ok, Err, codes, refl, sym, ap, subst, ◌∙◌}
use Rattle.std.specs.Prelude.{if◌then◌else◌, nat_lt, decimal, ◌+◌, ◌-◌, ◌^◌}
use Rattle.url.specs.Parts.{Parts}
use Rattle.oci_transport.specs.Headers.{Fields, values_of, added}
use Rattle.oci_transport.specs.declared.message.Request.{Request}
use Rattle.oci_transport.specs.declared.message.AnswerHead.{AnswerHead}
use Rattle.oci_transport.specs.declared.message.Exchange.{Exchange}
use Rattle.oci_transport.specs.declared.message.Method.{Method}
use Rattle.oci_transport.specs.declared.message.Method.TheVariants.{Get}
use Rattle.oci_names.specs.declared.reference.Reference.{Reference}
use Rattle.oci_auth.specs.declared.auth.RegistryAuth.{RegistryAuth}
use Rattle.oci_auth.specs.declared.auth_state.AuthState.{AuthState}
use Rattle.oci_auth.specs.declared.token_type.RegistryOperation.{RegistryOperation}
use Rattle.oci_auth.specs.declared.token_type.RegistryOperation.TheVariants.{Pull}
use Rattle.oci_auth.specs.declared.token_type.RegistryTokenType.{RegistryTokenType}
use Rattle.oci_protocol.specs.Proto.{Reply, Headed, Answered, Failed, TooLong, SinkFailed, Proto, Done, Ask, Recall, Keep, Consult, unless_refused, ◌>>=◌}
use Rattle.oci_protocol.specs.Ends.{Ends}
use Rattle.oci_protocol.specs.Safe.{Safe}
use Rattle.oci_protocol.proofs.Ends.{Ends-any, Ends-bind}
use Rattle.oci_protocol.proofs.Safety.{Safe-bind}
use Rattle.engine_requests.specs.Addresses.{blob_text}
use Rattle.engine_answers.specs.Answers.{refused_answer, header_digest, is_error}
use Rattle.engine_terms.specs.Contexts.{Context}
use Rattle.json_values.specs.Refusals.{◌>>=◌ as ◌into◌}
use Rattle.engine_requests.specs.Requests.{with_header, manifest_types, request_of}
use Rattle.engine_requests.specs.Sources.{Layer, places_of, asked_at}
use Rattle.engine_terms.specs.declared.error.GenericCause.TheVariants.{RangeOverflow}
use Rattle.engine_terms.specs.declared.error.OciDistributionError.{OciDistributionError}
use Rattle.engine_terms.specs.declared.error.OciDistributionError.TheVariants as refusal
use Rattle.engine_terms.specs.declared.settings.Settings.{Settings}
use Rattle.engine_requests.specs.declared.sources.Place.{Place}
use Rattle.engine_requests.specs.declared.sources.Place.TheVariants.{Web, Unfit}
use Rattle.engine_rows.specs.Rows.{Row, authorized, prepared}
use Rattle.engine_rows.specs.Confined.{ToRegistry, Each}
use Rattle.engine_rows.specs.Held.{Entry, pulling}
use Rattle.request_laws.proofs.RequestConfinement.{SentValue, Sent, each_more}
use Rattle.request_laws.proofs.HeaderCauses.{Sound, place_ready}
use Rattle.request_laws.proofs.KeptTokens.{Keeps}
use Rattle.request_laws.proofs.PlainRefusals.{Plain, into_plain, refused_plain, digest_plain}
use Rattle.request_laws.proofs.PreparedRequests.{with_ok}
use Rattle.request_laws.proofs.ShownTokens.{Carries, Ended, Ready, safe_done, safe_next, safe_ready, safe_follow, prepared_safe, plain_step, plain_last, url_first}
use Rattle.engine_streams.specs.Head.{expected, given, opening}
use Rattle.engine_streams.specs.Range.{text_by, range_text, onward_text, onward, with_range}
use Rattle.engine_streams.specs.Blobs.{or_next, tried, opened}
use Rattle.engine_streams.specs.Asking.{judged_reading, judged_reply, judged, streams, some_opening, opening_unless_error, streams_or_passes, offered, ranged_at}
use Rattle.engine_streams.specs.declared.head.Opening.{Opening}
use Rattle.engine_streams.specs.declared.range.ByteRange.{ByteRange}
use Rattle.call_laws.proofs.StreamRanges.{Stands, IsSmall, onward_is, range_is, HasRoom, has_room, range_shows, range_stays}

-- ---- one request

judged_sound : {A : Type 0} (x : Entry) (s : Settings) (types : List ℕ) (limit : ℕ) (takes : AnswerHead → Bool) (made : AnswerHead → Result A OciDistributionError) (request : Request) (l : AuthState) (c : List Exchange) → ((head : AnswerHead) → Plain (made head)) → Sent x s c request → Keeps x l c → Sound x s types l c (judged limit takes made request)
unfolding judged
judged_sound x s types limit takes made request l c plain sent keeps = safe_follow x s (Ended x s types) 10 request (judged_reading limit takes) (judged_reply made) l c sent keeps (λ last d e before after other reply h replies. by_reply last reply (d ++ e ∷ []) h) where
  by_reply : (last : Request) (reply : Reply) (d : List Exchange) → Keeps x l d → Sound x s types l d (judged_reply made last reply)
  by_reply last (Headed head) d h = plain_last x s types (made head) l d (plain head) h
  by_reply last (Answered answer) d h = plain_last x s types (Err (refused_answer 200 last.url answer)) l d (refused_plain last.url answer) h
  by_reply last Failed d h = safe_done x s (Ended x s types) l d (Err refusal.TransportFault) tt
  by_reply last TooLong d h = safe_done x s (Ended x s types) l d (Err refusal.BodyTooLong) tt
  by_reply last SinkFailed d h = safe_done x s (Ended x s types) l d (Err refusal.SinkFault) tt

given_plain : (value : Option (List ℕ)) → Plain (given value)
given_plain None = tt
given_plain (Some text) = into_plain (expected text) _ (digest_plain _) (λ x. tt)

opening_plain : (range : Option ByteRange) (digest : List ℕ) (head : AnswerHead) → Plain (opening range digest head)
unfolding opening
opening_plain range digest head = into_plain (expected digest) _ (digest_plain _) (λ own. into_plain (header_digest head.headers) _ (digest_plain _) (λ value. into_plain (given value) _ (given_plain value) (λ header. tt)))

some_plain : (r : Result Opening OciDistributionError) → Plain r → Plain (some_opening r)
some_plain (Ok o) plain = tt
some_plain (Err e) plain = plain

unless_plain : (range : Option ByteRange) (digest : List ℕ) (head : AnswerHead) → Plain (opening_unless_error range digest head)
unfolding opening_unless_error
unless_plain range digest head = by_test (is_error head.status) where
  by_test : (b : Bool) → Plain (if b then Ok None else some_opening (opening range digest head))
  by_test true = tt
  by_test false = some_plain (opening range digest head) (opening_plain range digest head)

-- ---- with its range

ranged_sent : (x : Entry) (s : Settings) (c : List Exchange) (request : Request) (headers : Fields) (value : List ℕ) → headers ≡ added request.headers (codes "range") value → Sent x s c request → Sent x s c (record request { headers = headers })
ranged_sent x s c request headers value is sent = subst (Each (SentValue x s c after)) (sym (ap (values_of (codes "authorization")) is ∙ range_shows request.headers value)) moved where
  after : Request
  after = record request { headers = headers }

  to : ToRegistry s x.image request → ToRegistry s x.image after
  to g = record { registry = g.registry; url = g.url; registry_is = g.registry_is; url_is = g.url_is; goes = g.goes }

  moved : Each (SentValue x s c after) (values_of (codes "authorization") request.headers)
  moved = each_more (SentValue x s c request) (SentValue x s c after) (values_of (codes "authorization") request.headers) (λ value at. (to at.0, at.1, at.2, at.3)) sent

ranged_ready : (x : Entry) (s : Settings) (types : List ℕ) (l : AuthState) (c : List Exchange) (text : Option (List ℕ)) (request : Request) → Stands text → HasRoom request → Keeps x l c → Sent x s c request → Ready x s types l c (with_range text request)
ranged_ready x s types l c None request stands room keeps sent = (keeps, sent)
ranged_ready x s types l c (Some text) request stands room keeps sent = by_header (with_header request.headers (codes "range") text) refl where
  by_header : (r : Result Fields OciDistributionError) → with_header request.headers (codes "range") text ≡ r → Ready x s types l c (r into (λ headers. Ok (record request { headers = headers })))
  by_header (Ok headers) is = (keeps, ranged_sent x s c request headers text (with_ok request.headers (codes "range") text headers is) sent)
  by_header (Err e) is = absurd (range_stays request text e room stands is)

-- at a listed URL
place_ranged : (x : Entry) (s : Settings) (range : Option ByteRange) (p : Place) (l : AuthState) (c : List Exchange) → IsSmall range → Keeps x l c → Ready x s manifest_types l c (ranged_at s range p)
unfolding asked_at
place_ranged x s range (Web url) l c small keeps = by_request (request_of s Get url (Some manifest_types) None) refl (place_ready x s (Web url) l c keeps) where
  by_request : (r : Result Request OciDistributionError) → request_of s Get url (Some manifest_types) None ≡ r → Ready x s manifest_types l c r → Ready x s manifest_types l c (r into with_range (onward range))
  by_request (Ok request) is ready = ranged_ready x s manifest_types l c (onward range) request (onward_is range small) (has_room s Get url manifest_types None request is) ready.0 ready.1
  by_request (Err e) is ready = ready
place_ranged x s range (Unfit text) l c small keeps = tt

-- ---- the rows

-- a response that was found, or what comes next
found_sound : (x : Entry) (s : Settings) (next : Row Opening) (l : AuthState) (c : List Exchange) (found : Option Opening) → Keeps x l c → Sound x s manifest_types l c next → Sound x s manifest_types l c (or_next next found)
found_sound x s next l c (Some o) keeps rest = safe_done x s (Ended x s manifest_types) l c (Ok o) keeps
found_sound x s next l c None keeps rest = rest

tried_sound : (x : Entry) (s : Settings) (range : Option ByteRange) (digest : List ℕ) (places : List Place) (request : Request) (l : AuthState) (c : List Exchange) → IsSmall range → Sent x s c request → Keeps x l c → Sound x s manifest_types l c (tried s range digest places request)
unfolding tried
tried_sound x s range digest [] request l c small sent keeps = judged_sound x s manifest_types s.max_body_bytes (streams range) (opening range digest) request l c (opening_plain range digest) sent keeps
tried_sound x s range digest (p ∷ ps) request l c small sent keeps = safe_next x s manifest_types (offered s.max_body_bytes range digest request) _ l c (judged_sound x s manifest_types s.max_body_bytes (streams_or_passes range) (opening_unless_error range digest) request l c (unless_plain range digest) sent keeps)
    (λ l c found keeps. found_sound x s (Done (ranged_at s range p) >>= tried s range digest ps) l c found keeps
    (safe_ready x s manifest_types (Done (ranged_at s range p)) (tried s range digest ps) l c (safe_done x s (Ready x s manifest_types) l c (ranged_at s range p) (place_ranged x s range p l c small keeps)) (λ l c next keeps sent. tried_sound x s range digest ps next l c small sent keeps)))

-- a property of each result and a safe protocol together
Safe-both : {K A : Type 0} (P : K → List Exchange → Request → Type 0) (I : K → List Exchange → Type 0) (Q : K → List Exchange → A → Type 0) (E : A → Type 0) (p : Proto K A) (k : K) (seen : List Exchange) → Safe P I Q k seen p → Ends E p → Safe P I (λ k seen a. Q k seen a × E a) k seen p
unfolding Safe Ends
Safe-both P I Q E (Done a) k seen s e = (s, e)
Safe-both P I Q E (Ask request reading next) k seen s e = (s.0, λ x before after reply replies. Safe-both P I Q E (next reply) k (seen ++ x ∷ []) (s.1 x before after reply replies) (e reply))
Safe-both P I Q E (Recall next) k seen s e = Safe-both P I Q E (next k) k seen s (e k)
Safe-both P I Q E (Keep kept rest) k seen s e = (s.0, Safe-both P I Q E rest kept seen s.1 e)
Safe-both P I Q E (Consult next) k seen s e = λ said. Safe-both P I Q E (next said) k seen (s said) (e said)

abbrev IfRoom : Result Request OciDistributionError → Type 0
IfRoom (Ok request) = HasRoom request
IfRoom (Err e) = Unit {0}

made_room : (s : Settings) (method : Method) (url : Parts) (types : List ℕ) (token : Option RegistryTokenType) (r : Result Request OciDistributionError) → request_of s method url (Some types) token ≡ r → IfRoom r
made_room s method url types token (Ok request) is = has_room s method url types token request is
made_room s method url types token (Err e) is = tt

room_unless : (s : Settings) (method : Method) (url : Parts) (types : List ℕ) (r : Result (Option RegistryTokenType) OciDistributionError) → Ends {K = AuthState} IfRoom (unless_refused (λ token. Done (request_of s method url (Some types) token)) r)
unfolding Ends
room_unless s method url types (Ok token) = made_room s method url types token (request_of s method url (Some types) token) refl
room_unless s method url types (Err e) = tt

prepared_room : (s : Context) (image : Reference) (op : RegistryOperation) (method : Method) (url : Parts) (types : List ℕ) → Ends IfRoom (prepared s image op method url types)
unfolding prepared
prepared_room s image op method url types = Ends-bind (λ r. Unit {0}) IfRoom (authorized s image op url) (unless_refused (λ token. Done (request_of s.settings method url (Some types) token))) (Ends-any (λ r. Unit {0}) (authorized s image op url) (λ r. tt)) (λ r h. room_unless s.settings method url types r)

to_plain : (offset end : ℕ) → Plain (text_by offset (Some end))
to_plain offset n = by_test (nat_lt (offset + n) (2 ^ 64)) where
  by_test : (b : Bool) → Plain (if b then Ok (onward_text offset ++ decimal (offset + n - 1)) else Err (refusal.GenericError RangeOverflow))
  by_test true = tt
  by_test false = tt

by_plain : (offset : ℕ) (n : Option ℕ) → Plain (text_by offset n)
by_plain offset None = tt
by_plain offset (Some n) = to_plain offset n

range_plain : (range : Option ByteRange) → Plain (range_text range)
range_plain None = tt
range_plain (Some range) = into_plain (text_by range.offset range.length) _ (by_plain range.offset range.length) (λ text. tt)

pub opened_sound : (s : Context) (image : Reference) (layer : Layer) (range : Option ByteRange) (k : AuthState) (handed : Option RegistryAuth) (l : AuthState) (c : List Exchange) → IsSmall range → Keeps (pulling k s image handed) l c → Sound (pulling k s image handed) s.settings manifest_types l c (opened s image layer range)
unfolding opened
opened_sound s image layer range k handed l c small keeps =
    let x = pulling k s image handed in
    plain_step x s.settings manifest_types (range_text range) _ l c (range_plain range) (λ text text_is.
    url_first x s.settings manifest_types (blob_text s.settings image layer.digest) _ l c (λ url.
    Safe-bind (Carries x s.settings) (Keeps x) (λ l c r. Ready x s.settings manifest_types l c r × IfRoom r) (Ended x s.settings manifest_types) (prepared s image Pull Get url manifest_types) (unless_refused (λ request. Done (with_range text request) >>= tried s.settings range layer.digest (places_of layer.urls))) l c
    (Safe-both (Carries x s.settings) (Keeps x) (Ready x s.settings manifest_types) IfRoom (prepared s image Pull Get url manifest_types) l c (prepared_safe x s.settings Get url manifest_types l c keeps) (prepared_room s image Pull Get url manifest_types))
    (by_request text (range_is range text small text_is)))) where
      by_request : (text : Option (List ℕ)) → Stands text → (l : AuthState) (c : List Exchange) (r : Result Request OciDistributionError) → Ready (pulling k s image handed) s.settings manifest_types l c r × IfRoom r → Sound (pulling k s image handed) s.settings manifest_types l c (unless_refused (λ request. Done (with_range text request) >>= tried s.settings range layer.digest (places_of layer.urls)) r)
      by_request text stands l c (Ok request) h =
          let x = pulling k s image handed in
          safe_ready x s.settings manifest_types (Done (with_range text request)) (tried s.settings range layer.digest (places_of layer.urls)) l c (safe_done x s.settings (Ready x s.settings manifest_types) l c (with_range text request) (ranged_ready x s.settings manifest_types l c text request stands h.1 h.0.0 h.0.1)) (λ l c ranged keeps sent. tried_sound x s.settings range layer.digest (places_of layer.urls) ranged l c small sent keeps)
      by_request text stands l c (Err e) h = safe_done (pulling k s image handed) s.settings (Ended (pulling k s image handed) s.settings manifest_types) l c (Err e) h.0
