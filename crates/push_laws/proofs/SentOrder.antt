-- No manifest of an image is requested unless each of its blobs was answered.
use Rattle.std.proofs.Common.{◌≡◌, ◌⊎◌, inl, inr, ℕ, zero, suc, Bool, true, false, List, [], ◌∷◌, ◌++◌, Option, Some, None, Result, Ok, Err, codes, length, unwrap_or, refl, sym, ap, subst, ◌∙◌, append-nil, append_assoc, arith}
use Rattle.std.specs.Prelude.{◌+◌, All, MatchBool, decimal, nat_eq, slice_get, if◌then◌else◌}
use Rattle.std.specs.List.{Contains}
use Rattle.std.specs.FinMap as map
use Rattle.std.proofs.Common.{map as map_of}
use Rattle.std.specs.FinMap.{get-insert, get-empty}
use Rattle.std.specs.Cmp.Lexicographic.{nat_list_cmp_total}
use Rattle.std.proofs.lemmas.Bool.Decides.{nat_tests}
use Rattle.std.proofs.lemmas.List.Elements.{Contains-append_left, Contains-append_right, All-nil, All-cons, All-append}
use Rattle.json_values.specs.Places.{by_bytes}
use Rattle.json_values.specs.Refusals.{◌>>=◌ as ◌into◌}
use Rattle.url.specs.Parts.{Parts, serialize}
use Rattle.url.specs.Setters.{append_query_pairs}
use Rattle.oci_auth.specs.Auth.{authorization_of}
use Rattle.oci_auth.specs.declared.auth.RegistryAuth.{RegistryAuth}
use Rattle.oci_auth.specs.declared.auth_state.AuthState.{AuthState}
use Rattle.oci_auth.specs.declared.token_type.RegistryOperation.TheVariants.{Push}
use Rattle.oci_auth.specs.declared.token_type.RegistryTokenType.{RegistryTokenType}
use Rattle.oci_manifests.specs.declared.descriptor.OciDescriptor.{OciDescriptor}
use Rattle.oci_manifests.specs.declared.blob.Config.{Config}
use Rattle.oci_manifests.specs.declared.blob.ImageLayer.{ImageLayer}
use Rattle.oci_manifests.specs.declared.manifest.OciImageManifest.{OciImageManifest}
use Rattle.oci_names.specs.declared.reference.Reference.{Reference}
use Rattle.oci_protocol.specs.Ends.{UnlessMemory}
use Rattle.oci_protocol.specs.EveryRun.{EveryRun, ByResult, Heard}
use Rattle.oci_protocol.specs.Proto.{Headed, Answered, Failed, TooLong, SinkFailed, Reply, Done, bind, ◌>>=◌, ◌>>◌}
use Rattle.oci_protocol.specs.Runs.{Runs, Told}
use Rattle.oci_protocol.proofs.Parts.{Runs-parts}
use Rattle.oci_protocol.proofs.RunFacts.{done_run, EveryRun-done, EveryRun-more, EveryRun-each, EveryRun-step, EveryRun-follow, EveryRun-recall, EveryRun-keep, Meets-shows}
use Rattle.oci_transport.specs.Headers.{Fields, added, first_of, values_of}
use Rattle.oci_transport.specs.Link.{Link, answer_of}
use Rattle.oci_transport.specs.declared.message.Answer.{Answer}
use Rattle.oci_transport.specs.declared.message.AnswerHead.{AnswerHead}
use Rattle.oci_transport.specs.declared.message.Exchange.{Exchange}
use Rattle.oci_transport.specs.declared.message.Method.{Method}
use Rattle.oci_transport.specs.declared.message.Method.TheVariants.{Post, Patch, Put}
use Rattle.oci_transport.specs.declared.message.Request.{Request}
use Rattle.engine_terms.specs.Contexts.{Context}
use Rattle.engine_terms.specs.Error.{is_memory}
use Rattle.engine_terms.specs.declared.error.SpecViolation.TheVariants.{Status}
use Rattle.engine_terms.specs.declared.error.OciDistributionError.{OciDistributionError}
use Rattle.engine_terms.specs.declared.error.OciDistributionError.TheVariants as refusal
use Rattle.engine_terms.specs.declared.settings.Settings.{Settings}
use Rattle.engine_requests.specs.Addresses.{uploads_text, url_read}
use Rattle.engine_requests.specs.Requests.{with_header, with_accept, with_token, headers_of, bare_request, request_of}
use Rattle.engine_rows.specs.Rows.{Row, authorized, store}
use Rattle.request_laws.proofs.PreparedRequests.{with_ok, into_ok}
use Rattle.request_laws.proofs.RequestConfinement.{request_method_is, request_url_is}
use Rattle.push_rows.specs.Bodies.{bodies}
use Rattle.push_rows.specs.Calls.{push_chunked, not_empty, push_whole, is_violation, or_whole, push_blob}
use Rattle.push_rows.specs.Contents.{bytes_of, octet_stream, range_text, with_length, with_type, with_fields, with_content}
use Rattle.push_rows.specs.Locations.{location_of, located}
use Rattle.push_rows.specs.PieceStates.{part}
use Rattle.push_rows.specs.Uploads.{unless_success, location_reply, location_after, sent, upload_begun, chunk_sent, upload_ended, chunks, chunks_sent}
use Rattle.push_rows.specs.declared.content.Content.{Content}
use Rattle.push_rows.specs.declared.content.Content.TheVariants.{Nothing, Whole, Chunk, Document}
use Rattle.push_laws.proofs.PushedHeaders.{content_made}
use Rattle.push_rows.specs.Images.{digest_of_entry, digest_of_layer, manifest_for, digests_for, layers_pushed, image_pushed, push}
use Rattle.push_laws.specs.Order.{OfBlob, BlobAnswered, InOrder, NothingFirst, pushed_digests, ManifestsComeLast}
use Rattle.push_rows.specs.declared.responses.PushResponse.{PushResponse}
use Rattle.push_laws.proofs.SentDocuments.{bodiless_run, exposed, only_one}

-- ---- exchanges that push no document

both_none : (p q : List (List ℕ)) → p ++ q ≡ [] → (p ≡ []) × (q ≡ [])
both_none [] q none = (refl, none)
both_none (x ∷ xs) q none = absurd (cc none)

bodiless_all : (c : List Exchange) → bodies c ≡ [] → All OfBlob c
bodiless_all [] none = All-nil OfBlob
bodiless_all (e ∷ c) none = let parts = both_none (part e.request.body) (bodies c) none in All-cons OfBlob e c (inl parts.0) (bodiless_all c parts.1)

-- ---- rows of blobs: whatever they return, they push no document; G holds after a result

abbrev Refused : ℕ → List Exchange → ℕ → OciDistributionError → Type 0
Refused m c n e = MatchBool (is_memory e) (Unit {0}) (All OfBlob c)

abbrev Held : (List Exchange → Type 0) → {A : Type 0} → ℕ → List Exchange → ℕ → A → Type 0
Held G m c n a = All OfBlob c × G c

record Blobs (G : List Exchange → Type 0) {A : Type 0} (p : Row A) : Type 0 where
  runs : EveryRun (ByResult (Held G) Refused) p

abbrev Any : List Exchange → Type 0
Any c = Unit {0}

unless : (c : List Exchange) (e : OciDistributionError) → All OfBlob c → MatchBool (is_memory e) (Unit {0}) (All OfBlob c)
unless c e only = by_memory (is_memory e) where
  by_memory : (b : Bool) → MatchBool b (Unit {0}) (All OfBlob c)
  by_memory true = tt
  by_memory false = only

blobs_done : (G : List Exchange → Type 0) {A : Type 0} (a : A) → G [] → Blobs G (Done (Ok a))
blobs_done G a g = record { runs = EveryRun-done _ (Ok a) (λ m. (All-nil OfBlob, g)) }

after : {A : Type 0} (G H K : List Exchange → Type 0) (m start : ℕ) (c d : List Exchange) (o : ℕ) (r : Result A OciDistributionError) → ((c d : List Exchange) → G c → H d → K (c ++ d)) → All OfBlob c × G c → ByResult (Held H) Refused start d o r → ByResult (Held K) Refused m (c ++ d) o r
after G H K m start c d o (Ok a) both first g = (All-append OfBlob c d first.0 g.0, both c d first.1 g.1)
after G H K m start c d o (Err e) both first g = by_memory (is_memory e) g where
  by_memory : (b : Bool) → MatchBool b (Unit {0}) (All OfBlob d) → MatchBool b (Unit {0}) (All OfBlob (c ++ d))
  by_memory true g = tt
  by_memory false g = All-append OfBlob c d first.0 g

blobs_next : {A B : Type 0} (G H K : List Exchange → Type 0) (p : Row A) (f : A → Row B) → ((c d : List Exchange) → G c → H d → K (c ++ d)) → Blobs G p → ((a : A) → Blobs H (f a)) → Blobs K (p >>= f)
blobs_next G H K p f both first each = record {
  runs = EveryRun-each (Held G) (Held K) Refused p f first.runs (λ m n c a h. EveryRun-more (ByResult (Held H) Refused) (λ start d o r. ByResult (Held K) Refused m (c ++ d) o r) (f a) (each a).runs (λ start o d r g. after G H K m start c d o r both h g));
}

blobs_step : {A B : Type 0} (G : List Exchange → Type 0) (r : Result A OciDistributionError) (f : A → Row B) → ((a : A) → r ≡ Ok a → Blobs G (f a)) → Blobs G (Done r >>= f)
blobs_step G r f each = record { runs = EveryRun-step (ByResult (Held G) Refused) r f (λ a is. (each a is).runs) (λ e is m. unless [] e (All-nil OfBlob)) }

-- ---- one request

-- a request that pushes no document
abbrev OfRequest : Request → Type 0
OfRequest request = (part request.body ≡ []) ⊎ (first_of (codes "content-type") request.headers ≡ Some octet_stream)

-- a response to it has this status
record Confirmed (method : Method) (url : List ℕ) (expected : ℕ) (c : List Exchange) : Type 0 where
  exchange : Exchange
  contains : Contains c exchange
  method_is : exchange.request.method ≡ method
  url_is : exchange.request.url ≡ url
  answer : Answer
  answered : exchange.answer ≡ Some answer
  status : answer.status ≡ expected

same_status : (a b : ℕ) → nat_eq a b ≡ true → a ≡ b
same_status a b h = grind (arith, nat_tests, h)

-- a location is returned only of the expected status
located_status : (s : Settings) (image : Reference) (expected : ℕ) (url : List ℕ) (head : AnswerHead) (location : List ℕ) → located s image expected url head ≡ Ok location → head.status ≡ expected
unfolding located
located_status s image expected url head location = by_status (nat_eq head.status expected) refl where
  by_status : (b : Bool) → nat_eq head.status expected ≡ b → (if b then location_of s image (first_of (codes "location") head.headers) else Err (refusal.SpecViolationError (Status expected head.status url))) ≡ Ok location → head.status ≡ expected
  by_status true test is = same_status head.status expected test
  by_status false test is = absurd (cc is)

module _ (s : Context) (image : Reference) where
  token_blobs : (url : Parts) → Blobs Any (authorized s image Push url)
  token_blobs url = record { runs = record { shows = λ k l m n c r run. by_result k l m n c r run } } where
    by_error : (k l : AuthState) (m n : ℕ) (c : List Exchange) (e : OciDistributionError) (b : Bool) → is_memory e ≡ b → Runs (authorized s image Push url) k m c n l (Err e) → MatchBool b (Unit {0}) (All OfBlob c)
    by_error k l m n c e true is run = tt
    by_error k l m n c e false is run = bodiless_all c (bodiless_run s image url k l m n c (Err e) (record { outcome = rw is (record { conversation = c; told = exposed c m n; runs = run; runs_by = λ t before none. absurd (cc none) }) }))

    by_result : (k l : AuthState) (m n : ℕ) (c : List Exchange) (r : Result (Option RegistryTokenType) OciDistributionError) → Runs (authorized s image Push url) k m c n l r → ByResult (Held Any) Refused m c n r
    by_result k l m n c (Ok token) run = (bodiless_all c (bodiless_run s image url k l m n c (Ok token) (record { outcome = record { conversation = c; told = exposed c m n; runs = run; runs_by = λ t before none. absurd (cc none) } })), tt)
    by_result k l m n c (Err e) run = by_error k l m n c e (is_memory e) refl run

  location_blobs : (expected : ℕ) (request : Request) → OfRequest request → Blobs (Confirmed request.method request.url expected) (location_after s.settings image expected request)
  unfolding location_after
  location_blobs expected request of = record { runs = EveryRun-follow (ByResult (Held G) Refused) 0 request (unless_success s.settings.max_body_bytes) (location_reply s.settings image expected) replied } where
    G : List Exchange → Type 0
    G = Confirmed request.method request.url expected

    only : (c : List Exchange) (e : Exchange) → c ≡ e ∷ [] → e.request ≡ request → All OfBlob (c ++ [])
    only c e one is = subst (All OfBlob) (sym (append-nil c ∙ one)) (All-cons OfBlob e [] (subst OfRequest (sym is) of) (All-nil OfBlob))

    headed : (m after : ℕ) (c : List Exchange) (last : Request) (head : AnswerHead) (r : Result (List ℕ) OciDistributionError) → located s.settings image expected last.url head ≡ r → Heard 0 request (unless_success s.settings.max_body_bytes) m c after last (Headed head) → ByResult (Held G) Refused m (c ++ []) after r
    headed m after c last head (Ok location) is h =
        let one = only_one request last m after c (Headed head) h in
        let b = h.replies.reply_is in (
          only c h.exchange one.0 one.1,
          record {
            exchange = h.exchange;
            contains = subst (λ xs. Contains xs h.exchange) (sym (append-nil c ∙ one.0)) (0, omega arith, refl);
            method_is = ap (λ (q : Request). q.method) one.1;
            url_is = ap (λ (q : Request). q.url) one.1;
            answer = answer_of head b.0;
            answered = b.1;
            status = located_status s.settings image expected last.url head location is;
          },
        )
    headed m after c last head (Err e) is h = let one = only_one request last m after c (Headed head) h in unless (c ++ []) e (only c h.exchange one.0 one.1)

    replied : (k l : AuthState) (m after o : ℕ) (c d : List Exchange) (last : Request) (reply : Reply) (a : Result (List ℕ) OciDistributionError) → Heard 0 request (unless_success s.settings.max_body_bytes) m c after last reply → Runs (location_reply s.settings image expected last reply) k after d o l a → ByResult (Held G) Refused m (c ++ d) o a
    replied k l m after o c d last (Headed head) a h run = done_run (λ start d o a. ByResult (Held G) Refused m (c ++ d) o a) (located s.settings image expected last.url head) k l after o d a (headed m after c last head (located s.settings image expected last.url head) refl h) run
    replied k l m after o c d last (Answered answer) a h run = let one = only_one request last m after c (Answered answer) h in done_run (λ start d o a. ByResult (Held G) Refused m (c ++ d) o a) (Err (refusal.ServerError answer.status last.url answer.body)) k l after o d a (only c h.exchange one.0 one.1) run
    replied k l m after o c d last Failed a h run = let one = only_one request last m after c Failed h in done_run (λ start d o a. ByResult (Held G) Refused m (c ++ d) o a) (Err refusal.TransportFault) k l after o d a (only c h.exchange one.0 one.1) run
    replied k l m after o c d last TooLong a h run = let one = only_one request last m after c TooLong h in done_run (λ start d o a. ByResult (Held G) Refused m (c ++ d) o a) (Err refusal.BodyTooLong) k l after o d a (only c h.exchange one.0 one.1) run
    replied k l m after o c d last SinkFailed a h run = let one = only_one request last m after c SinkFailed h in done_run (λ start d o a. ByResult (Held G) Refused m (c ++ d) o a) (Err refusal.SinkFault) k l after o d a (only c h.exchange one.0 one.1) run

-- ---- a blob's content

abbrev typed : Fields → List (List ℕ)
typed headers = values_of (codes "content-type") headers

length_keeps : (m : Fields) (value : List ℕ) → typed (added m (codes "content-length") value) ≡ typed m
length_keeps m value = ap (λ (o : Option (List (List ℕ))). unwrap_or o []) (get-insert nat_list_cmp_total m (codes "content-length") (values_of (codes "content-length") m ++ value ∷ []) (codes "content-type"))

range_keeps : (m : Fields) (value : List ℕ) → typed (added m (codes "content-range") value) ≡ typed m
range_keeps m value = ap (λ (o : Option (List (List ℕ))). unwrap_or o []) (get-insert nat_list_cmp_total m (codes "content-range") (values_of (codes "content-range") m ++ value ∷ []) (codes "content-type"))

type_added : (m : Fields) (value : List ℕ) → typed (added m (codes "content-type") value) ≡ typed m ++ value ∷ []
type_added m value = ap (λ (o : Option (List (List ℕ))). unwrap_or o []) (get-insert nat_list_cmp_total m (codes "content-type") (values_of (codes "content-type") m ++ value ∷ []) (codes "content-type"))

agent_keeps : (m : Fields) (value : List ℕ) → typed (added m (codes "user-agent") value) ≡ typed m
agent_keeps m value = ap (λ (o : Option (List (List ℕ))). unwrap_or o []) (get-insert nat_list_cmp_total m (codes "user-agent") (values_of (codes "user-agent") m ++ value ∷ []) (codes "content-type"))

token_keeps : (m : Fields) (value : List ℕ) → typed (added m (codes "authorization") value) ≡ typed m
token_keeps m value = ap (λ (o : Option (List (List ℕ))). unwrap_or o []) (get-insert nat_list_cmp_total m (codes "authorization") (values_of (codes "authorization") m ++ value ∷ []) (codes "content-type"))

by_token : (token : Option RegistryTokenType) (agent headers : Fields) → typed agent ≡ [] → with_token token agent ≡ Ok headers → typed headers ≡ []
by_token None agent headers none is = let same : agent ≡ headers = cc is in ap typed (sym same) ∙ none
by_token (Some token) agent headers none is = ap typed (with_ok agent (codes "authorization") (authorization_of token) headers is) ∙ token_keeps agent (authorization_of token) ∙ none

-- a request without a content has no type
untyped : (s : Settings) (method : Method) (url : Parts) (token : Option RegistryTokenType) (bare : Request) → request_of s method url None token ≡ Ok bare → typed bare.headers ≡ []
unfolding request_of
untyped s method url token bare is =
    let made = into_ok (headers_of s None token) _ bare is in
    let named = into_ok (with_header map.empty (codes "user-agent") s.user_agent into with_accept None) (with_token token) made.0 made.1 in
    let agent = into_ok (with_header map.empty (codes "user-agent") s.user_agent) (with_accept None) named.0 named.1 in
    let same : agent.0 ≡ named.0 = cc agent.2 in
    let whole : bare_request method url made.0 ≡ bare = cc made.2 in
    let none : typed map.empty ≡ [] = ap (λ (o : Option (List (List ℕ))). unwrap_or o []) (get-empty by_bytes (codes "content-type")) in
    ap (λ (q : Request). typed q.headers) (sym whole) ∙ by_token token named.0 made.0 (ap typed (sym same ∙ with_ok map.empty (codes "user-agent") s.user_agent agent.0 agent.1) ∙ agent_keeps map.empty s.user_agent ∙ none) named.2

sized : (bytes : List ℕ) (m made : Fields) → typed m ≡ [] → with_length bytes m ≡ Ok made → typed made ≡ []
sized bytes m made none is = ap typed (with_ok m (codes "content-length") (decimal (length bytes)) made is) ∙ length_keeps m (decimal (length bytes)) ∙ none

octets : (m made : Fields) → typed m ≡ [] → with_type octet_stream m ≡ Ok made → typed made ≡ octet_stream ∷ []
octets m made none is = ap typed (with_ok m (codes "content-type") octet_stream made is) ∙ type_added m octet_stream ∙ ap (λ xs. xs ++ octet_stream ∷ []) none

whole_typed : (bytes : List ℕ) (m made : Fields) → typed m ≡ [] → with_fields (Whole bytes) m ≡ Ok made → typed made ≡ octet_stream ∷ []
whole_typed bytes m made none is = let at = into_ok (with_length bytes m) (with_type octet_stream) made is in octets at.0 made (sized bytes m at.0 none at.1) at.2

chunk_typed : (start : ℕ) (bytes : List ℕ) (m made : Fields) → typed m ≡ [] → with_fields (Chunk start bytes) m ≡ Ok made → typed made ≡ octet_stream ∷ []
chunk_typed start bytes m made none is =
    let at = into_ok (with_header m (codes "content-range") (range_text start bytes) into with_length bytes) (with_type octet_stream) made is in
    let by = into_ok (with_header m (codes "content-range") (range_text start bytes)) (with_length bytes) at.0 at.1 in
    octets at.0 made (sized bytes by.0 at.0 (ap typed (with_ok m (codes "content-range") (range_text start bytes) by.0 by.1) ∙ range_keeps m (range_text start bytes) ∙ none) by.2) at.2

abbrev IsBlob : Content → Type 0
IsBlob (Document kind bytes) = ⊥
IsBlob content = Unit {0}

-- the headers of a request with a content
made_headers : (content : Content) (bare request : Request) → with_content content bare ≡ Ok request → (headers : Fields) × (with_fields content bare.headers ≡ Ok headers) × (request.headers ≡ headers)
unfolding with_content
made_headers content bare request is =
    let at = into_ok (with_fields content bare.headers) _ request is in
    let made : (record bare { headers = at.0; body = bytes_of content }) ≡ request = cc at.2 in
    (at.0, at.1, ap (λ (q : Request). q.headers) (sym made))

first_typed : (request : Request) (headers : Fields) → request.headers ≡ headers → typed headers ≡ octet_stream ∷ [] → OfRequest request
first_typed request headers same is = inr (ap (λ (xs : List (List ℕ)). slice_get xs 0) (ap typed same ∙ is))

of_request : (content : Content) (bare request : Request) → IsBlob content → typed bare.headers ≡ [] → with_content content bare ≡ Ok request → OfRequest request
of_request Nothing bare request of none is = inl (ap part (content_made Nothing bare request is).body_is)
of_request (Whole bytes) bare request of none is = let at = made_headers (Whole bytes) bare request is in first_typed request at.0 at.2 (whole_typed bytes bare.headers at.0 none at.1)
of_request (Chunk start bytes) bare request of none is = let at = made_headers (Chunk start bytes) bare request is in first_typed request at.0 at.2 (chunk_typed start bytes bare.headers at.0 none at.1)
of_request (Document kind bytes) bare request of none is = absurd of

-- ---- blobs that were answered

answered_after : (digest : List ℕ) (c d : List Exchange) → BlobAnswered digest d → BlobAnswered digest (c ++ d)
answered_after digest c d g = record { exchange = g.exchange; contains = Contains-append_right c d g.exchange g.contains; method = g.method; location = g.location; url = g.url; answer = g.answer; answered = g.answered; status = g.status }

answered_before : (digest : List ℕ) (c d : List Exchange) → BlobAnswered digest c → BlobAnswered digest (c ++ d)
answered_before digest c d g = record { exchange = g.exchange; contains = Contains-append_left c d g.exchange g.contains; method = g.method; location = g.location; url = g.url; answer = g.answer; answered = g.answered; status = g.status }

-- each blob was answered
abbrev AllAnswered : List (List ℕ) → List Exchange → Type 0
AllAnswered digests c = (digest : List ℕ) → Contains digests digest → BlobAnswered digest c

none_answered : (c : List Exchange) → AllAnswered [] c
none_answered c digest (n, small, is) = absurd (omega (arith, small))

one_more : (digest : List ℕ) (digests : List (List ℕ)) (c d : List Exchange) → BlobAnswered digest c → AllAnswered digests d → AllAnswered (digest ∷ digests) (c ++ d)
one_more digest digests c d one rest other (zero, small, is) = subst (λ x. BlobAnswered x (c ++ d)) is (answered_before digest c d one)
one_more digest digests c d one rest other (suc n, small, is) = answered_after other c d (rest other (n, omega (arith, small), is))

-- ---- uploads

module _ (s : Context) (image : Reference) where
  sent_blobs : (method : Method) (url : Parts) (content : Content) (expected : ℕ) → IsBlob content → Blobs (Confirmed method (serialize url) expected) (sent s image method url content expected)
  unfolding sent
  sent_blobs method url content expected of =
      let G = Confirmed method (serialize url) expected in
      blobs_next Any G G (authorized s image Push url) _ (λ c d u g. confirmed_after c d g) (token_blobs s image url) (λ token.
      blobs_step G (request_of s.settings method url None token) _ (λ bare bare_is.
      blobs_step G (with_content content bare) _ (λ request is.
      let made = content_made content bare request is in
      let by : request.method ≡ method = made.method_is ∙ request_method_is s.settings method url None token bare bare_is in
      let to : request.url ≡ serialize url = made.url_is ∙ request_url_is s.settings method url None token bare bare_is in
      subst (λ (m : Method). Blobs (Confirmed m (serialize url) expected) (location_after s.settings image expected request)) by
      (subst (λ (u : List ℕ). Blobs (Confirmed request.method u expected) (location_after s.settings image expected request)) to
      (location_blobs s image expected request (of_request content bare request of (untyped s.settings method url token bare bare_is) is)))))) where
        confirmed_after : (c d : List Exchange) → Confirmed method (serialize url) expected d → Confirmed method (serialize url) expected (c ++ d)
        confirmed_after c d g = record { exchange = g.exchange; contains = Contains-append_right c d g.exchange g.contains; method_is = g.method_is; url_is = g.url_is; answer = g.answer; answered = g.answered; status = g.status }

  -- with what a response confirmed unspecified
  loosely : {A : Type 0} {G : List Exchange → Type 0} (p : Row A) → Blobs G p → Blobs Any p
  loosely {A} {G} p h = record { runs = EveryRun-more (ByResult (Held G) Refused) (ByResult (Held Any) Refused) p h.runs by_result } where
    by_result : (m n : ℕ) (c : List Exchange) (r : Result A OciDistributionError) → ByResult (Held G) Refused m c n r → ByResult (Held Any) Refused m c n r
    by_result m n c (Ok a) g = (g.0, tt)
    by_result m n c (Err e) g = g

  last_is : (G : List Exchange → Type 0) → ((c d : List Exchange) → G d → G (c ++ d)) → (c d : List Exchange) → Any c → G d → G (c ++ d)
  last_is G more c d u g = more c d g

  begun_blobs : Blobs Any (upload_begun s image)
  unfolding upload_begun
  begun_blobs = blobs_step Any (url_read (uploads_text s.settings image)) _ (λ url is. loosely (sent s image Post url Nothing 202) (sent_blobs Post url Nothing 202 tt))

  chunk_blobs : (location : List ℕ) (start : ℕ) (bytes : List ℕ) → Blobs Any (chunk_sent s image location start bytes)
  unfolding chunk_sent
  chunk_blobs location start bytes = blobs_step Any (url_read location) _ (λ url is. loosely (sent s image Patch url (Chunk start bytes) 202) (sent_blobs Patch url (Chunk start bytes) 202 tt))

  chunks_blobs : (location : List ℕ) (start : ℕ) (parts : List (List ℕ)) → Blobs Any (chunks_sent s image location start parts)
  unfolding chunks_sent
  chunks_blobs location start [] = blobs_done Any location tt
  chunks_blobs location start (chunk ∷ rest) = blobs_next Any Any Any (chunk_sent s image location start chunk) _ (λ c d g h. tt) (chunk_blobs location start chunk) (λ next. chunks_blobs next (start + length chunk) rest)

  ended_blobs : (digest location : List ℕ) (content : Content) → IsBlob content → Blobs (BlobAnswered digest) (upload_ended s image digest location content)
  unfolding upload_ended
  ended_blobs digest location content of = blobs_step (BlobAnswered digest) (url_read location) _ (λ url is.
      let to = append_query_pairs url ((codes "digest", digest) ∷ []) in
      record { runs = EveryRun-more (ByResult (Held (Confirmed Put (serialize to) 201)) Refused) (ByResult (Held (BlobAnswered digest)) Refused) (sent s image Put to content 201) (sent_blobs Put to content 201 of).runs (λ m n c r g. by_result url m n c r g) }) where
        by_result : (url : Parts) (m n : ℕ) (c : List Exchange) (r : Result (List ℕ) OciDistributionError) → ByResult (Held (Confirmed Put (serialize (append_query_pairs url ((codes "digest", digest) ∷ []))) 201)) Refused m c n r → ByResult (Held (BlobAnswered digest)) Refused m c n r
        by_result url m n c (Ok location) g = (g.0, record { exchange = g.1.exchange; contains = g.1.contains; method = g.1.method_is; location = url; url = g.1.url_is; answer = g.1.answer; answered = g.1.answered; status = g.1.status })
        by_result url m n c (Err e) g = g

  chunked_blobs : (content digest : List ℕ) → Blobs (BlobAnswered digest) (push_chunked s image content digest)
  unfolding push_chunked
  chunked_blobs content digest =
      let G = BlobAnswered digest in
      blobs_next Any G G (upload_begun s image) _ (last_is G (answered_after digest)) begun_blobs (λ location.
      blobs_next Any G G (chunks_sent s image location 0 (chunks content)) _ (last_is G (answered_after digest)) (chunks_blobs location 0 (chunks content)) (λ location. ended_blobs digest location Nothing tt))

  whole_blobs : (content digest : List ℕ) → Blobs (BlobAnswered digest) (push_whole s image content digest)
  unfolding push_whole
  whole_blobs content digest =
      let G = BlobAnswered digest in
      blobs_next Any G G (upload_begun s image) _ (last_is G (answered_after digest)) begun_blobs (λ location.
      blobs_step G (not_empty content) _ (λ u is. ended_blobs digest location (Whole content) tt))

  -- in either way
  only_violation : (e : OciDistributionError) → is_violation e ≡ true → is_memory e ≡ false
  only_violation (refusal.SpecViolationError v) is = refl
  only_violation _ is = absurd (cc is)

  module _ (content digest : List ℕ) where
    abbrev Answers : ℕ → List Exchange → ℕ → Result (List ℕ) OciDistributionError → Type 0
    Answers = ByResult (Held (BlobAnswered digest)) Refused

    or_blobs : (m n : ℕ) (c : List Exchange) (r : Result (List ℕ) OciDistributionError) → Answers m c n r → (k l : AuthState) (d : List Exchange) (o : ℕ) (b : Result (List ℕ) OciDistributionError) → Runs (or_whole (push_whole s image content digest) r) k n d o l b → Answers m (c ++ d) o b
    or_blobs m n c (Ok location) h k l d o b run = done_run (λ start d o b. Answers m (c ++ d) o b) (Ok location) k l n o d b (rw append-nil h) run
    or_blobs m n c (Err e) h k l d o b run = by_test (is_violation e) refl run where
      again : is_violation e ≡ true → All OfBlob c
      again is = subst (λ b. MatchBool b (Unit {0}) (All OfBlob c)) (only_violation e is) h

      by_test : (violates : Bool) → is_violation e ≡ violates → Runs (if violates then push_whole s image content digest else Done (Err e)) k n d o l b → Answers m (c ++ d) o b
      by_test true is run = after Any (BlobAnswered digest) (BlobAnswered digest) m n c d o b (last_is (BlobAnswered digest) (answered_after digest)) (again is, tt) ((whole_blobs content digest).runs.shows k l n o d b run)
      by_test false is run = done_run (λ start d o b. Answers m (c ++ d) o b) (Err e) k l n o d b (rw append-nil h) run

    blob_blobs : Blobs (BlobAnswered digest) (push_blob s image content digest)
    unfolding push_blob
    blob_blobs = by_setting s.settings.use_monolithic_push where
      by_setting : (b : Bool) → Blobs (BlobAnswered digest) (if b then push_whole s image content digest else bind (push_chunked s image content digest) (or_whole (push_whole s image content digest)))
      by_setting true = whole_blobs content digest
      by_setting false = record {
        runs = record {
          shows = λ k l m n c b run.
              let p = push_chunked s image content digest in
              let t = Runs-parts p (or_whole (push_whole s image content digest)) k m c n l b run in
              subst (λ c. Answers m c n b) (sym t.joined) (or_blobs m t.count t.first t.answer ((chunked_blobs content digest).runs.shows k t.between m t.count t.first t.answer t.runs_first) t.between l t.second n b t.runs_second);
        };
      }

  -- ---- an image

  layers_blobs : (digests : List (List ℕ)) (layers : List ImageLayer) → length digests ≡ length layers → Blobs (AllAnswered digests) (layers_pushed s image digests layers)
  unfolding layers_pushed
  layers_blobs [] [] same = blobs_done (AllAnswered []) tt (none_answered [])
  layers_blobs [] (layer ∷ layers) same = absurd (omega (arith, same))
  layers_blobs (digest ∷ digests) [] same = absurd (omega (arith, same))
  layers_blobs (digest ∷ digests) (layer ∷ layers) same = blobs_next (BlobAnswered digest) (AllAnswered digests) (AllAnswered (digest ∷ digests)) (push_blob s image layer.content digest) _ (one_more digest digests) (blob_blobs layer.content digest) (λ url. layers_blobs digests layers (omega (arith, same)))

map_length : {A : Type 0} (f : A → List ℕ) (xs : List A) → length (map_of f xs) ≡ length xs
map_length f [] = refl
map_length f (x ∷ xs) = let rest = map_length f xs in omega (arith, rest)

same_count : (entries : List OciDescriptor) (layers : List ImageLayer) → length (digests_for entries layers) ≡ length layers
same_count entries layers = by_test (nat_eq (length entries) (length layers)) refl where
  by_test : (b : Bool) → nat_eq (length entries) (length layers) ≡ b → length (if b then map_of digest_of_entry entries else map_of digest_of_layer layers) ≡ length layers
  by_test true is = let same : length entries ≡ length layers = grind (arith, nat_tests, is) in map_length digest_of_entry entries ∙ same
  by_test false is = map_length digest_of_layer layers

-- the last one was answered too
last_answered : (digests : List (List ℕ)) (last : List ℕ) (c d : List Exchange) → AllAnswered digests c → BlobAnswered last d → AllAnswered (digests ++ last ∷ []) (c ++ d)
last_answered [] last c d all one other (zero, small, is) = subst (λ x. BlobAnswered x (c ++ d)) is (answered_after last c d one)
last_answered [] last c d all one other (suc n, small, is) = absurd (omega (arith, small))
last_answered (digest ∷ digests) last c d all one other (zero, small, is) = subst (λ x. BlobAnswered x (c ++ d)) is (answered_before digest c d (all digest (zero, omega arith, refl)))
last_answered (digest ∷ digests) last c d all one other (suc n, small, is) = last_answered digests last c d (λ x at. all x (Contains-append_right (digest ∷ []) digests x at)) one other (n, omega (arith, small), is)

module _ (digests : List (List ℕ)) where
  abbrev Ordered : {A : Type 0} → ℕ → List Exchange → ℕ → Result A OciDistributionError → Type 0
  Ordered = ByResult (λ m c n a. InOrder digests c) (λ m c n e. MatchBool (is_memory e) (Unit {0}) (InOrder digests c))

  blobs_alone : (c : List Exchange) → All OfBlob c → InOrder digests c
  blobs_alone c only = record { blobs = c; rest = []; split = sym (append-nil c); only = only; first = inl refl }

  any_ordered : {A : Type 0} (m n : ℕ) (c : List Exchange) (r : Result A OciDistributionError) → InOrder digests c → Ordered m c n r
  any_ordered m n c (Ok a) order = order
  any_ordered m n c (Err e) order = by_memory (is_memory e) where
    by_memory : (b : Bool) → MatchBool b (Unit {0}) (InOrder digests c)
    by_memory true = tt
    by_memory false = order

  -- a refusal of a blob
  refused_alone : (c : List Exchange) (e : OciDistributionError) → MatchBool (is_memory e) (Unit {0}) (All OfBlob c) → MatchBool (is_memory e) (Unit {0}) (InOrder digests c)
  refused_alone c e h = by_memory (is_memory e) h where
    by_memory : (b : Bool) → MatchBool b (Unit {0}) (All OfBlob c) → MatchBool b (Unit {0}) (InOrder digests c)
    by_memory true h = tt
    by_memory false h = blobs_alone c h

module _ (s : Context) (image : Reference) (layers : List ImageLayer) (config : Config) (manifest : OciImageManifest) where
  abbrev Named : List (List ℕ)
  Named = digests_for manifest.layers layers

  abbrev D : List (List ℕ)
  D = pushed_digests manifest layers

  abbrev Unordered : ℕ → List Exchange → ℕ → OciDistributionError → Type 0
  Unordered m c n e = MatchBool (is_memory e) (Unit {0}) (InOrder D c)

  first_ordered : (m n : ℕ) (c : List Exchange) (r : Result (Unit {0}) OciDistributionError) → ByResult (Held (AllAnswered Named)) Refused m c n r → ByResult (Held (AllAnswered Named)) Unordered m c n r
  first_ordered m n c (Ok a) g = g
  first_ordered m n c (Err e) g = refused_alone D c e g

  -- after the layers
  module _ (c : List Exchange) (held : All OfBlob c × AllAnswered Named c) where
    abbrev HeldNow : ℕ → List Exchange → ℕ → List ℕ → Type 0
    HeldNow m d n url = All OfBlob (c ++ d) × AllAnswered D (c ++ d)

    abbrev InOrderNow : {A : Type 0} → ℕ → List Exchange → ℕ → A → Type 0
    InOrderNow m d n a = InOrder D (c ++ d)

    abbrev UnorderedNow : ℕ → List Exchange → ℕ → OciDistributionError → Type 0
    UnorderedNow m d n e = MatchBool (is_memory e) (Unit {0}) (InOrder D (c ++ d))

    second_ordered : (m n : ℕ) (d : List Exchange) (r : Result (List ℕ) OciDistributionError) → ByResult (Held (BlobAnswered manifest.config.digest)) Refused m d n r → ByResult HeldNow UnorderedNow m d n r
    second_ordered m n d (Ok url) g = (All-append OfBlob c d held.0 g.0, last_answered Named manifest.config.digest c d held.1 g.1)
    second_ordered m n d (Err e) g = by_memory (is_memory e) g where
      by_memory : (b : Bool) → MatchBool b (Unit {0}) (All OfBlob d) → MatchBool b (Unit {0}) (InOrder D (c ++ d))
      by_memory true g = tt
      by_memory false g = blobs_alone D (c ++ d) (All-append OfBlob c d held.0 g)

    -- and the configuration: then whatever is requested comes after each blob
    config_ordered : {B : Type 0} (f : List ℕ → Row B) → EveryRun (ByResult InOrderNow UnorderedNow) (push_blob s image config.content manifest.config.digest >>= f)
    config_ordered {B} f = EveryRun-each HeldNow InOrderNow UnorderedNow (push_blob s image config.content manifest.config.digest) f (EveryRun-more (ByResult (Held (BlobAnswered manifest.config.digest)) Refused) (ByResult HeldNow UnorderedNow) (push_blob s image config.content manifest.config.digest) (blob_blobs s image config.content manifest.config.digest).runs second_ordered)
        (λ m n d url now. record { shows = λ k l start o e r run. any_result m d e o r (record { blobs = c ++ d; rest = e; split = sym (append_assoc c d e); only = now.0; first = inr now.1 }) }) where
          any_result : (m : ℕ) (d e : List Exchange) (o : ℕ) (r : Result B OciDistributionError) → InOrder D (c ++ (d ++ e)) → ByResult InOrderNow UnorderedNow m (d ++ e) o r
          any_result m d e o (Ok a) order = order
          any_result m d e o (Err x) order = by_memory (is_memory x) where
            by_memory : (b : Bool) → MatchBool b (Unit {0}) (InOrder D (c ++ (d ++ e)))
            by_memory true = tt
            by_memory false = order

    as_outer : {B : Type 0} (m start o : ℕ) (d : List Exchange) (r : Result B OciDistributionError) → ByResult InOrderNow UnorderedNow start d o r → Ordered D m (c ++ d) o r
    as_outer m start o d (Ok a) g = g
    as_outer m start o d (Err e) g = g

  image_ordered : EveryRun (Ordered D) (image_pushed s image layers config manifest)
  unfolding image_pushed
  image_ordered = EveryRun-each (Held (AllAnswered Named)) (λ m c n a. InOrder D c) Unordered (layers_pushed s image Named layers) _ (EveryRun-more (ByResult (Held (AllAnswered Named)) Refused) (ByResult (Held (AllAnswered Named)) Unordered) (layers_pushed s image Named layers) (layers_blobs s image Named layers (same_count manifest.layers layers)).runs first_ordered)
      (λ m n c u held. EveryRun-more (ByResult (InOrderNow c held) (UnorderedNow c held)) (λ start d o r. Ordered D m (c ++ d) o r) _ (config_ordered c held _) (λ start o d r g. as_outer c held m start o d r g))

stored_first : {A : Type 0} (Q : ℕ → List Exchange → ℕ → Result A OciDistributionError → Type 0) (image : Reference) (a : RegistryAuth) (p : Row A) → EveryRun Q p → EveryRun Q (store image a >> p)
unfolding store bind
stored_first Q image a p h = EveryRun-recall Q _ (λ k. EveryRun-keep Q _ _ h)

-- ---- what was exposed

order_told : (digests : List (List ℕ)) (old new : Link) (r : Result PushResponse OciDistributionError) → UnlessMemory is_memory (λ r. Told (λ c. Ordered digests old.faults c new.faults r) old new) r → NothingFirst digests old new r
order_told digests old new (Ok a) told = told
order_told digests old new (Err e) told = by_memory (is_memory e) told where
  by_memory : (b : Bool) → MatchBool b (Unit {0}) (Told (λ c. MatchBool b (Unit {0}) (InOrder digests c)) old new) → MatchBool b (Unit {0}) (Told (InOrder digests) old new)
  by_memory true told = tt
  by_memory false told = told

pub image_first : ManifestsComeLast
unfolding push
image_first s image layers config a given old new k l r met =
    let manifest = manifest_for given layers config in
    let digests = pushed_digests manifest layers in
    order_told digests old new r (Meets-shows (Ordered digests) (stored_first (Ordered digests) image a (image_pushed s image layers config manifest) (image_ordered s image layers config manifest)) met)
