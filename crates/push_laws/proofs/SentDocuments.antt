-- What the request of a manifest contains, and which URL its result is.
use Rattle.std.proofs.Common.{◌≡◌, ◌⊎◌, inl, inr, ℕ, zero, Bool, true, false, List, [], ◌∷◌, ◌++◌, Option, Some, None, Result, Ok, Err, IfOk, codes, unwrap_or, refl, sym, ap, subst, ◌∙◌, append-nil}
use Rattle.std.specs.Prelude.{MatchBool, slice_get}
use Rattle.std.specs.Option.{option_map}
use Rattle.std.specs.FinMap as map
use Rattle.std.specs.FinMap.{get-insert, get-empty}
use Rattle.std.specs.Cmp.Lexicographic.{nat_list_cmp_total}
use Rattle.json_values.specs.Places.{by_bytes}
use Rattle.json_values.specs.Refusals.{◌>>=◌ as ◌into◌}
use Rattle.url.specs.Parts.{Parts, serialize}
use Rattle.oci_auth.specs.Auth.{authorization_of}
use Rattle.oci_auth.specs.declared.auth.RegistryAuth.{RegistryAuth}
use Rattle.oci_auth.specs.declared.auth_state.AuthState.{AuthState}
use Rattle.oci_auth.specs.declared.token_type.RegistryOperation.TheVariants.{Push}
use Rattle.oci_auth.specs.declared.token_type.RegistryTokenType.{RegistryTokenType}
use Rattle.oci_digests.specs.Names.{digest_text}
use Rattle.oci_manifests.specs.Document.{content_type_of}
use Rattle.oci_manifests.specs.declared.document.OciManifest.TheVariants.{ImageIndex}
use Rattle.oci_manifests.specs.declared.index.OciImageIndex.{OciImageIndex}
use Rattle.oci_docs.specs.Written.{manifest_text_of}
use Rattle.oci_names.specs.Reference.{tag_of}
use Rattle.oci_names.specs.declared.algorithm.Algorithm.TheVariants.{Sha256}
use Rattle.oci_names.specs.declared.reference.Reference.{Reference}
use Rattle.oci_protocol.specs.Ends.{UnlessMemory}
use Rattle.oci_protocol.specs.EveryRun.{EveryRun, ByResult, WhenOk, Heard}
use Rattle.oci_protocol.specs.Follow.{Trail}
use Rattle.oci_protocol.specs.Proto.{Reading, Reply, Headed, Answered, Failed, TooLong, SinkFailed, bind, ◌>>◌}
use Rattle.oci_protocol.specs.Runs.{Runs, Meets, Told}
use Rattle.oci_protocol.proofs.Ends.{Runs-ends}
use Rattle.oci_protocol.proofs.Parts.{Runs-parts}
use Rattle.oci_protocol.proofs.RunFacts.{done_run, EveryRun-each, EveryRun-step, EveryRun-follow, EveryRun-recall, EveryRun-keep, Meets-shows, Meets-shows-ok}
use Rattle.oci_transport.specs.Headers.{Fields, added, values_of}
use Rattle.oci_transport.specs.Link.{Link, Extends}
use Rattle.oci_transport.specs.Urls.{request_url}
use Rattle.oci_transport.specs.declared.message.AnswerHead.{AnswerHead}
use Rattle.oci_transport.specs.declared.message.Exchange.{Exchange}
use Rattle.oci_transport.specs.declared.message.Method.TheVariants.{Put}
use Rattle.oci_transport.specs.declared.message.Request.{Request}
use Rattle.engine_terms.specs.Contexts.{Context}
use Rattle.engine_terms.specs.Error.{is_memory}
use Rattle.engine_terms.specs.declared.error.GenericCause.TheVariants.{HeaderText}
use Rattle.engine_terms.specs.declared.error.OciDistributionError.{OciDistributionError}
use Rattle.engine_terms.specs.declared.error.OciDistributionError.TheVariants as refusal
use Rattle.engine_terms.specs.declared.settings.Settings.{Settings}
use Rattle.engine_requests.specs.Addresses.{manifest_name, manifest_text, url_or, url_read}
use Rattle.engine_requests.specs.Requests.{with_header, with_accept, with_token, headers_of, bare_request, request_of}
use Rattle.engine_rows.specs.Causes.{IsEarlyRefusal}
use Rattle.engine_rows.specs.Rows.{Row, authorized, store}
use Rattle.request_laws.proofs.PreparedRequests.{with_ok, into_ok}
use Rattle.request_laws.proofs.RequestConfinement.{request_method_is}
use Rattle.push_rows.specs.Bodies.{bodies}
use Rattle.push_rows.specs.Causes.{Named, OfNothing}
use Rattle.push_rows.specs.Contents.{with_fields, with_content}
use Rattle.push_rows.specs.Uploads.{unless_success, location_reply, location_after, sent}
use Rattle.push_rows.specs.Locations.{located}
use Rattle.push_rows.specs.declared.content.Content.TheVariants.{Document}
use Rattle.push_rows.proofs.Endings.{NoRegistry, authorized_fine, Textual, made_textual, content_textual}
use Rattle.push_rows.proofs.Quiet.{token_bodiless}
use Rattle.push_laws.proofs.PushedHeaders.{content_made}
use Rattle.push_laws.proofs.RequestCauses.{Loose, sent_shown}
use Rattle.push_rows.specs.Images.{before_end, named_url, named_for, unless_named, or_named, push_manifest_raw, push_manifest_list}
use Rattle.push_rows.specs.ImageCauses.{of_manifest, ManifestText}
use Rattle.push_rows.specs.Sent.{IsDocument, DocumentSent, SentBy, SendsDocument, NamedManifest}

-- ---- any run is exposed by some transport

abbrev pub exposing : List Exchange → ℕ → Link
exposing c n = record { told = Some c; rest = None; pieces = None; faults = n; exact = false; answers = None }

pub exposed : (c : List Exchange) (m n : ℕ) → Extends (exposing [] m) (exposing c n) c
exposed c m n = record {
  told = λ before is. let same : [] ≡ before = cc is in subst (λ (b : List Exchange). Some c ≡ Some (b ++ c)) same refl;
  table = λ a before none. absurd (cc none);
  stays = record { exact = refl; steady = λ a none. absurd (cc none); quiet = λ a none. absurd (cc none) };
}

-- the exchanges of a token step have no body
pub bodiless_run : (s : Context) (image : Reference) (url : Parts) (k l : AuthState) (m n : ℕ) (c : List Exchange) (r : Result (Option RegistryTokenType) OciDistributionError) → Meets is_memory (authorized s image Push url) (exposing [] m) (exposing c n) k l r → bodies c ≡ []
bodiless_run s image url k l m n c r met =
    let told = token_bodiless s image Push url met in
    let same : Some c ≡ Some told.conversation = told.told.told [] refl in
    let is : c ≡ told.conversation = cc same in
    ap bodies is ∙ told.holds

-- ---- the document's type

abbrev typed : Fields → List (List ℕ)
typed headers = values_of (codes "content-type") headers

agent_keeps : (m : Fields) (value : List ℕ) → typed (added m (codes "user-agent") value) ≡ typed m
agent_keeps m value = ap (λ (o : Option (List (List ℕ))). unwrap_or o []) (get-insert nat_list_cmp_total m (codes "user-agent") (values_of (codes "user-agent") m ++ value ∷ []) (codes "content-type"))

token_keeps : (m : Fields) (value : List ℕ) → typed (added m (codes "authorization") value) ≡ typed m
token_keeps m value = ap (λ (o : Option (List (List ℕ))). unwrap_or o []) (get-insert nat_list_cmp_total m (codes "authorization") (values_of (codes "authorization") m ++ value ∷ []) (codes "content-type"))

type_added : (m : Fields) (value : List ℕ) → typed (added m (codes "content-type") value) ≡ typed m ++ value ∷ []
type_added m value = ap (λ (o : Option (List (List ℕ))). unwrap_or o []) (get-insert nat_list_cmp_total m (codes "content-type") (values_of (codes "content-type") m ++ value ∷ []) (codes "content-type"))

none_typed : typed map.empty ≡ []
none_typed = ap (λ (o : Option (List (List ℕ))). unwrap_or o []) (get-empty by_bytes (codes "content-type"))

by_token : (token : Option RegistryTokenType) (agent headers : Fields) → typed agent ≡ [] → with_token token agent ≡ Ok headers → typed headers ≡ []
by_token None agent headers none is = let same : agent ≡ headers = cc is in ap typed (sym same) ∙ none
by_token (Some token) agent headers none is = ap typed (with_ok agent (codes "authorization") (authorization_of token) headers is) ∙ token_keeps agent (authorization_of token) ∙ none

-- a request without a content has none
untyped : (s : Settings) (url : Parts) (token : Option RegistryTokenType) (bare : Request) → request_of s Put url None token ≡ Ok bare → typed bare.headers ≡ []
unfolding request_of
untyped s url token bare is =
    let made = into_ok (headers_of s None token) _ bare is in
    let named = into_ok (with_header map.empty (codes "user-agent") s.user_agent into with_accept None) (with_token token) made.0 made.1 in
    let agent = into_ok (with_header map.empty (codes "user-agent") s.user_agent) (with_accept None) named.0 named.1 in
    let same : agent.0 ≡ named.0 = cc agent.2 in
    let whole : bare_request Put url made.0 ≡ bare = cc made.2 in
    ap (λ (q : Request). typed q.headers) (sym whole) ∙ by_token token named.0 made.0 (ap typed (sym same ∙ with_ok map.empty (codes "user-agent") s.user_agent agent.0 agent.1) ∙ agent_keeps map.empty s.user_agent ∙ none_typed) named.2

document_made : (s : Settings) (url : Parts) (token : Option RegistryTokenType) (kind body : List ℕ) (bare request : Request) → request_of s Put url None token ≡ Ok bare → with_content (Document kind body) bare ≡ Ok request → IsDocument kind body request
unfolding with_content
document_made s url token kind body bare request bare_is is =
    let made = content_made (Document kind body) bare request is in
    let at = into_ok (with_fields (Document kind body) bare.headers) _ request is in
    let whole : (record bare { headers = at.0; body = body }) ≡ request = cc at.2 in
    let types : typed request.headers ≡ kind ∷ [] = ap (λ (q : Request). typed q.headers) (sym whole) ∙ ap typed (with_ok bare.headers (codes "content-type") kind at.0 at.1) ∙ type_added bare.headers kind ∙ ap (λ xs. xs ++ kind ∷ []) (untyped s url token bare bare_is) in
    record { method = made.method_is ∙ request_method_is s Put url None token bare bare_is; content_type = ap (λ (xs : List (List ℕ)). slice_get xs 0) types; bytes = made.body_is }

-- a text that is not a URL is refused as such
url_read_early : (text : List ℕ) (e : OciDistributionError) → url_read text ≡ Err e → IsEarlyRefusal e
url_read_early text e = by_url (request_url text) refl where
  by_url : (o : Option Parts) → request_url text ≡ o → url_or text o ≡ Err e → IsEarlyRefusal e
  by_url (Some url) none is = absurd (cc is)
  by_url None none is = let same : refusal.UrlParseError text ≡ e = cc is in subst IsEarlyRefusal same none

-- ---- one request

-- it is the only exchange
pub only_one : (request last : Request) {reading : AnswerHead → Reading} (m after : ℕ) (c : List Exchange) (reply : Reply) → (h : Heard zero request reading m c after last reply) → (c ≡ h.exchange ∷ []) × (h.exchange.request ≡ request)
unfolding Trail
only_one request last m after c reply h = by_trail h.redirects h.split h.trail where
  by_trail : (redirects : List Exchange) → c ≡ redirects ++ h.exchange ∷ [] → Trail zero request m redirects h.left last h.before → (c ≡ h.exchange ∷ []) × (h.exchange.request ≡ request)
  by_trail [] split trail = (split, h.replies.request_is ∙ sym trail.1)
  by_trail (e ∷ redirects) split trail = absurd trail

module _ (kind body : List ℕ) where
  abbrev pub Sends : ℕ → List Exchange → ℕ → List ℕ → Type 0
  Sends m c n location = DocumentSent kind body c

  -- refused before the document is sent, or after
  abbrev pub Either : List Exchange → OciDistributionError → Type 0
  Either c e = (IsEarlyRefusal e × (bodies c ≡ [])) ⊎ DocumentSent kind body c

  abbrev pub Refused : ℕ → List Exchange → ℕ → OciDistributionError → Type 0
  Refused m c n e = MatchBool (is_memory e) (Unit {0}) (Either c e)

  unsent : (m n : ℕ) (c : List Exchange) (e : OciDistributionError) → IsEarlyRefusal e → bodies c ≡ [] → Refused m c n e
  unsent m n c e early none = by_memory (is_memory e) where
    by_memory : (b : Bool) → MatchBool b (Unit {0}) (Either c e)
    by_memory true = tt
    by_memory false = inl (early, none)

  any_result : (m n : ℕ) (c : List Exchange) (r : Result (List ℕ) OciDistributionError) → DocumentSent kind body c → ByResult Sends Refused m c n r
  any_result m n c (Ok location) doc = doc
  any_result m n c (Err e) doc = by_memory (is_memory e) where
    by_memory : (b : Bool) → MatchBool b (Unit {0}) (Either c e)
    by_memory true = tt
    by_memory false = inr doc

  module _ (s : Context) (image : Reference) where
    token_runs : (url : Parts) → EveryRun (ByResult (λ m c n token. bodies c ≡ []) Refused) (authorized s image Push url)
    token_runs url = record { shows = λ k l m n c r run. by_result k l m n c r run } where
      early : (e : OciDistributionError) → NoRegistry s.settings image {A = Option RegistryTokenType} (Err e) → IsEarlyRefusal e
      early (refusal.UrlParseError text) h = h.0
      early refusal.WantOfMemory h = tt
      early _ h = absurd h

      by_error : (k l : AuthState) (m n : ℕ) (c : List Exchange) (e : OciDistributionError) (b : Bool) → is_memory e ≡ b → Runs (authorized s image Push url) k m c n l (Err e) → MatchBool b (Unit {0}) (Either c e)
      by_error k l m n c e true is run = tt
      by_error k l m n c e false is run = inl (early e (Runs-ends (NoRegistry s.settings image) (authorized s image Push url) k l m n c (Err e) (authorized_fine s image url) run), bodiless_run s image url k l m n c (Err e) (record { outcome = rw is (record { conversation = c; told = exposed c m n; runs = run; runs_by = λ t before none. absurd (cc none) }) }))

      by_result : (k l : AuthState) (m n : ℕ) (c : List Exchange) (r : Result (Option RegistryTokenType) OciDistributionError) → Runs (authorized s image Push url) k m c n l r → ByResult (λ m c n token. bodies c ≡ []) Refused m c n r
      by_result k l m n c (Ok token) run = bodiless_run s image url k l m n c (Ok token) (record { outcome = record { conversation = c; told = exposed c m n; runs = run; runs_by = λ t before none. absurd (cc none) } })
      by_result k l m n c (Err e) run = by_error k l m n c e (is_memory e) refl run

    location_runs : (m : ℕ) (before : List Exchange) (request : Request) → bodies before ≡ [] → IsDocument kind body request → EveryRun (λ start d o r. ByResult Sends Refused m (before ++ d) o r) (location_after s.settings image 201 request)
    unfolding location_after
    location_runs m before request none document = EveryRun-follow (λ start d o r. ByResult Sends Refused m (before ++ d) o r) 0 request (unless_success s.settings.max_body_bytes) (location_reply s.settings image 201) (λ k l start after o c d last reply a h run.
        let one = only_one request last start after c reply h in
        replied k l after o c d last reply a (record { before = before; last = h.exchange; split = ap (λ xs. before ++ xs) (append-nil c ∙ one.0); bodiless = none; document = subst (IsDocument kind body) (sym one.1) document }) run) where
          replied : (k l : AuthState) (after o : ℕ) (c d : List Exchange) (last : Request) (reply : Reply) (a : Result (List ℕ) OciDistributionError) → DocumentSent kind body (before ++ (c ++ [])) → Runs (location_reply s.settings image 201 last reply) k after d o l a → ByResult Sends Refused m (before ++ (c ++ d)) o a
          replied k l after o c d last (Headed head) a doc run = done_run (λ start d o a. ByResult Sends Refused m (before ++ (c ++ d)) o a) (located s.settings image 201 last.url head) k l after o d a (any_result m after (before ++ (c ++ [])) (located s.settings image 201 last.url head) doc) run
          replied k l after o c d last (Answered answer) a doc run = done_run (λ start d o a. ByResult Sends Refused m (before ++ (c ++ d)) o a) (Err (refusal.ServerError answer.status last.url answer.body)) k l after o d a (any_result m after (before ++ (c ++ [])) (Err (refusal.ServerError answer.status last.url answer.body)) doc) run
          replied k l after o c d last Failed a doc run = done_run (λ start d o a. ByResult Sends Refused m (before ++ (c ++ d)) o a) (Err (refusal.TransportFault)) k l after o d a (any_result m after (before ++ (c ++ [])) (Err (refusal.TransportFault)) doc) run
          replied k l after o c d last TooLong a doc run = done_run (λ start d o a. ByResult Sends Refused m (before ++ (c ++ d)) o a) (Err (refusal.BodyTooLong)) k l after o d a (any_result m after (before ++ (c ++ [])) (Err (refusal.BodyTooLong)) doc) run
          replied k l after o c d last SinkFailed a doc run = done_run (λ start d o a. ByResult Sends Refused m (before ++ (c ++ d)) o a) (Err (refusal.SinkFault)) k l after o d a (any_result m after (before ++ (c ++ [])) (Err (refusal.SinkFault)) doc) run

    sent_runs : (url : Parts) → EveryRun (ByResult Sends Refused) (sent s image Put url (Document kind body) 201)
    unfolding sent
    sent_runs url = EveryRun-each (λ m c n token. bodies c ≡ []) Sends Refused (authorized s image Push url) _ (token_runs url) (λ m n c token none.
        EveryRun-step (λ start d o r. ByResult Sends Refused m (c ++ d) o r) (request_of s.settings Put url None token) _ (λ bare bare_is.
        EveryRun-step (λ start d o r. ByResult Sends Refused m (c ++ d) o r) (with_content (Document kind body) bare) _ (λ request is. location_runs m c request none (document_made s.settings url token kind body bare request bare_is is))
        (λ e is start. nothing_yet m start c e (subst Textual is (content_textual (Document kind body) bare)) none)) (λ e is start. nothing_yet m start c e (subst Textual is (made_textual s.settings Put url token)) none)) where
          nothing_yet : (m start : ℕ) (c : List Exchange) (e : OciDistributionError) → e ≡ refusal.GenericError HeaderText → bodies c ≡ [] → Refused m (c ++ []) start e
          nothing_yet m start c e is none = unsent m start (c ++ []) e (subst IsEarlyRefusal (sym is) tt) (ap bodies (append-nil c) ∙ none)

    -- with the URL that the result then is
    found_runs : (m n : ℕ) (c : List Exchange) (e : OciDistributionError) (named : Option (List ℕ)) → Refused m c n e → ByResult Sends Refused m c n (unless_named e (named_for e named))
    found_runs m n c refusal.RegistryNoLocationError None h = h
    found_runs m n c refusal.RegistryNoLocationError (Some url) (inl h) = absurd h.0
    found_runs m n c refusal.RegistryNoLocationError (Some url) (inr h) = h
    found_runs m n c _ named h = h

    named_runs : (named : Option (List ℕ)) (m n : ℕ) (c : List Exchange) (r : Result (List ℕ) OciDistributionError) → ByResult Sends Refused m c n r → (k l : AuthState) (d : List Exchange) (o : ℕ) (b : Result (List ℕ) OciDistributionError) → Runs (or_named named r) k n d o l b → ByResult Sends Refused m (c ++ d) o b
    named_runs named m n c (Ok location) h k l d o b run = done_run (λ start d o b. ByResult Sends Refused m (c ++ d) o b) (Ok location) k l n o d b (rw append-nil h) run
    named_runs named m n c (Err e) h k l d o b run = done_run (λ start d o b. ByResult Sends Refused m (c ++ d) o b) (unless_named e (named_for e named)) k l n o d b (rw append-nil (found_runs m n c e named h)) run

    pub raw_runs : EveryRun (ByResult Sends Refused) (push_manifest_raw s image body kind)
    unfolding push_manifest_raw
    raw_runs = EveryRun-step (ByResult Sends Refused) (url_read (manifest_text s.settings image)) _ (λ url is. record {
      shows = λ k l m n c b run.
          let p = sent s image Put url (Document kind body) 201 in
          let named = named_url (serialize url) image body in
          let t = Runs-parts p (or_named named) k m c n l b run in
          subst (λ c. ByResult Sends Refused m c n b) (sym t.joined) (named_runs named m t.count t.first t.answer ((sent_runs url).shows k t.between m t.count t.first t.answer t.runs_first) t.between l t.second n b t.runs_second);
    }) (λ e is start. unread start e (url_read_early (manifest_text s.settings image) e is)) where
      unread : (start : ℕ) (e : OciDistributionError) → IsEarlyRefusal e → Refused start [] start e
      unread start e early = unsent start start [] e early refl

-- ---- what was exposed

-- for a run whose refusal was not out of memory
by_refusal : {A : Type 0} (kind body : List ℕ) (old new : Link) (r : Result A OciDistributionError) → UnlessMemory is_memory (λ r. Told (λ c. ByResult (λ m c n a. DocumentSent kind body c) (Refused kind body) old.faults c new.faults r) old new) r → SendsDocument kind body old new r
by_refusal kind body old new (Ok a) told = told
by_refusal {A} kind body old new (Err e) told = by_memory (is_memory e) told where
  either : (c : List Exchange) → Either kind body c e → SentBy {A = A} kind body c (Err e)
  either c (inl h) = inl h.1
  either c (inr h) = inr h

  by_memory : (b : Bool) → MatchBool b (Unit {0}) (Told (λ c. MatchBool b (Unit {0}) (Either kind body c e)) old new) → MatchBool b (Unit {0}) (Told (λ c. SentBy {A = A} kind body c (Err e)) old new)
  by_memory true told = tt
  by_memory false told = record { conversation = told.conversation; told = told.told; holds = either told.conversation told.holds }

pub raw_sends : (s : Context) (image : Reference) (body kind : List ℕ) {old new : Link} {k l : AuthState} (r : Result (List ℕ) OciDistributionError) → Meets is_memory (push_manifest_raw s image body kind) old new k l r → SendsDocument kind body old new r
raw_sends s image body kind {old} {new} r met = by_refusal kind body old new r (Meets-shows (ByResult (Sends kind body) (Refused kind body)) (raw_runs kind body s image) met)

-- ---- which URL the result is

digest_end : (body : List ℕ) (o : Option (List ℕ)) (found : List ℕ) → option_map (λ front. front ++ digest_text Sha256 body) o ≡ Some found → (front : List ℕ) × (found ≡ front ++ digest_text Sha256 body)
digest_end body None found is = absurd (cc is)
digest_end body (Some front) found is = let same : front ++ digest_text Sha256 body ≡ found = cc is in (front, sym same)

module _ (s : Context) (image : Reference) (body kind : List ℕ) where
  abbrev T : List Exchange → List ℕ → Type 0
  T = ManifestText s.settings image

  abbrev Located : ℕ → List Exchange → ℕ → Result (List ℕ) OciDistributionError → Type 0
  Located = ByResult (λ m c n location. Named s.settings image c location) (λ m c n e. Loose of_manifest T OfNothing s.settings c n e)

  abbrev Is : ℕ → List Exchange → ℕ → Result (List ℕ) OciDistributionError → Type 0
  Is = WhenOk (λ m c n url. NamedManifest s.settings image body url c)

  found_is : (url : List ℕ) (m n : ℕ) (c : List Exchange) (e : OciDistributionError) (named : Option (List ℕ)) → named_url url image body ≡ named → Loose of_manifest T OfNothing s.settings c n e → Is m c n (unless_named e (named_for e named))
  found_is url m n c refusal.RegistryNoLocationError None is h = tt
  found_is url m n c refusal.RegistryNoLocationError (Some found) is (inl h) = absurd h
  found_is url m n c refusal.RegistryNoLocationError (Some found) is (inr h) =
      let at = h.holds in
      let by = digest_end body (before_end (manifest_name None (tag_of image)) url) found is in
      inr (record { before = h.before; last = h.last; split = h.split; holds = (at.2, at.3, at.4.1) }, by.0, by.1)
  found_is url m n c _ named is h = tt

  result_is : (url : List ℕ) (m n : ℕ) (c : List Exchange) (r : Result (List ℕ) OciDistributionError) → Located m c n r → (k l : AuthState) (d : List Exchange) (o : ℕ) (b : Result (List ℕ) OciDistributionError) → Runs (or_named (named_url url image body) r) k n d o l b → Is m (c ++ d) o b
  result_is url m n c (Ok location) h k l d o b run = done_run (λ start d o b. Is m (c ++ d) o b) (Ok location) k l n o d b (rw append-nil (inl h)) run
  result_is url m n c (Err e) h k l d o b run = done_run (λ start d o b. Is m (c ++ d) o b) (unless_named e (named_for e (named_url url image body))) k l n o d b (rw append-nil (found_is url m n c e (named_url url image body) refl h)) run

  named_shown : EveryRun Is (push_manifest_raw s image body kind)
  unfolding push_manifest_raw
  named_shown = EveryRun-step Is (url_read (manifest_text s.settings image)) _ (λ url is. record {
    shows = λ k l m n c b run.
        let p = sent s image Put url (Document kind body) 201 in
        let t = Runs-parts p (or_named (named_url (serialize url) image body)) k m c n l b run in
        subst (λ c. Is m c n b) (sym t.joined) (result_is (serialize url) m t.count t.first t.answer ((sent_shown of_manifest s image OfNothing T (λ c. inl refl) Put url (Document kind body) 201 refl).shows k t.between m t.count t.first t.answer t.runs_first) t.between l t.second n b t.runs_second);
  }) (λ e is start. tt)

pub raw_named : (s : Context) (image : Reference) (body kind : List ℕ) {old new : Link} {k l : AuthState} (r : Result (List ℕ) OciDistributionError) → Meets is_memory (push_manifest_raw s image body kind) old new k l r → IfOk r (λ url. Told (NamedManifest s.settings image body url) old new)
raw_named s image body kind r met = Meets-shows-ok (λ m c n url. NamedManifest s.settings image body url c) (named_shown s image body kind) met

-- ---- an index, after its credentials were stored

stored_first : {A : Type 0} (Q : ℕ → List Exchange → ℕ → Result A OciDistributionError → Type 0) (image : Reference) (a : RegistryAuth) (p : Row A) → EveryRun Q p → EveryRun Q (store image a >> p)
unfolding store bind
stored_first Q image a p h = EveryRun-recall Q _ (λ k. EveryRun-keep Q _ _ h)

pub list_sends : (s : Context) (image : Reference) (a : RegistryAuth) (index : OciImageIndex) {old new : Link} {k l : AuthState} (r : Result (List ℕ) OciDistributionError) → Meets is_memory (push_manifest_list s image a index) old new k l r → SendsDocument (content_type_of (ImageIndex index)) (manifest_text_of (ImageIndex index)) old new r
unfolding push_manifest_list
list_sends s image a index {old} {new} r met =
    let kind = content_type_of (ImageIndex index) in
    let body = manifest_text_of (ImageIndex index) in
    by_refusal kind body old new r (Meets-shows (ByResult (Sends kind body) (Refused kind body)) (stored_first (ByResult (Sends kind body) (Refused kind body)) image a (push_manifest_raw s image body kind) (raw_runs kind body s image)) met)

pub list_named : (s : Context) (image : Reference) (a : RegistryAuth) (index : OciImageIndex) {old new : Link} {k l : AuthState} (r : Result (List ℕ) OciDistributionError) → Meets is_memory (push_manifest_list s image a index) old new k l r → IfOk r (λ url. Told (NamedManifest s.settings image (manifest_text_of (ImageIndex index)) url) old new)
unfolding push_manifest_list
list_named s image a index r met =
    let kind = content_type_of (ImageIndex index) in
    let body = manifest_text_of (ImageIndex index) in
    Meets-shows-ok (λ m c n url. NamedManifest s.settings image body url c) (stored_first (WhenOk (λ m c n url. NamedManifest s.settings image body url c)) image a (push_manifest_raw s image body kind) (named_shown s image body kind)) met
