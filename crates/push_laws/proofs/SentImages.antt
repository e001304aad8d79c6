-- The requests of a pushed image contain its blobs in order, then the text of its manifest.
use Rattle.std.proofs.Common.{◌≡◌, inl, inr, ℕ, Bool, true, false, List, [], ◌∷◌, ◌++◌, Option, Some, None, Result, Ok, Err, codes, length, map, refl, sym, ap, subst, ◌∙◌, append-nil, append_assoc, arith}
use Rattle.std.specs.Prelude.{◌+◌, MatchBool, nat_eq, if◌then◌else◌}
use Rattle.std.specs.List.{Contains}
use Rattle.std.proofs.lemmas.Bool.Decides.{nat_tests}
use Rattle.std.proofs.lemmas.List.Elements.{Contains-append_left, Contains-append_right}
use Rattle.url.specs.Parts.{Parts}
use Rattle.url.specs.Setters.{append_query_pairs}
use Rattle.oci_auth.specs.declared.auth.RegistryAuth.{RegistryAuth}
use Rattle.oci_auth.specs.declared.auth_state.AuthState.{AuthState}
use Rattle.oci_auth.specs.declared.token_type.RegistryOperation.TheVariants.{Push}
use Rattle.oci_auth.specs.declared.token_type.RegistryTokenType.{RegistryTokenType}
use Rattle.oci_manifests.specs.declared.descriptor.OciDescriptor.{OciDescriptor}
use Rattle.oci_docs.specs.Written.{manifest_text_of}
use Rattle.oci_manifests.specs.Document.{content_type_of}
use Rattle.oci_manifests.specs.declared.blob.Config.{Config}
use Rattle.oci_manifests.specs.declared.blob.ImageLayer.{ImageLayer}
use Rattle.oci_manifests.specs.declared.document.OciManifest.TheVariants.{Image}
use Rattle.oci_manifests.specs.declared.manifest.OciImageManifest.{OciImageManifest}
use Rattle.oci_names.specs.declared.reference.Reference.{Reference}
use Rattle.oci_protocol.specs.Ends.{UnlessMemory}
use Rattle.oci_protocol.specs.EveryRun.{EveryRun, ByResult, Heard}
use Rattle.oci_protocol.specs.Proto.{Unread, Within, Headed, Answered, Failed, TooLong, SinkFailed, Reply, Done, bind, ◌>>=◌}
use Rattle.oci_protocol.specs.Runs.{Runs, Meets, Told}
use Rattle.oci_protocol.proofs.Ends.{Runs-ends}
use Rattle.oci_protocol.proofs.Parts.{Runs-parts}
use Rattle.oci_protocol.proofs.RunFacts.{done_run, EveryRun-done, EveryRun-more, EveryRun-each, EveryRun-step, EveryRun-follow, EveryRun-recall, EveryRun-keep, Meets-shows}
use Rattle.oci_transport.specs.Headers.{first_of, is_text}
use Rattle.oci_transport.specs.Link.{Link, answer_of}
use Rattle.oci_transport.specs.Pieces.{joined}
use Rattle.oci_transport.specs.declared.message.AnswerHead.{AnswerHead}
use Rattle.oci_transport.specs.declared.message.Exchange.{Exchange}
use Rattle.oci_transport.specs.declared.message.Method.{Method}
use Rattle.oci_transport.specs.declared.message.Method.TheVariants.{Post, Patch, Put}
use Rattle.oci_transport.specs.declared.message.Request.{Request}
use Rattle.engine_terms.specs.Contexts.{Context}
use Rattle.engine_terms.specs.Error.{is_memory}
use Rattle.engine_terms.specs.declared.error.GenericCause.TheVariants.{HeaderText}
use Rattle.engine_terms.specs.declared.error.SpecViolation.TheVariants.{Status}
use Rattle.engine_terms.specs.declared.error.OciDistributionError.{OciDistributionError}
use Rattle.engine_terms.specs.declared.error.OciDistributionError.TheVariants as refusal
use Rattle.engine_terms.specs.declared.settings.Settings.{Settings}
use Rattle.engine_requests.specs.Addresses.{uploads_text, url_or, url_read}
use Rattle.engine_requests.specs.Requests.{request_of}
use Rattle.engine_answers.specs.Answers.{is_success}
use Rattle.oci_transport.specs.Urls.{request_url}
use Rattle.engine_rows.specs.Rows.{Row, authorized, store}
use Rattle.request_laws.proofs.RequestConfinement.{request_method_is}
use Rattle.push_rows.specs.Bodies.{bodies, IsPrefix}
use Rattle.push_rows.specs.Calls.{push_chunked, not_empty, push_whole, is_violation, or_whole, push_blob}
use Rattle.push_rows.specs.Causes.{of_upload}
use Rattle.push_rows.specs.Contents.{bytes_of, with_content}
use Rattle.push_rows.specs.Locations.{resolved, location_of, located}
use Rattle.push_rows.specs.PieceStates.{part}
use Rattle.push_rows.specs.Uploads.{unless_success, location_reply, location_after, sent, upload_begun, chunk_sent, upload_ended, chunks, chunks_sent}
use Rattle.push_rows.specs.declared.content.Content.{Content}
use Rattle.push_rows.specs.declared.content.Content.TheVariants.{Nothing, Whole, Chunk}
use Rattle.push_rows.proofs.Carried.{bodies_both, joined_both, joined_part, joined_chunks}
use Rattle.push_rows.proofs.Endings.{NoRegistry, authorized_fine, Textual, made_textual, content_textual}
use Rattle.push_laws.proofs.PushedHeaders.{content_made}
use Rattle.push_rows.specs.Images.{digest_of_entry, digest_of_layer, manifest_for, digests_for, push_manifest, push_manifest_raw, layers_pushed, image_pushed, push}
use Rattle.push_rows.specs.ImageCauses.{blobs_of}
use Rattle.push_rows.specs.Sent.{DocumentSent, NoneOther, SentBytes, SendsImage}
use Rattle.push_rows.specs.declared.responses.PushResponse.{PushResponse}
use Rattle.push_laws.proofs.SentDocuments.{Either, Sends, Refused, raw_runs, bodiless_run, exposed, only_one}

-- ---- exchanges before and after

none_first : (c d : List Exchange) → NoneOther (c ++ d) → NoneOther c
none_first c d none e at = none e (Contains-append_left c d e at)

none_second : (c d : List Exchange) → NoneOther (c ++ d) → NoneOther d
none_second c d none e at = none e (Contains-append_right c d e at)

sent_both : (c d : List Exchange) → joined (bodies (c ++ d)) ≡ joined (bodies c) ++ joined (bodies d)
sent_both c d = ap joined (bodies_both c d) ∙ joined_both (bodies c) (bodies d)

front_more : (first bytes rest : List ℕ) → IsPrefix first bytes → IsPrefix first (bytes ++ rest)
front_more first bytes rest h = (h.0 ++ rest, ap (λ xs. xs ++ rest) h.1 ∙ append_assoc first h.0 rest)

front_behind : (bytes first all : List ℕ) → IsPrefix first all → IsPrefix (bytes ++ first) (bytes ++ all)
front_behind bytes first all h = (h.0, ap (λ xs. bytes ++ xs) h.1 ∙ sym (append_assoc bytes first h.0))

-- ---- rows whose requests contain these bytes; E holds for their refusals

module _ (E : OciDistributionError → Type 0) where
  abbrev Gave : {A : Type 0} → List ℕ → ℕ → List Exchange → ℕ → A → Type 0
  Gave bytes m c n a = NoneOther c → joined (bodies c) ≡ bytes

  abbrev Gives : List ℕ → ℕ → List Exchange → ℕ → OciDistributionError → Type 0
  Gives bytes m c n e = NoneOther c → MatchBool (is_memory e) (Unit {0}) (IsPrefix (joined (bodies c)) bytes × E e)

  record Carries (bytes : List ℕ) {A : Type 0} (p : Row A) : Type 0 where
    runs : EveryRun (ByResult (Gave bytes) (Gives bytes)) p

  unless : (bytes : List ℕ) (c : List Exchange) (e : OciDistributionError) → IsPrefix (joined (bodies c)) bytes → E e → MatchBool (is_memory e) (Unit {0}) (IsPrefix (joined (bodies c)) bytes × E e)
  unless bytes c e front fine = by_memory (is_memory e) where
    by_memory : (b : Bool) → MatchBool b (Unit {0}) (IsPrefix (joined (bodies c)) bytes × E e)
    by_memory true = tt
    by_memory false = (front, fine)

  carries_as : {bytes other : List ℕ} {A : Type 0} (p : Row A) → bytes ≡ other → Carries bytes p → Carries other p
  carries_as p is h = subst (λ xs. Carries xs p) is h

  carries_done : {A : Type 0} (a : A) → Carries [] (Done (Ok a))
  carries_done a = record { runs = EveryRun-done _ (Ok a) (λ m none. refl) }

  after_first : {A : Type 0} (first second : List ℕ) (m start : ℕ) (c d : List Exchange) (o : ℕ) (r : Result A OciDistributionError) → (NoneOther c → joined (bodies c) ≡ first) → ByResult (Gave second) (Gives second) start d o r → ByResult (Gave (first ++ second)) (Gives (first ++ second)) m (c ++ d) o r
  after_first first second m start c d o (Ok a) before g = λ none. sent_both c d ∙ ap (λ xs. xs ++ joined (bodies d)) (before (none_first c d none)) ∙ ap (λ xs. first ++ xs) (g (none_second c d none))
  after_first first second m start c d o (Err e) before g = λ none. by_memory (is_memory e) (before (none_first c d none)) (g (none_second c d none)) where
    by_memory : (b : Bool) → joined (bodies c) ≡ first → MatchBool b (Unit {0}) (IsPrefix (joined (bodies d)) second × E e) → MatchBool b (Unit {0}) (IsPrefix (joined (bodies (c ++ d))) (first ++ second) × E e)
    by_memory true is h = tt
    by_memory false is h = (subst (λ xs. IsPrefix xs (first ++ second)) (sym (sent_both c d ∙ ap (λ xs. xs ++ joined (bodies d)) is)) (front_behind first (joined (bodies d)) second h.0), h.1)

  -- a refusal of the first part
  first_refused : {A : Type 0} (first second : List ℕ) (m n : ℕ) (c : List Exchange) (r : Result A OciDistributionError) → ByResult (Gave first) (Gives first) m c n r → ByResult (Gave first) (Gives (first ++ second)) m c n r
  first_refused first second m n c (Ok a) h = h
  first_refused first second m n c (Err e) h = λ none. by_memory (is_memory e) (h none) where
    by_memory : (b : Bool) → MatchBool b (Unit {0}) (IsPrefix (joined (bodies c)) first × E e) → MatchBool b (Unit {0}) (IsPrefix (joined (bodies c)) (first ++ second) × E e)
    by_memory true h = tt
    by_memory false h = (front_more (joined (bodies c)) first second h.0, h.1)

  carries_next : {A B : Type 0} {first second : List ℕ} (p : Row A) (f : A → Row B) → Carries first p → ((a : A) → Carries second (f a)) → Carries (first ++ second) (p >>= f)
  carries_next {A} {B} {first} {second} p f one each = record {
    runs = EveryRun-each (Gave first) (Gave (first ++ second)) (Gives (first ++ second)) p f (EveryRun-more (ByResult (Gave first) (Gives first)) (ByResult (Gave first) (Gives (first ++ second))) p one.runs (λ m n c r h. first_refused first second m n c r h))
        (λ m n c a before. EveryRun-more (ByResult (Gave second) (Gives second)) (λ start d o r. ByResult (Gave (first ++ second)) (Gives (first ++ second)) m (c ++ d) o r) (f a) (each a).runs (λ start o d r g. after_first first second m start c d o r before g));
  }

  -- a step without a request
  carries_step : {A B : Type 0} {bytes : List ℕ} (r : Result A OciDistributionError) (f : A → Row B) → ((a : A) → r ≡ Ok a → Carries bytes (f a)) → ((e : OciDistributionError) → r ≡ Err e → E e) → Carries bytes (Done r >>= f)
  carries_step {bytes = bytes} r f each fine = record { runs = EveryRun-step (ByResult (Gave bytes) (Gives bytes)) r f (λ a is. (each a is).runs) (λ e is m none. unless bytes [] e (bytes, refl) (fine e is)) }

  -- ---- one request, if its refusals are fine

  module _ (of_url : (text : List ℕ) → E (refusal.UrlParseError text)) (of_header : E (refusal.GenericError HeaderText)) where
    url_fine : (text : List ℕ) (e : OciDistributionError) → url_read text ≡ Err e → E e
    url_fine text e = by_url (request_url text) where
      by_url : (o : Option Parts) → url_or text o ≡ Err e → E e
      by_url (Some url) is = absurd (cc is)
      by_url None is = let same : refusal.UrlParseError text ≡ e = cc is in subst E same (of_url text)

    token_carries : (s : Context) (image : Reference) (url : Parts) → Carries [] (authorized s image Push url)
    token_carries s image url = record { runs = record { shows = λ k l m n c r run. by_result k l m n c r run } } where
      fine : (e : OciDistributionError) → is_memory e ≡ false → NoRegistry s.settings image {A = Option RegistryTokenType} (Err e) → E e
      fine (refusal.UrlParseError text) plain h = of_url text
      fine refusal.WantOfMemory plain h = absurd (cc plain)
      fine _ plain h = absurd h

      by_error : (k l : AuthState) (m n : ℕ) (c : List Exchange) (e : OciDistributionError) (b : Bool) → is_memory e ≡ b → Runs (authorized s image Push url) k m c n l (Err e) → MatchBool b (Unit {0}) (IsPrefix (joined (bodies c)) [] × E e)
      by_error k l m n c e true is run = tt
      by_error k l m n c e false is run =
          let none = bodiless_run s image url k l m n c (Err e) (record { outcome = rw is (record { conversation = c; told = exposed c m n; runs = run; runs_by = λ t before none. absurd (cc none) }) }) in
          (subst (λ xs. IsPrefix (joined xs) []) (sym none) ([], refl), fine e is (Runs-ends (NoRegistry s.settings image) (authorized s image Push url) k l m n c (Err e) (authorized_fine s image url) run))

      by_result : (k l : AuthState) (m n : ℕ) (c : List Exchange) (r : Result (Option RegistryTokenType) OciDistributionError) → Runs (authorized s image Push url) k m c n l r → ByResult (Gave []) (Gives []) m c n r
      by_result k l m n c (Ok token) run = λ none. ap joined (bodiless_run s image url k l m n c (Ok token) (record { outcome = record { conversation = c; told = exposed c m n; runs = run; runs_by = λ t before none. absurd (cc none) } }))
      by_result k l m n c (Err e) run = λ none. by_error k l m n c e (is_memory e) refl run

-- ---- uploads: after them a blob may be sent whole, only if a response had another 2xx status

abbrev Kind : OciDistributionError → Type 0
Kind e = is_violation e ≡ false

-- the whole body of a request was sent, whatever the response is
one_sent : (request : Request) (c : List Exchange) (e : Exchange) → c ≡ e ∷ [] → e.request ≡ request → joined (bodies (c ++ [])) ≡ request.body
one_sent request c e one is = ap (λ xs. joined (bodies xs)) (append-nil c ∙ one) ∙ ap joined (append-nil (part e.request.body)) ∙ joined_part e.request.body ∙ ap (λ (q : Request). q.body) is

same_status : (a b : ℕ) → a ≡ b → nat_eq a b ≡ false → ⊥
same_status a b same other = grind (arith, nat_tests, same, other)

was_success : (limit : ℕ) (head : AnswerHead) → unless_success limit head ≡ Unread → is_success head.status ≡ true
unfolding unless_success
was_success limit head is = by_test (is_success head.status) is where
  by_test : (b : Bool) → (if b then Unread else Within limit) ≡ Unread → b ≡ true
  by_test true is = refl
  by_test false is = absurd (cc is)

-- a location, or a refusal for another 2xx status, if that is the expected one
located_kind : (s : Settings) (image : Reference) (expected : ℕ) (url : List ℕ) (head : AnswerHead) (e : OciDistributionError) → head.status ≡ expected → located s image expected url head ≡ Err e → Kind e
unfolding located
located_kind s image expected url head e same = by_status (nat_eq head.status expected) refl where
  by_text : (value : List ℕ) (b : Bool) → (if b then Ok (resolved s image value) else Err (refusal.HeaderValueError value)) ≡ Err e → Kind e
  by_text value true is = absurd (cc is)
  by_text value false is = let at : refusal.HeaderValueError value ≡ e = cc is in subst Kind at refl

  by_header : (value : Option (List ℕ)) → location_of s image value ≡ Err e → Kind e
  by_header None is = let at : refusal.RegistryNoLocationError ≡ e = cc is in subst Kind at refl
  by_header (Some value) is = by_text value (is_text value) is

  by_status : (b : Bool) → nat_eq head.status expected ≡ b → (if b then location_of s image (first_of (codes "location") head.headers) else Err (refusal.SpecViolationError (Status expected head.status url))) ≡ Err e → Kind e
  by_status true test is = by_header (first_of (codes "location") head.headers) is
  by_status false test is = absurd (same_status head.status expected same test)

module _ (s : Context) (image : Reference) where
  abbrev Sending : List ℕ → {A : Type 0} → Row A → Type 0
  Sending bytes p = Carries Kind bytes p

  any_kind : (bytes : List ℕ) (m o : ℕ) (c : List Exchange) (r : Result (List ℕ) OciDistributionError) → joined (bodies c) ≡ bytes → (NoneOther c → (e : OciDistributionError) → r ≡ Err e → Kind e) → ByResult (Gave Kind bytes) (Gives Kind bytes) m c o r
  any_kind bytes m o c (Ok location) is kind = λ none. is
  any_kind bytes m o c (Err e) is kind = λ none. unless Kind bytes c e ([], sym (append-nil (joined (bodies c)) ∙ is)) (kind none e refl)

  location_carries : (expected : ℕ) (request : Request) → of_upload request.method ≡ Some expected → Sending request.body (location_after s.settings image expected request)
  unfolding location_after
  location_carries expected request pushed = record { runs = EveryRun-follow (ByResult (Gave Kind request.body) (Gives Kind request.body)) 0 request (unless_success s.settings.max_body_bytes) (location_reply s.settings image expected) replied } where
    -- the status of a response whose body is not read is the expected one
    expects : (m after : ℕ) (c : List Exchange) (last : Request) (head : AnswerHead) → Heard 0 request (unless_success s.settings.max_body_bytes) m c after last (Headed head) → NoneOther (c ++ []) → head.status ≡ expected
    expects m after c last head h none =
        let one = only_one request last m after c (Headed head) h in
        let b = h.replies.reply_is in
        none h.exchange (subst (λ xs. Contains xs h.exchange) (sym (append-nil c ∙ one.0)) (0, omega arith, refl)) expected (subst (λ (q : Request). of_upload q.method ≡ Some expected) (sym one.1) pushed) (answer_of head b.0) b.1 (was_success s.settings.max_body_bytes head b.2)

    replied : (k l : AuthState) (m after o : ℕ) (c d : List Exchange) (last : Request) (reply : Reply) (a : Result (List ℕ) OciDistributionError) → Heard 0 request (unless_success s.settings.max_body_bytes) m c after last reply → Runs (location_reply s.settings image expected last reply) k after d o l a → ByResult (Gave Kind request.body) (Gives Kind request.body) m (c ++ d) o a
    replied k l m after o c d last (Headed head) a h run =
        let one = only_one request last m after c (Headed head) h in
        done_run (λ start d o a. ByResult (Gave Kind request.body) (Gives Kind request.body) m (c ++ d) o a) (located s.settings image expected last.url head) k l after o d a (any_kind request.body m after (c ++ []) (located s.settings image expected last.url head) (one_sent request c h.exchange one.0 one.1) (λ none e refused. located_kind s.settings image expected last.url head e (expects m after c last head h none) refused)) run
    replied k l m after o c d last (Answered answer) a h run =
        let one = only_one request last m after c (Answered answer) h in
        done_run (λ start d o a. ByResult (Gave Kind request.body) (Gives Kind request.body) m (c ++ d) o a) _ k l after o d a (any_kind request.body m after (c ++ []) (Err (refusal.ServerError answer.status last.url answer.body)) (one_sent request c h.exchange one.0 one.1) (λ none e refused. let at : refusal.ServerError answer.status last.url answer.body ≡ e = cc refused in subst Kind at refl)) run
    replied k l m after o c d last Failed a h run =
        let one = only_one request last m after c Failed h in
        done_run (λ start d o a. ByResult (Gave Kind request.body) (Gives Kind request.body) m (c ++ d) o a) _ k l after o d a (any_kind request.body m after (c ++ []) (Err (refusal.TransportFault)) (one_sent request c h.exchange one.0 one.1) (λ none e refused. let at : refusal.TransportFault ≡ e = cc refused in subst Kind at refl)) run
    replied k l m after o c d last TooLong a h run =
        let one = only_one request last m after c TooLong h in
        done_run (λ start d o a. ByResult (Gave Kind request.body) (Gives Kind request.body) m (c ++ d) o a) _ k l after o d a (any_kind request.body m after (c ++ []) (Err (refusal.BodyTooLong)) (one_sent request c h.exchange one.0 one.1) (λ none e refused. let at : refusal.BodyTooLong ≡ e = cc refused in subst Kind at refl)) run
    replied k l m after o c d last SinkFailed a h run =
        let one = only_one request last m after c SinkFailed h in
        done_run (λ start d o a. ByResult (Gave Kind request.body) (Gives Kind request.body) m (c ++ d) o a) _ k l after o d a (any_kind request.body m after (c ++ []) (Err (refusal.SinkFault)) (one_sent request c h.exchange one.0 one.1) (λ none e refused. let at : refusal.SinkFault ≡ e = cc refused in subst Kind at refl)) run

  sent_carries : (method : Method) (url : Parts) (content : Content) (expected : ℕ) → of_upload method ≡ Some expected → Sending (bytes_of content) (sent s image method url content expected)
  unfolding sent
  sent_carries method url content expected pushed = carries_next Kind (authorized s image Push url) _ (token_carries Kind (λ text. refl) refl s image url) (λ token.
      carries_step Kind (request_of s.settings method url None token) _ (λ bare bare_is.
      carries_step Kind (with_content content bare) _ (λ request is.
      let made = content_made content bare request is in
      let by = made.method_is ∙ request_method_is s.settings method url None token bare bare_is in
      carries_as Kind (location_after s.settings image expected request) made.body_is (location_carries expected request (subst (λ m. of_upload m ≡ Some expected) (sym by) pushed)))
      (λ e is. subst Kind (sym (subst Textual is (content_textual content bare))) refl)) (λ e is. subst Kind (sym (subst Textual is (made_textual s.settings method url token))) refl))

  begun_carries : Sending [] (upload_begun s image)
  unfolding upload_begun
  begun_carries = carries_step Kind (url_read (uploads_text s.settings image)) _ (λ url is. sent_carries Post url Nothing 202 refl) (λ e is. url_fine Kind (λ text. refl) refl (uploads_text s.settings image) e is)

  chunk_carries : (location : List ℕ) (start : ℕ) (bytes : List ℕ) → Sending bytes (chunk_sent s image location start bytes)
  unfolding chunk_sent
  chunk_carries location start bytes = carries_step Kind (url_read location) _ (λ url is. sent_carries Patch url (Chunk start bytes) 202 refl) (λ e is. url_fine Kind (λ text. refl) refl location e is)

  ended_carries : (digest location : List ℕ) (content : Content) → Sending (bytes_of content) (upload_ended s image digest location content)
  unfolding upload_ended
  ended_carries digest location content = carries_step Kind (url_read location) _ (λ url is. sent_carries Put (append_query_pairs url ((codes "digest", digest) ∷ [])) content 201 refl) (λ e is. url_fine Kind (λ text. refl) refl location e is)

  chunks_carry : (location : List ℕ) (start : ℕ) (parts : List (List ℕ)) → Sending (joined parts) (chunks_sent s image location start parts)
  unfolding chunks_sent
  chunks_carry location start [] = carries_done Kind location
  chunks_carry location start (chunk ∷ rest) = carries_next Kind (chunk_sent s image location start chunk) _ (chunk_carries location start chunk) (λ next. chunks_carry next (start + length chunk) rest)

  chunked_carries : (content digest : List ℕ) → Sending content (push_chunked s image content digest)
  unfolding push_chunked
  chunked_carries content digest = carries_as Kind _ (append-nil (joined (chunks content)) ∙ joined_chunks content) (carries_next Kind (upload_begun s image) _ begun_carries (λ location.
      carries_next Kind (chunks_sent s image location 0 (chunks content)) _ (chunks_carry location 0 (chunks content)) (λ location. ended_carries digest location Nothing)))

  whole_carries : (content digest : List ℕ) → Sending content (push_whole s image content digest)
  unfolding push_whole
  whole_carries content digest = carries_next Kind (upload_begun s image) _ begun_carries (λ location.
      carries_step Kind (not_empty content) _ (λ u is. ended_carries digest location (Whole content)) (λ e is. none_given content e is)) where
        none_given : (bytes : List ℕ) (e : OciDistributionError) → not_empty bytes ≡ Err e → Kind e
        none_given [] e is = let at : refusal.PushNoDataError ≡ e = cc is in subst Kind at refl
        none_given (b ∷ bytes) e is = absurd (cc is)

  -- ---- in either way

  only_violation : (e : OciDistributionError) → is_violation e ≡ true → is_memory e ≡ false
  only_violation (refusal.SpecViolationError v) is = refl
  only_violation _ is = absurd (cc is)

  or_carries : (content digest : List ℕ) (m n : ℕ) (c : List Exchange) (r : Result (List ℕ) OciDistributionError) → ByResult (Gave Kind content) (Gives Kind content) m c n r → (k l : AuthState) (d : List Exchange) (o : ℕ) (b : Result (List ℕ) OciDistributionError) → Runs (or_whole (push_whole s image content digest) r) k n d o l b → ByResult (Gave Kind content) (Gives Kind content) m (c ++ d) o b
  or_carries content digest m n c (Ok location) h k l d o b run = done_run (λ start d o b. ByResult (Gave Kind content) (Gives Kind content) m (c ++ d) o b) (Ok location) k l n o d b (rw append-nil h) run
  or_carries content digest m n c (Err e) h k l d o b run = by_test (is_violation e) refl run where
    -- it was refused so, and then a response had another 2xx status
    never : is_violation e ≡ true → NoneOther c → ⊥
    never is none = let fine : Kind e = (subst (λ b. MatchBool b (Unit {0}) (IsPrefix (joined (bodies c)) content × Kind e)) (only_violation e is) (h none)).1 in cc (sym fine ∙ is)

    vacuous : (b : Result (List ℕ) OciDistributionError) → is_violation e ≡ true → ByResult (Gave Kind content) (Gives Kind content) m (c ++ d) o b
    vacuous (Ok url) is = λ none. absurd (never is (none_first c d none))
    vacuous (Err x) is = λ none. absurd (never is (none_first c d none))

    by_test : (violates : Bool) → is_violation e ≡ violates → Runs (if violates then push_whole s image content digest else Done (Err e)) k n d o l b → ByResult (Gave Kind content) (Gives Kind content) m (c ++ d) o b
    by_test true is run = vacuous b is
    by_test false is run = done_run (λ start d o b. ByResult (Gave Kind content) (Gives Kind content) m (c ++ d) o b) (Err e) k l n o d b (rw append-nil h) run

  blob_carries : (content digest : List ℕ) → Sending content (push_blob s image content digest)
  unfolding push_blob
  blob_carries content digest = by_setting s.settings.use_monolithic_push where
    by_setting : (b : Bool) → Sending content (if b then push_whole s image content digest else bind (push_chunked s image content digest) (or_whole (push_whole s image content digest)))
    by_setting true = whole_carries content digest
    by_setting false = record {
      runs = record {
        shows = λ k l m n c b run.
            let p = push_chunked s image content digest in
            let t = Runs-parts p (or_whole (push_whole s image content digest)) k m c n l b run in
            subst (λ c. ByResult (Gave Kind content) (Gives Kind content) m c n b) (sym t.joined) (or_carries content digest m t.count t.first t.answer ((chunked_carries content digest).runs.shows k t.between m t.count t.first t.answer t.runs_first) t.between l t.second n b t.runs_second);
      };
    }

  -- ---- an image

  abbrev contents : List ImageLayer → List (List ℕ)
  contents layers = map (λ (layer : ImageLayer). layer.content) layers

  layers_carry : (digests : List (List ℕ)) (layers : List ImageLayer) → length digests ≡ length layers → Sending (joined (contents layers)) (layers_pushed s image digests layers)
  unfolding layers_pushed
  layers_carry [] [] same = carries_done Kind tt
  layers_carry [] (layer ∷ layers) same = absurd (omega (arith, same))
  layers_carry (digest ∷ digests) [] same = absurd (omega (arith, same))
  layers_carry (digest ∷ digests) (layer ∷ layers) same = carries_next Kind (push_blob s image layer.content digest) _ (blob_carries layer.content digest) (λ url. layers_carry digests layers (omega (arith, same)))

map_length : {A : Type 0} (f : A → List ℕ) (xs : List A) → length (map f xs) ≡ length xs
map_length f [] = refl
map_length f (x ∷ xs) = let rest = map_length f xs in omega (arith, rest)

same_count : (entries : List OciDescriptor) (layers : List ImageLayer) → length (digests_for entries layers) ≡ length layers
same_count entries layers = by_test (nat_eq (length entries) (length layers)) refl where
  by_test : (b : Bool) → nat_eq (length entries) (length layers) ≡ b → length (if b then map digest_of_entry entries else map digest_of_layer layers) ≡ length layers
  by_test true is = let same : length entries ≡ length layers = grind (arith, nat_tests, is) in map_length digest_of_entry entries ∙ same
  by_test false is = map_length digest_of_layer layers

-- ---- the manifest, whatever its refusal is

abbrev Any : OciDistributionError → Type 0
Any e = Unit {0}

any_of : {A : Type 0} (bytes : List ℕ) (p : Row A) → Carries Kind bytes p → Carries Any bytes p
any_of {A} bytes p h = record { runs = EveryRun-more (ByResult (Gave Kind bytes) (Gives Kind bytes)) (ByResult (Gave Any bytes) (Gives Any bytes)) p h.runs by_result } where
  by_memory : (b : Bool) (c : List Exchange) (e : OciDistributionError) → MatchBool b (Unit {0}) (IsPrefix (joined (bodies c)) bytes × Kind e) → MatchBool b (Unit {0}) (IsPrefix (joined (bodies c)) bytes × Any e)
  by_memory true c e g = tt
  by_memory false c e g = (g.0, tt)

  by_result : (m n : ℕ) (c : List Exchange) (r : Result A OciDistributionError) → ByResult (Gave Kind bytes) (Gives Kind bytes) m c n r → ByResult (Gave Any bytes) (Gives Any bytes) m c n r
  by_result m n c (Ok a) g = g
  by_result m n c (Err e) g = λ none. by_memory (is_memory e) c e (g none)

document_bytes : (kind body : List ℕ) (c : List Exchange) → DocumentSent kind body c → joined (bodies c) ≡ body
document_bytes kind body c doc = ap (λ xs. joined (bodies xs)) doc.split ∙ sent_both doc.before (doc.last ∷ []) ∙ ap (λ xs. joined xs ++ joined (bodies (doc.last ∷ []))) doc.bodiless ∙ ap joined (append-nil (part doc.last.request.body)) ∙ joined_part doc.last.request.body ∙ doc.document.bytes

raw_carries : (s : Context) (image : Reference) (body kind : List ℕ) → Carries Any body (push_manifest_raw s image body kind)
raw_carries s image body kind = record { runs = EveryRun-more (ByResult (Sends kind body) (Refused kind body)) (ByResult (Gave Any body) (Gives Any body)) (push_manifest_raw s image body kind) (raw_runs kind body s image) by_result } where
  by_memory : (b : Bool) (c : List Exchange) (e : OciDistributionError) → MatchBool b (Unit {0}) (Either kind body c e) → MatchBool b (Unit {0}) (IsPrefix (joined (bodies c)) body × Any e)
  by_memory true c e h = tt
  by_memory false c e (inl h) = (subst (λ xs. IsPrefix (joined xs) body) (sym h.1) (body, refl), tt)
  by_memory false c e (inr doc) = (([], sym (append-nil (joined (bodies c)) ∙ document_bytes kind body c doc)), tt)

  by_result : (m n : ℕ) (c : List Exchange) (r : Result (List ℕ) OciDistributionError) → ByResult (Sends kind body) (Refused kind body) m c n r → ByResult (Gave Any body) (Gives Any body) m c n r
  by_result m n c (Ok url) doc = λ none. document_bytes kind body c doc
  by_result m n c (Err e) h = λ none. by_memory (is_memory e) c e h

store_carries : (image : Reference) (a : RegistryAuth) → Carries Any [] (store image a)
unfolding store bind
store_carries image a = record { runs = EveryRun-recall _ _ (λ k. EveryRun-keep _ _ _ (EveryRun-done _ (Ok tt) (λ m none. refl))) }

-- the layers, the configuration, and the text of the manifest
abbrev all_bytes : List ImageLayer → Config → OciImageManifest → List ℕ
all_bytes layers config manifest = joined (blobs_of layers config) ++ manifest_text_of (Image manifest)

image_carries : (s : Context) (image : Reference) (layers : List ImageLayer) (config : Config) (manifest : OciImageManifest) → Carries Any (all_bytes layers config manifest) (image_pushed s image layers config manifest)
unfolding image_pushed
image_carries s image layers config manifest =
    let blobs = joined (contents s image layers) in
    let text = manifest_text_of (Image manifest) in
    let whole : blobs ++ (config.content ++ (text ++ [])) ≡ all_bytes layers config manifest = ap (λ xs. blobs ++ (config.content ++ xs)) (append-nil text) ∙ sym (append_assoc blobs config.content text) ∙ ap (λ xs. xs ++ text) (ap (λ xs. blobs ++ xs) (sym (append-nil config.content)) ∙ sym (joined_both (contents s image layers) (config.content ∷ []))) in
    carries_as Any _ whole (carries_next Any (layers_pushed s image (digests_for manifest.layers layers) layers) _ (any_of blobs _ (layers_carry s image (digests_for manifest.layers layers) layers (same_count manifest.layers layers))) (λ u.
    carries_next Any (push_blob s image config.content manifest.config.digest) _ (any_of config.content _ (blob_carries s image config.content manifest.config.digest)) (λ config_url.
    carries_next Any (push_manifest s image (Image manifest)) _ (raw_carries s image text (content_type_of (Image manifest))) (λ manifest_url. carries_done Any _))))

push_carries : (s : Context) (image : Reference) (layers : List ImageLayer) (config : Config) (a : RegistryAuth) (given : Option OciImageManifest) → Carries Any (all_bytes layers config (manifest_for given layers config)) (push s image layers config a given)
unfolding push
push_carries s image layers config a given = carries_next Any (store image a) _ (store_carries image a) (λ u. image_carries s image layers config (manifest_for given layers config))

-- ---- what was exposed

pub image_sends : (s : Context) (image : Reference) (layers : List ImageLayer) (config : Config) (a : RegistryAuth) (given : Option OciImageManifest) {old new : Link} {k l : AuthState} (r : Result PushResponse OciDistributionError) → Meets is_memory (push s image layers config a given) old new k l r → SendsImage (blobs_of layers config) (manifest_text_of (Image (manifest_for given layers config))) old new r
image_sends s image layers config a given {old} {new} r met = by_result r (Meets-shows (ByResult (Gave Any bytes) (Gives Any bytes)) (push_carries s image layers config a given).runs met) where
  bytes : List ℕ
  bytes = all_bytes layers config (manifest_for given layers config)

  by_memory : (b : Bool) (e : OciDistributionError) → MatchBool b (Unit {0}) (Told (λ c. NoneOther c → MatchBool b (Unit {0}) (IsPrefix (joined (bodies c)) bytes × Any e)) old new) → MatchBool b (Unit {0}) (Told (λ c. NoneOther c → SentBytes {A = PushResponse} bytes c (Err e)) old new)
  by_memory true e told = tt
  by_memory false e told = record { conversation = told.conversation; told = told.told; holds = λ none. (told.holds none).0 }

  by_result : (r : Result PushResponse OciDistributionError) → UnlessMemory is_memory (λ r. Told (λ c. ByResult (Gave Any bytes) (Gives Any bytes) old.faults c new.faults r) old new) r → SendsImage (blobs_of layers config) (manifest_text_of (Image (manifest_for given layers config))) old new r
  by_result (Ok response) told = told
  by_result (Err e) told = by_memory (is_memory e) e told
