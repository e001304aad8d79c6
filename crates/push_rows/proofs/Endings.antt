-- Why the steps of a push are refused: not because of the source, and for a body that is too long only by the last
-- response.
use Rattle.std.proofs.Common.{◌≡◌, ◌<◌, ℕ, Bool, true, false, List, [], ◌∷◌, ◌++◌, Option, Some, None, Result, Ok, Err, codes, length, refl, sym, ap, subst, ◌∙◌, append-nil, append_assoc}
use Rattle.std.specs.Prelude.{◌+◌, nat_eq, decimal, ◌&&◌, if◌then◌else◌, ok_or}
use Rattle.std.specs.FinMap as map
use Rattle.url.specs.Parts.{Parts, serialize}
use Rattle.url.specs.Setters.{append_query_pairs}
use Rattle.oci_auth.specs.Auth.{authorization_of}
use Rattle.oci_auth.specs.Cache.{key_of, token_at}
use Rattle.oci_auth.specs.Kept.{Key}
use Rattle.oci_auth.specs.declared.auth.RegistryAuth.{RegistryAuth}
use Rattle.oci_auth.specs.declared.auth_state.AuthState.{AuthState}
use Rattle.oci_auth.specs.declared.token_type.RegistryOperation.TheVariants.{Push}
use Rattle.oci_auth.specs.declared.token_type.RegistryTokenType.{RegistryTokenType}
use Rattle.oci_names.specs.Reference.{resolved_registry}
use Rattle.oci_names.specs.declared.reference.Reference.{Reference}
use Rattle.oci_transport.specs.Headers.{Fields, added, first_of, is_text, is_header_value, has_room}
use Rattle.oci_transport.specs.Link.{Link}
use Rattle.oci_transport.specs.Urls.{request_url}
use Rattle.oci_transport.specs.declared.message.AnswerHead.{AnswerHead}
use Rattle.oci_transport.specs.declared.message.Method.{Method}
use Rattle.oci_transport.specs.declared.message.Method.TheVariants.{Post, Patch, Put}
use Rattle.oci_transport.specs.declared.message.Request.{Request}
use Rattle.oci_protocol.specs.Ends.{Ends}
use Rattle.oci_protocol.specs.EveryRun.{EveryRun, Heard, ByResult}
use Rattle.oci_protocol.specs.Proto.{Unread, Within, limit_of, Reply, Headed, Answered, Failed, TooLong, SinkFailed, Done, bind, ◌>>=◌}
use Rattle.oci_protocol.specs.Runs.{Runs, Meets, Told, head_part}
use Rattle.oci_protocol.proofs.Conversations.{Extends-more}
use Rattle.oci_protocol.proofs.Ends.{Ends-any, Ends-bind, Runs-ends}
use Rattle.oci_protocol.proofs.RunFacts.{done_run, EveryRun-done, EveryRun-more, EveryRun-each, EveryRun-follow, Meets-shows-err}
use Rattle.oci_transport.specs.declared.message.Exchange.{Exchange}
use Rattle.engine_terms.specs.Contexts.{Context}
use Rattle.json_values.specs.Refusals.{◌>>=◌ as ◌into◌}
use Rattle.engine_terms.specs.Error.{is_memory}
use Rattle.engine_terms.specs.declared.error.GenericCause.TheVariants.{HeaderText, NoSize, SizeDiffers}
use Rattle.engine_terms.specs.declared.error.SpecViolation.TheVariants.{Status}
use Rattle.engine_terms.specs.declared.error.OciDistributionError.{OciDistributionError}
use Rattle.engine_terms.specs.declared.error.OciDistributionError.TheVariants as refusal
use Rattle.engine_terms.specs.declared.settings.Settings.{Settings}
use Rattle.engine_requests.specs.Addresses.{registry_text, uploads_text, url_or, url_read}
use Rattle.engine_requests.specs.Requests.{with_header, with_accept, with_token, headers_of, request_of}
use Rattle.engine_rows.specs.Rows.{Row, token_step, passed_over, taken, token_asked, kept_or_asked, token_by, token_for, goes_to, token_where, authorized}
use Rattle.engine_answers.specs.Answers.{is_success}
use Rattle.push_rows.specs.Bodies.{LastLong}
use Rattle.push_rows.specs.Contents.{range_text, octet_stream, with_length, with_type, with_content, with_fields}
use Rattle.push_rows.specs.Locations.{resolved, location_of, located}
use Rattle.push_rows.specs.Uploads.{unless_success, location_reply, location_after, sent, upload_begun, chunk_sent, upload_ended, chunks_sent}
use Rattle.push_rows.specs.declared.content.Content.{Content}
use Rattle.push_rows.specs.declared.content.Content.TheVariants.{Nothing, Whole, Chunk, Document}

-- ---- the token step

-- the registry's URL is malformed, or memory ran out
abbrev pub NoRegistry : Settings → Reference → {A : Type 0} → Result A OciDistributionError → Type 0
NoRegistry s image (Ok a) = Unit {0}
NoRegistry s image (Err (refusal.UrlParseError text)) = (request_url text ≡ None) × (text ≡ registry_text s image)
NoRegistry s image (Err refusal.WantOfMemory) = Unit {0}
NoRegistry s image (Err _) = ⊥

over_fine : (s : Settings) (image : Reference) (e : OciDistributionError) → NoRegistry s image (passed_over e)
over_fine s image refusal.WantOfMemory = tt
over_fine s image _ = tt

taken_fine : (s : Settings) (image : Reference) (moment : ℕ) (key : Key) (r : Result (Option RegistryTokenType) OciDistributionError) → Ends (NoRegistry s image) (taken moment key r)
unfolding Ends
taken_fine s image moment key (Ok None) = tt
taken_fine s image moment key (Ok (Some token)) = λ k. tt
taken_fine s image moment key (Err e) = over_fine s image e

asked_fine : (s : Context) (image : Reference) (a : RegistryAuth) → Ends (NoRegistry s.settings image) (token_asked s image Push a)
unfolding token_asked
asked_fine s image a = Ends-bind (λ r. Unit {0}) (NoRegistry s.settings image) (token_step s.settings image a Push) (taken s.moment (key_of image Push)) (Ends-any (λ r. Unit {0}) (token_step s.settings image a Push) (λ r. tt)) (λ r h. taken_fine s.settings image s.moment (key_of image Push) r)

kept_fine : (s : Context) (image : Reference) (a : RegistryAuth) (kept : Option RegistryTokenType) → Ends (NoRegistry s.settings image) (kept_or_asked s image Push a kept)
unfolding Ends
kept_fine s image a (Some token) = tt
kept_fine s image a None = asked_fine s image a

by_fine : (s : Context) (image : Reference) (a : Option RegistryAuth) (kept : Option RegistryTokenType) → Ends (NoRegistry s.settings image) (token_by s image Push a kept)
unfolding Ends
by_fine s image None kept = tt
by_fine s image (Some a) kept = kept_fine s image a kept

for_fine : (s : Context) (image : Reference) → Ends (NoRegistry s.settings image) (token_for s image Push)
unfolding token_for Ends bind
for_fine s image = λ k. by_fine s image (map.get k.credentials (resolved_registry image)) (token_at k.tokens (key_of image Push) s.moment)

where_fine : (s : Context) (image : Reference) (b : Bool) → Ends (NoRegistry s.settings image) (token_where s image Push b)
unfolding Ends
where_fine s image true = for_fine s image
where_fine s image false = tt

pub authorized_fine : (s : Context) (image : Reference) (url : Parts) → Ends (NoRegistry s.settings image) (authorized s image Push url)
unfolding authorized Ends bind
authorized_fine s image url = by_url (request_url (registry_text s.settings image)) refl where
  by_url : (o : Option Parts) → request_url (registry_text s.settings image) ≡ o → Ends (NoRegistry s.settings image) (Done (url_or (registry_text s.settings image) o) >>= λ registry. token_where s image Push (goes_to (request_url (serialize url)) registry))
  by_url (Some registry) is = where_fine s image (goes_to (request_url (serialize url)) registry)
  by_url None is = (is, refl)

-- a value is not a valid header value
abbrev pub Textual : {A : Type 0} → Result A OciDistributionError → Type 0
Textual (Ok a) = Unit {0}
Textual (Err e) = e ≡ refusal.GenericError HeaderText

into_textual : {A B : Type 0} (r : Result A OciDistributionError) (f : A → Result B OciDistributionError) → Textual r → ((a : A) → Textual (f a)) → Textual (r into f)
into_textual (Ok a) f h each = each a
into_textual (Err e) f h each = h

header_textual : (headers : Fields) (name value : List ℕ) → Textual (with_header headers name value)
header_textual headers name value = by_test (is_header_value value && has_room headers) where
  by_test : (b : Bool) → Textual (ok_or (if b then Some (added headers name value) else None) (refusal.GenericError HeaderText))
  by_test true = tt
  by_test false = refl

token_textual : (token : Option RegistryTokenType) (headers : Fields) → Textual (with_token token headers)
token_textual None headers = tt
token_textual (Some token) headers = header_textual headers (codes "authorization") (authorization_of token)

pub made_textual : (s : Settings) (method : Method) (url : Parts) (token : Option RegistryTokenType) → Textual (request_of s method url None token)
unfolding request_of
made_textual s method url token = into_textual (headers_of s None token) _ (into_textual (with_header map.empty (codes "user-agent") s.user_agent into with_accept None) (with_token token) (into_textual (with_header map.empty (codes "user-agent") s.user_agent) (with_accept None) (header_textual map.empty (codes "user-agent") s.user_agent) (λ headers. tt)) (token_textual token)) (λ headers. tt)

sized_textual : (bytes : List ℕ) (headers : Fields) → Textual (with_length bytes headers into with_type octet_stream)
sized_textual bytes headers = into_textual (with_length bytes headers) (with_type octet_stream) (header_textual headers (codes "content-length") (decimal (length bytes))) (λ headers. header_textual headers (codes "content-type") octet_stream)

fields_textual : (content : Content) (headers : Fields) → Textual (with_fields content headers)
fields_textual Nothing headers = header_textual headers (codes "content-length") (decimal 0)
fields_textual (Whole bytes) headers = sized_textual bytes headers
fields_textual (Chunk start bytes) headers = into_textual (with_header headers (codes "content-range") (range_text start bytes) into with_length bytes) (with_type octet_stream)
    (into_textual (with_header headers (codes "content-range") (range_text start bytes)) (with_length bytes) (header_textual headers (codes "content-range") (range_text start bytes)) (λ headers. header_textual headers (codes "content-length") (decimal (length bytes)))) (λ headers. header_textual headers (codes "content-type") octet_stream)
fields_textual (Document kind bytes) headers = header_textual headers (codes "content-type") kind

pub content_textual : (content : Content) (request : Request) → Textual (with_content content request)
unfolding with_content
content_textual content request = into_textual (with_fields content request.headers) _ (fields_textual content request.headers) (λ headers. tt)

-- ---- why a step is refused

long_after : (limit : ℕ) (c : List Exchange) {d : List Exchange} → LastLong limit d → LastLong limit (c ++ d)
long_after limit c h = record { before = c ++ h.before; last = h.last; split = ap (λ x. c ++ x) h.split ∙ sym (append_assoc c h.before (h.last ∷ [])); answer = h.answer; answered = h.answered; long = h.long }

-- also after other exchanges
pub told_long : (limit : ℕ) (P : List Exchange → Type 0) {old mid new : Link} → Told P old mid → Told (LastLong limit) mid new → Told (LastLong limit) old new
told_long limit P {old} {mid} {new} a b = record {
  conversation = a.conversation ++ b.conversation;
  told = Extends-more old mid new a.conversation b.conversation a.told b.told;
  holds = long_after limit a.conversation b.holds;
}

-- not because of the source; a body that is too long is the last response's
abbrev StepCause : ℕ → List Exchange → OciDistributionError → Type 0
StepCause limit c refusal.BodyTooLong = LastLong limit c
StepCause limit c refusal.SourceFault = ⊥
StepCause limit c refusal.PushNoDataError = ⊥
StepCause limit c (refusal.GenericError NoSize) = ⊥
StepCause limit c (refusal.GenericError SizeDiffers) = ⊥
StepCause limit c _ = Unit {0}

step_later : (limit : ℕ) (c d : List Exchange) (e : OciDistributionError) → StepCause limit d e → StepCause limit (c ++ d) e
step_later limit c d refusal.BodyTooLong h = long_after limit c h
step_later limit c d refusal.SourceFault h = h
step_later limit c d refusal.PushNoDataError h = h
step_later limit c d (refusal.GenericError NoSize) h = h
step_later limit c d (refusal.GenericError SizeDiffers) h = h
step_later limit c d _ h = tt

abbrev Answers : ℕ → {A : Type 0} → ℕ → List Exchange → ℕ → Result A OciDistributionError → Type 0
Answers limit = ByResult (λ m c n a. Unit {0}) (λ m c n e. StepCause limit c e)

record Step (limit : ℕ) {A : Type 0} (p : Row A) : Type 0 where
  shows : EveryRun (Answers limit) p

step_answer : {A : Type 0} (limit m n : ℕ) (r : Result A OciDistributionError) → ((e : OciDistributionError) → r ≡ Err e → StepCause limit [] e) → Answers limit m [] n r
step_answer limit m n (Ok a) h = tt
step_answer limit m n (Err e) h = h e refl

step_done : {A : Type 0} (limit : ℕ) (r : Result A OciDistributionError) → ((e : OciDistributionError) → r ≡ Err e → StepCause limit [] e) → Step limit (Done r)
step_done limit r h = record { shows = EveryRun-done (Answers limit) r (λ m. step_answer limit m m r h) }

step_next : {A B : Type 0} (limit : ℕ) (p : Row A) (f : A → Row B) → Step limit p → ((a : A) → Step limit (f a)) → Step limit (p >>= f)
step_next {A} {B} limit p f first each = record {
  shows = EveryRun-each (λ m c n a. Unit {0}) (λ m c n b. Unit {0}) (λ m c n e. StepCause limit c e) p f first.shows (λ m n c a h. EveryRun-more (Answers limit) (λ start d o r. Answers limit m (c ++ d) o r) (f a) (each a).shows (λ start o d r g. by_answer m start c d o r g));
} where
  by_answer : (m start : ℕ) (c d : List Exchange) (o : ℕ) (r : Result B OciDistributionError) → Answers limit start d o r → Answers limit m (c ++ d) o r
  by_answer m start c d o (Ok b) g = tt
  by_answer m start c d o (Err e) g = step_later limit c d e g

textual_step : {A : Type 0} (limit : ℕ) (r : Result A OciDistributionError) → Textual r → Step limit (Done r)
textual_step limit r textual = step_done limit r (λ e is. by_text e (subst Textual is textual)) where
  by_text : (e : OciDistributionError) → e ≡ refusal.GenericError HeaderText → StepCause limit [] e
  by_text e is = subst (StepCause limit []) (sym is) tt

url_step : (limit : ℕ) (text : List ℕ) → Step limit (Done (url_read text))
url_step limit text = step_done limit (url_read text) (by_url (request_url text)) where
  by_url : (o : Option Parts) (e : OciDistributionError) → url_or text o ≡ Err e → StepCause limit [] e
  by_url None e is = let same : refusal.UrlParseError text ≡ e = cc is in subst (StepCause limit []) same tt
  by_url (Some url) e is = absurd (cc is)

token_steps : (limit : ℕ) (s : Context) (image : Reference) (url : Parts) → Step limit (authorized s image Push url)
token_steps limit s image url = record { shows = record { shows = λ k l m n c r run. by_answer m n c r (Runs-ends (NoRegistry s.settings image) (authorized s image Push url) k l m n c r (authorized_fine s image url) run) } } where
  by_answer : (m n : ℕ) (c : List Exchange) (r : Result (Option RegistryTokenType) OciDistributionError) → NoRegistry s.settings image r → Answers limit m c n r
  by_answer m n c (Ok token) h = tt
  by_answer m n c (Err (refusal.UrlParseError text)) h = tt
  by_answer m n c (Err refusal.WantOfMemory) h = tt
  by_answer m n c (Err _) h = absurd h

-- the refusal is none of those
abbrev IsOther : {A : Type 0} → Result A OciDistributionError → Type 0
IsOther r = (e : OciDistributionError) (limit : ℕ) (c : List Exchange) → r ≡ Err e → StepCause limit c e

located_other : (s : Settings) (image : Reference) (expected : ℕ) (url : List ℕ) (head : AnswerHead) → IsOther (located s image expected url head)
unfolding located
located_other s image expected url head = by_status (nat_eq head.status expected) where
  by_text : (value : List ℕ) (b : Bool) → IsOther (if b then Ok (resolved s image value) else Err (refusal.HeaderValueError value))
  by_text value true e limit c is = absurd (cc is)
  by_text value false e limit c is = let same : refusal.HeaderValueError value ≡ e = cc is in subst (StepCause limit c) same tt

  by_header : (value : Option (List ℕ)) → IsOther (location_of s image value)
  by_header None e limit c is = let same : refusal.RegistryNoLocationError ≡ e = cc is in subst (StepCause limit c) same tt
  by_header (Some value) e limit c is = by_text value (is_text value) e limit c is

  by_status : (b : Bool) → IsOther (if b then location_of s image (first_of (codes "location") head.headers) else Err (refusal.SpecViolationError (Status expected head.status url)))
  by_status true e limit c is = by_header (first_of (codes "location") head.headers) e limit c is
  by_status false e limit c is = let same : refusal.SpecViolationError (Status expected head.status url) ≡ e = cc is in subst (StepCause limit c) same tt

other_answer : {A : Type 0} (limit m n : ℕ) (c : List Exchange) (r : Result A OciDistributionError) → IsOther r → Answers limit m c n r
other_answer limit m n c (Ok a) other = tt
other_answer limit m n c (Err e) other = other e limit c refl

limit_is : (limit n : ℕ) (head : AnswerHead) → limit_of (unless_success limit head) ≡ Some n → limit ≡ n
unfolding unless_success
limit_is limit n head is = by_test (is_success head.status) is where
  by_test : (b : Bool) → limit_of (if b then Unread else Within limit) ≡ Some n → limit ≡ n
  by_test true is = absurd (cc is)
  by_test false is = cc is

location_step : (s : Settings) (image : Reference) (expected : ℕ) (request : Request) → Step s.max_body_bytes (location_after s image expected request)
unfolding location_after
location_step s image expected request = record { shows = EveryRun-follow (Answers s.max_body_bytes) 0 request (unless_success s.max_body_bytes) (location_reply s image expected) each } where
  each : (k l : AuthState) (m after o : ℕ) (c d : List Exchange) (last : Request) (reply : Reply) (a : Result (List ℕ) OciDistributionError) → Heard 0 request (unless_success s.max_body_bytes) m c after last reply → Runs (location_reply s image expected last reply) k after d o l a → Answers s.max_body_bytes m (c ++ d) o a
  each k l m after o c d last (Headed head) a h run = done_run (λ start d o a. Answers s.max_body_bytes m (c ++ d) o a) _ k l after o d a (other_answer s.max_body_bytes m after (c ++ []) (located s image expected last.url head) (located_other s image expected last.url head)) run
  each k l m after o c d last (Answered answer) a h run = done_run (λ start d o a. Answers s.max_body_bytes m (c ++ d) o a) _ k l after o d a tt run
  each k l m after o c d last Failed a h run = done_run (λ start d o a. Answers s.max_body_bytes m (c ++ d) o a) _ k l after o d a tt run
  each k l m after o c d last TooLong a h run =
      let b = h.replies.reply_is in
      done_run (λ start d o a. Answers s.max_body_bytes m (c ++ d) o a) _ k l after o d a (record { before = h.redirects; last = h.exchange; split = append-nil c ∙ h.split; answer = b.0; answered = b.2; long = subst (λ limit. limit < length b.0.body) (sym (limit_is s.max_body_bytes b.1 (head_part b.0) b.3)) b.4 }) run
  each k l m after o c d last SinkFailed a h run = done_run (λ start d o a. Answers s.max_body_bytes m (c ++ d) o a) _ k l after o d a tt run

sent_step : (s : Context) (image : Reference) (method : Method) (url : Parts) (content : Content) (expected : ℕ) → Step s.settings.max_body_bytes (sent s image method url content expected)
unfolding sent
sent_step s image method url content expected = let limit = s.settings.max_body_bytes in step_next limit (authorized s image Push url) _ (token_steps limit s image url) (λ token.
    step_next limit (Done (request_of s.settings method url None token)) _ (textual_step limit _ (made_textual s.settings method url token)) (λ bare.
    step_next limit (Done (with_content content bare)) _ (textual_step limit _ (content_textual content bare)) (λ request. location_step s.settings image expected request)))

begun_step : (s : Context) (image : Reference) → Step s.settings.max_body_bytes (upload_begun s image)
unfolding upload_begun
begun_step s image = step_next s.settings.max_body_bytes (Done (url_read (uploads_text s.settings image))) _ (url_step s.settings.max_body_bytes (uploads_text s.settings image)) (λ url. sent_step s image Post url Nothing 202)

chunk_step : (s : Context) (image : Reference) (location : List ℕ) (start : ℕ) (bytes : List ℕ) → Step s.settings.max_body_bytes (chunk_sent s image location start bytes)
unfolding chunk_sent
chunk_step s image location start bytes = step_next s.settings.max_body_bytes (Done (url_read location)) _ (url_step s.settings.max_body_bytes location) (λ url. sent_step s image Patch url (Chunk start bytes) 202)

ended_step : (s : Context) (image : Reference) (digest location : List ℕ) (content : Content) → Step s.settings.max_body_bytes (upload_ended s image digest location content)
unfolding upload_ended
ended_step s image digest location content = step_next s.settings.max_body_bytes (Done (url_read location)) _ (url_step s.settings.max_body_bytes location) (λ url. sent_step s image Put (append_query_pairs url ((codes "digest", digest) ∷ [])) content 201)

chunks_step : (s : Context) (image : Reference) (location : List ℕ) (start : ℕ) (parts : List (List ℕ)) → Step s.settings.max_body_bytes (chunks_sent s image location start parts)
unfolding chunks_sent
chunks_step s image location start [] = step_done s.settings.max_body_bytes (Ok location) (λ e is. absurd (cc is))
chunks_step s image location start (chunk ∷ rest) = step_next s.settings.max_body_bytes (chunk_sent s image location start chunk) _ (chunk_step s image location start chunk) (λ next. chunks_step s image next (start + length chunk) rest)

-- ---- what was exposed of it

abbrev pub StepTold : ℕ → Link → Link → OciDistributionError → Type 0
StepTold limit old new refusal.BodyTooLong = Told (LastLong limit) old new
StepTold limit old new refusal.SourceFault = ⊥
StepTold limit old new refusal.PushNoDataError = ⊥
StepTold limit old new (refusal.GenericError NoSize) = ⊥
StepTold limit old new (refusal.GenericError SizeDiffers) = ⊥
StepTold limit old new _ = Unit {0}

step_told : {A : Type 0} (limit : ℕ) (p : Row A) {old new : Link} {k l : AuthState} (e : OciDistributionError) → Step limit p → Meets is_memory p old new k l (Err e) → StepTold limit old new e
step_told limit p refusal.BodyTooLong step met = Meets-shows-err (Answers limit) refl step.shows met
step_told limit p refusal.SourceFault step met = (Meets-shows-err (Answers limit) refl step.shows met).holds
step_told limit p refusal.PushNoDataError step met = (Meets-shows-err (Answers limit) refl step.shows met).holds
step_told limit p (refusal.GenericError NoSize) step met = (Meets-shows-err (Answers limit) refl step.shows met).holds
step_told limit p (refusal.GenericError SizeDiffers) step met = (Meets-shows-err (Answers limit) refl step.shows met).holds
step_told limit p _ step met = tt

pub begun_told : (s : Context) (image : Reference) {old new : Link} {k l : AuthState} (e : OciDistributionError) → Meets is_memory (upload_begun s image) old new k l (Err e) → StepTold s.settings.max_body_bytes old new e
begun_told s image e met = step_told s.settings.max_body_bytes (upload_begun s image) e (begun_step s image) met

pub ended_told : (s : Context) (image : Reference) (digest location : List ℕ) (content : Content) {old new : Link} {k l : AuthState} (e : OciDistributionError) → Meets is_memory (upload_ended s image digest location content) old new k l (Err e) → StepTold s.settings.max_body_bytes old new e
ended_told s image digest location content e met = step_told s.settings.max_body_bytes (upload_ended s image digest location content) e (ended_step s image digest location content) met

pub chunks_told : (s : Context) (image : Reference) (location : List ℕ) (start : ℕ) (parts : List (List ℕ)) {old new : Link} {k l : AuthState} (e : OciDistributionError) → Meets is_memory (chunks_sent s image location start parts) old new k l (Err e) → StepTold s.settings.max_body_bytes old new e
chunks_told s image location start parts e met = step_told s.settings.max_body_bytes (chunks_sent s image location start parts) e (chunks_step s image location start parts) met
