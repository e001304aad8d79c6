-- Each error of a call to Fulcio has its cause.
use Rattle.std.proofs.Common.{◌≡◌, ◌≤◌, ◌++◌, ◌⊎◌, inl, inr, ℕ, List, [], ◌∷◌, Bool, true, false, Option, Some, None, Result, Ok, Err, IfErr, refl, arith}
use Rattle.std.specs.Prelude.{MatchBool, nat_eq, length, if◌then◌else◌, codes}
use Rattle.url.specs.Parts.{Parts, serialize}
use Rattle.url.specs.Parser.{Parsed, parse_url}
use Rattle.json_values.specs.Refusals as Refusals
use Rattle.json_tables.specs.Plain.{read_plain}
use Rattle.service_models.specs.Certificate.{signing_certificate_of}
use Rattle.service_models.specs.declared.certificate.SigningCertificate.{SigningCertificate}
use Rattle.service_models.specs.declared.certificate.SigningCertificate.TheVariants.{SignedCertificateDetachedSct, SignedCertificateEmbeddedSct}
use Rattle.oci_transport.specs.Headers.{Fields}
use Rattle.oci_transport.specs.Link.{Link}
use Rattle.oci_transport.specs.declared.message.Request.{Request}
use Rattle.oci_transport.specs.declared.message.Answer.{Answer}
use Rattle.oci_transport.specs.declared.message.Exchange.{Exchange}
use Rattle.oci_transport.specs.declared.message.Method.TheVariants.{Post}
use Rattle.oci_protocol.specs.Proto.{Reply, Headed, Answered, Failed, TooLong, SinkFailed, read_within, Done, bind, unless_refused, ◌>>=◌}
use Rattle.oci_protocol.specs.Follow.{follow}
use Rattle.oci_protocol.specs.Runs.{Replies, Runs, Performs, PerformsPrefix, Meets, Told}
use Rattle.oci_protocol.proofs.Parts.{Runs-done}
use Rattle.oci_protocol.proofs.Laws.{Runs-count}
use Rattle.sig_services.specs.Body.{text_body}
use Rattle.sig_services.specs.Exchange.{whole, whole_reply}
use Rattle.sig_services.specs.FulcioError.{is_memory}
use Rattle.sig_services.specs.AuthorityCauses.{AuthorityWhy, AuthorityRefusedFor}
use Rattle.sig_services.specs.Client.{joined_to, joined, headers_with, headers_read, headers_of, request_of, asked}
use Rattle.sig_services.specs.Client.{certificate_read, certificate_in, parted, response_of, response_read, response_in}
use Rattle.sig_services.specs.declared.client.FulcioCert.{FulcioCert}
use Rattle.sig_services.specs.declared.client.CertificateResponse.{CertificateResponse}
use Rattle.sig_services.specs.declared.fulcio_error.FulcioError.{FulcioError}
use Rattle.sig_services.specs.declared.fulcio_error.FulcioError.TheVariants.{Link as Broken, BodyTooLong, Url, Header, Json, ChainTooShort, WantOfMemory}

-- what a reader refuses a body for
abbrev pub OfBody : List ℕ → FulcioError → Type 0
OfBody body e = (e ≡ Json body) ⊎ (e ≡ ChainTooShort)

pub certificate_refuses : (body : List ℕ) (e : FulcioError) → certificate_in body ≡ Err e → OfBody body e
certificate_refuses body e h = by_text (text_body body) h where
  by_text : (o : Option (List ℕ)) → certificate_read body o ≡ Err e → OfBody body e
  by_text (Some text) h = absurd (cc h)
  by_text None h = inl cc

parted_refuses : (body : List ℕ) (certificates : List (List ℕ)) (e : FulcioError) → parted certificates ≡ Err e → e ≡ ChainTooShort
parted_refuses body [] e h = cc
parted_refuses body (cert ∷ chain) e h = by_count (nat_eq (length chain) 0) h where
  by_count : (b : Bool) → if◌then◌else◌ {A = Result (List ℕ × List (List ℕ)) FulcioError} b (Err ChainTooShort) (Ok (cert, chain)) ≡ Err e → e ≡ ChainTooShort
  by_count true h = cc
  by_count false h = absurd (cc h)

response_of_refuses : (body : List ℕ) (certificate : SigningCertificate) (e : FulcioError) → response_of certificate ≡ Err e → e ≡ ChainTooShort
response_of_refuses body (SignedCertificateDetachedSct x) e h = by_parts (parted x.chain.certificates) refl h where
  by_parts : (r : Result (List ℕ × List (List ℕ)) FulcioError) → parted x.chain.certificates ≡ r
      → Refusals.◌>>=◌ {B = CertificateResponse} r (λ both. Ok (record { cert = both.0; chain = both.1; detached_sct = Some x })) ≡ Err e → e ≡ ChainTooShort
  by_parts (Ok both) is h = absurd (cc h)
  by_parts (Err y) is h = parted_refuses body x.chain.certificates e cc
response_of_refuses body (SignedCertificateEmbeddedSct x) e h = by_parts (parted x.chain.certificates) refl h where
  by_parts : (r : Result (List ℕ × List (List ℕ)) FulcioError) → parted x.chain.certificates ≡ r
      → Refusals.◌>>=◌ {B = CertificateResponse} r (λ both. Ok (record { cert = both.0; chain = both.1; detached_sct = None })) ≡ Err e → e ≡ ChainTooShort
  by_parts (Ok both) is h = absurd (cc h)
  by_parts (Err y) is h = parted_refuses body x.chain.certificates e cc

pub response_refuses : (body : List ℕ) (e : FulcioError) → response_in body ≡ Err e → OfBody body e
response_refuses body e h = by_certificate (read_plain signing_certificate_of body) h where
  by_certificate : (o : Option SigningCertificate) → response_read body o ≡ Err e → OfBody body e
  by_certificate (Some certificate) h = inr (response_of_refuses body certificate e h)
  by_certificate None h = inl cc

module _ {A : Type 0} (read : List ℕ → Result A FulcioError) (refuses : (body : List ℕ) (e : FulcioError) → read body ≡ Err e → OfBody body e)
    (root : Parts) (path token : List ℕ) (accept : Option (List ℕ)) where
  abbrev Caused : ℕ → List Exchange → ℕ → Result A FulcioError → Type 0
  Caused m c n r = IfErr r (λ e. AuthorityWhy read root path token accept m c n e)

  -- ---- the request

  headers_why : (url : Parts) (body : List ℕ) (e : FulcioError) (m n : ℕ) (o : Option Fields) → headers_with (codes "Bearer " ++ token) accept ≡ o
      → Refusals.◌>>=◌ {B = Request} (headers_read token o) (λ headers. Ok (record { method = Post; url = serialize url; headers = headers; body = body })) ≡ Err e → AuthorityWhy read root path token accept m [] n e
  headers_why url body e m n (Some headers) is h = absurd (cc h)
  headers_why url body e m n None is h = let at : Header token ≡ e = cc in rw (← at) (refl, refl, is)

  request_why : (body : List ℕ) (e : FulcioError) (m n : ℕ) → request_of root path token accept body ≡ Err e → AuthorityWhy read root path token accept m [] n e
  unfolding request_of
  request_why body e m n h = by_url (parse_url (Some root) path) refl h where
    by_url : (o : Parsed Parts) → parse_url (Some root) path ≡ o
        → Refusals.◌>>=◌ {B = Request} (joined_to path o) (λ url. Refusals.◌>>=◌ {B = Request} (headers_of token accept) (λ headers. Ok (record { method = Post; url = serialize url; headers = headers; body = body }))) ≡ Err e → AuthorityWhy read root path token accept m [] n e
    by_url (Err x) is h = let at : Url path ≡ e = cc in rw (← at) (refl, refl, rw is refl)
    by_url (Ok url) is h = headers_why url body e m n (headers_with (codes "Bearer " ++ token) accept) refl h

  -- ---- the answer

  read_why : (answer : Answer) (e : Exchange) (m n : ℕ) (r : Result A FulcioError) → e.answer ≡ Some answer → read answer.body ≡ r → Caused m (e ∷ []) n r
  read_why answer e m n (Ok x) is same = tt
  read_why answer e m n (Err x) is same = by_cause (refuses answer.body x same) where
    by_cause : OfBody answer.body x → AuthorityWhy read root path token accept m (e ∷ []) n x
    by_cause (inl at) = rw at (answer, (e, refl, is), refl, rw at at same)
    by_cause (inr at) = rw at (answer, (e, refl, is), rw at at same)

  last_why : (answer : Answer) (e : Exchange) (k l : Unit {0}) (m o n : ℕ) (d : List Exchange) (r : Result A FulcioError) → e.answer ≡ Some answer → Runs (Done (read answer.body)) k o d n l r → Caused m (e ∷ d) n r
  last_why answer e k l m o n d r is run =
      let done = Runs-done (read answer.body) k o d n l r run in
      rw (done.0, ← done.2) (read_why answer e m n (read answer.body) is refl)

  after_why : (e : Exchange) (k l : Unit {0}) (m o n : ℕ) (d : List Exchange) (x : FulcioError) (r : Result A FulcioError) → AuthorityWhy read root path token accept m (e ∷ []) n x
      → Runs {A = Result A FulcioError} (Done (Err x)) k o d n l r → Caused m (e ∷ d) n r
  after_why e k l m o n d x r why run =
      let done = Runs-done {A = Result A FulcioError} (Err x) k o d n l r run in
      rw (done.0, ← done.2) why

  reply_why : (request : Request) (e : Exchange) (k l : Unit {0}) (m o n : ℕ) (d : List Exchange) (reply : Reply) (r : Result A FulcioError) → Replies request (read_within 4294967295) m e o reply
      → Runs (bind (whole_reply Broken BodyTooLong request reply) (unless_refused (λ answer. Done (read answer.body)))) k o d n l r → o ≤ n → Caused m (e ∷ d) n r
  unfolding read_within bind
  reply_why request e k l m o n d (Answered answer) r replies run le = last_why answer e k l m o n d r replies.reply_is.1 run
  reply_why request e k l m o n d TooLong r replies run le =
      after_why e k l m o n d BodyTooLong r (replies.reply_is.0, (e, refl, replies.reply_is.2), (let is : 4294967295 ≡ replies.reply_is.1 = cc in omega (arith, is, replies.reply_is.4))) run
  reply_why request e k l m o n d Failed r replies run le =
      after_why e k l m o n d Broken r (omega (arith, replies.faults_is, replies.reply_is, le)) run
  reply_why request e k l m o n d (Headed head) r replies run le = absurd (cc replies.reply_is.2)
  reply_why request e k l m o n d SinkFailed r replies run le = absurd (cc replies.reply_is.3)

  whole_why : (request : Request) (k l : Unit {0}) (m n : ℕ) (c : List Exchange) (r : Result A FulcioError) → Runs (whole Broken BodyTooLong 4294967295 request >>= (λ answer. Done (read answer.body))) k m c n l r → Caused m c n r
  unfolding whole follow bind Runs
  whole_why request k l m n [] r run = absurd run
  whole_why request k l m n (e ∷ d) r run = reply_why request e k l m run.0 n d run.1 r run.2 run.3 (Runs-count (bind (whole_reply Broken BodyTooLong request run.1) (unless_refused (λ answer. Done (read answer.body)))) k l run.0 n d r run.3)

  call_why : (body : List ℕ) (k l : Unit {0}) (m n : ℕ) (c : List Exchange) (r : Result A FulcioError) → Runs (asked root path token accept body >>= (λ answer. Done (read answer.body))) k m c n l r → Caused m c n r
  unfolding asked bind
  call_why body k l m n c r run = by_request (request_of root path token accept body) refl run where
    by_request : (q : Result Request FulcioError) → request_of root path token accept body ≡ q
        → Runs (bind (unless_refused (whole Broken BodyTooLong 4294967295) q) (unless_refused (λ answer. Done (read answer.body)))) k m c n l r → Caused m c n r
    by_request (Ok request) is run = whole_why request k l m n c r run
    by_request (Err e) is run =
        let done = Runs-done {A = Result A FulcioError} (Err e) k m c n l r run in
        rw (done.0, ← done.2) (request_why body e m n is)

  memory_why : (e : FulcioError) (m n : ℕ) (c : List Exchange) → is_memory e ≡ true → AuthorityWhy read root path token accept m c n e
  memory_why WantOfMemory m n c h = tt
  memory_why Broken m n c h = absurd (cc h)
  memory_why BodyTooLong m n c h = absurd (cc h)
  memory_why (Url text) m n c h = absurd (cc h)
  memory_why (Header text) m n c h = absurd (cc h)
  memory_why (Json body) m n c h = absurd (cc h)
  memory_why ChainTooShort m n c h = absurd (cc h)

  refused_why : (body : List ℕ) (old new : Link) (k l : Unit {0}) (e : FulcioError) (b : Bool) → is_memory e ≡ b
      → MatchBool b (PerformsPrefix (asked root path token accept body >>= (λ answer. Done (read answer.body))) old new k l) (Performs (asked root path token accept body >>= (λ answer. Done (read answer.body))) old new k l (Err e))
      → Told (λ c. AuthorityWhy read root path token accept old.faults c new.faults e) old new
  refused_why body old new k l e true b h = record { conversation = h.conversation; told = h.told; holds = memory_why e old.faults new.faults h.conversation b }
  refused_why body old new k l e false b h = record { conversation = h.conversation; told = h.told; holds = call_why body k l old.faults new.faults h.conversation (Err e) h.runs }

  -- of each call's result
  pub caused : (body : List ℕ) {old new : Link} (r : Result A FulcioError) → ((k : Unit {0}) → Meets is_memory (asked root path token accept body >>= (λ answer. Done (read answer.body))) old new k k r)
      → AuthorityRefusedFor read root path token accept old new r
  caused body (Ok a) met = tt
  caused body {old} {new} (Err e) met = refused_why body old new tt tt e (is_memory e) refl (met tt).outcome
