-- Each error of a call to Rekor has its cause.
use Rattle.std.proofs.Common.{◌≡◌, ◌≤◌, ℕ, List, [], ◌∷◌, Bool, true, false, Option, Some, None, Result, Ok, Err, IfErr, refl, arith}
use Rattle.std.specs.Prelude.{MatchBool, if◌then◌else◌}
use Rattle.serde_json.specs.Data.{Data}
use Rattle.url.specs.Parts.{Parts, serialize}
use Rattle.json_values.specs.Refusals as Refusals
use Rattle.oci_transport.specs.Headers.{Fields}
use Rattle.oci_transport.specs.Link.{Link}
use Rattle.oci_transport.specs.Urls.{request_url}
use Rattle.oci_transport.specs.declared.message.Request.{Request}
use Rattle.oci_transport.specs.declared.message.Answer.{Answer}
use Rattle.oci_transport.specs.declared.message.Exchange.{Exchange}
use Rattle.oci_transport.specs.declared.message.Method.{Method}
use Rattle.oci_protocol.specs.Proto.{Reply, Headed, Answered, Failed, TooLong, SinkFailed, read_within, Done, bind, unless_refused, ◌>>=◌}
use Rattle.oci_protocol.specs.Follow.{follow}
use Rattle.oci_protocol.specs.Runs.{Replies, Runs, Performs, PerformsPrefix, Meets, Told}
use Rattle.oci_protocol.proofs.Parts.{Runs-done}
use Rattle.oci_protocol.proofs.Laws.{Runs-count}
use Rattle.sig_services.specs.Request.{address, url_read, headers_sent, headers_read, headers_of, request_of, body_of, agent_text}
use Rattle.sig_services.specs.Exchange.{whole, whole_reply}
use Rattle.sig_services.specs.Error.{is_memory}
use Rattle.sig_services.specs.Call.{is_refusal, entity_in, read_or_json, judged, call}
use Rattle.sig_services.specs.Causes.{Why, RefusedFor}
use Rattle.sig_services.specs.declared.configuration.Configuration.{Configuration}
use Rattle.sig_services.specs.declared.error.Error.{Error}
use Rattle.sig_services.specs.declared.error.Error.TheVariants.{Link as Broken, BodyTooLong, Url, Header, Json, ResponseError, WantOfMemory}

module _ {A E : Type 0} (read : List ℕ → Option A) (entity : Data → E) (s : Configuration) (path : List ℕ) where
  abbrev Caused : ℕ → List Exchange → ℕ → Result A (Error E) → Type 0
  Caused m c n r = IfErr r (λ e. Why read entity s path m c n e)

  -- ---- the request

  headers_why : (content : Option (List ℕ)) (url : Parts) (method : Method) (e : Error E) (m n : ℕ) (o : Option Fields) → headers_sent s.user_agent content ≡ o
      → Refusals.◌>>=◌ {B = Request} (headers_read {E = E} s.user_agent o) (λ headers. Ok (record { method = method; url = serialize url; headers = headers; body = body_of content })) ≡ Err e → Why read entity s path m [] n e
  headers_why content url method e m n (Some headers) is h = absurd (cc h)
  headers_why content url method e m n None is h = let at : Header (agent_text s.user_agent) ≡ e = cc in rw (← at) (refl, refl, content, is)

  request_why : (method : Method) (content : Option (List ℕ)) (e : Error E) (m n : ℕ) → request_of s method path content ≡ Err e → Why read entity s path m [] n e
  unfolding request_of
  request_why method content e m n h = by_url (request_url (address s.base_path path)) refl h where
    by_url : (o : Option Parts) → request_url (address s.base_path path) ≡ o
        → Refusals.◌>>=◌ {B = Request} (url_read {E = E} (address s.base_path path) o) (λ url. Refusals.◌>>=◌ {B = Request} (headers_of s.user_agent content) (λ headers. Ok (record { method = method; url = serialize url; headers = headers; body = body_of content }))) ≡ Err e → Why read entity s path m [] n e
    by_url None is h = let at : Url (address s.base_path path) ≡ e = cc in rw (← at) (refl, refl, is)
    by_url (Some url) is h = headers_why content url method e m n (headers_sent s.user_agent content) refl h

  -- ---- the answer

  read_why : (answer : Answer) (e : Exchange) (m n : ℕ) (o : Option A) → e.answer ≡ Some answer → is_refusal answer.status ≡ false → read answer.body ≡ o → Caused m (e ∷ []) n (read_or_json answer.body o)
  read_why answer e m n (Some x) is good same = tt
  read_why answer e m n None is good same = (answer, (e, refl, is), good, refl, same)

  judged_why : (answer : Answer) (e : Exchange) (m n : ℕ) → e.answer ≡ Some answer → Caused m (e ∷ []) n (judged read entity answer)
  judged_why answer e m n is = by_status (is_refusal answer.status) refl where
    by_status : (b : Bool) → is_refusal answer.status ≡ b → Caused m (e ∷ []) n (if b then Err (ResponseError (record { status = answer.status; content = answer.body; entity = entity_in entity answer.body })) else read_or_json answer.body (read answer.body))
    by_status true b = (answer, (e, refl, is), b, refl, refl, refl)
    by_status false b = read_why answer e m n (read answer.body) is b refl

  -- ---- the exchange

  last_why : (answer : Answer) (e : Exchange) (k l : Unit {0}) (m o n : ℕ) (d : List Exchange) (r : Result A (Error E)) → e.answer ≡ Some answer → Runs (Done (judged read entity answer)) k o d n l r → Caused m (e ∷ d) n r
  last_why answer e k l m o n d r is run =
      let done = Runs-done (judged read entity answer) k o d n l r run in
      rw (done.0, ← done.2) (judged_why answer e m n is)

  after_why : (e : Exchange) (k l : Unit {0}) (m o n : ℕ) (d : List Exchange) (x : Error E) (r : Result A (Error E)) → Why read entity s path m (e ∷ []) n x → Runs {A = Result A (Error E)} (Done (Err x)) k o d n l r → Caused m (e ∷ d) n r
  after_why e k l m o n d x r why run =
      let done = Runs-done {A = Result A (Error E)} (Err x) k o d n l r run in
      rw (done.0, ← done.2) why

  reply_why : (request : Request) (e : Exchange) (k l : Unit {0}) (m o n : ℕ) (d : List Exchange) (reply : Reply) (r : Result A (Error E)) → Replies request (read_within s.max_body_bytes) m e o reply
      → Runs (bind (whole_reply Broken BodyTooLong request reply) (unless_refused (λ answer. Done (judged read entity answer)))) k o d n l r → o ≤ n → Caused m (e ∷ d) n r
  unfolding read_within bind
  reply_why request e k l m o n d (Answered answer) r replies run le = last_why answer e k l m o n d r replies.reply_is.1 run
  reply_why request e k l m o n d TooLong r replies run le =
      after_why e k l m o n d BodyTooLong r (replies.reply_is.0, (e, refl, replies.reply_is.2), (let is : s.max_body_bytes ≡ replies.reply_is.1 = cc in rw is replies.reply_is.4)) run
  reply_why request e k l m o n d Failed r replies run le =
      after_why e k l m o n d Broken r (omega (arith, replies.faults_is, replies.reply_is, le)) run
  reply_why request e k l m o n d (Headed head) r replies run le = absurd (cc replies.reply_is.2)
  reply_why request e k l m o n d SinkFailed r replies run le = absurd (cc replies.reply_is.3)

  whole_why : (request : Request) (k l : Unit {0}) (m n : ℕ) (c : List Exchange) (r : Result A (Error E)) → Runs (whole Broken BodyTooLong s.max_body_bytes request >>= (λ answer. Done (judged read entity answer))) k m c n l r → Caused m c n r
  unfolding whole follow bind Runs
  whole_why request k l m n [] r run = absurd run
  whole_why request k l m n (e ∷ d) r run = reply_why request e k l m run.0 n d run.1 r run.2 run.3 (Runs-count (bind (whole_reply Broken BodyTooLong request run.1) (unless_refused (λ answer. Done (judged read entity answer)))) k l run.0 n d r run.3)

  call_why : (method : Method) (content : Option (List ℕ)) (k l : Unit {0}) (m n : ℕ) (c : List Exchange) (r : Result A (Error E)) → Runs (call read entity s method path content) k m c n l r → Caused m c n r
  unfolding call bind
  call_why method content k l m n c r run = by_request (request_of s method path content) refl run where
    by_request : (q : Result Request (Error E)) → request_of s method path content ≡ q → Runs (unless_refused (λ request. whole Broken BodyTooLong s.max_body_bytes request >>= (λ answer. Done (judged read entity answer))) q) k m c n l r → Caused m c n r
    by_request (Ok request) is run = whole_why request k l m n c r run
    by_request (Err e) is run =
        let done = Runs-done {A = Result A (Error E)} (Err e) k m c n l r run in
        rw (done.0, ← done.2) (request_why method content e m n is)

  memory_why : (e : Error E) (m n : ℕ) (c : List Exchange) → is_memory e ≡ true → Why read entity s path m c n e
  memory_why WantOfMemory m n c h = tt
  memory_why Broken m n c h = absurd (cc h)
  memory_why BodyTooLong m n c h = absurd (cc h)
  memory_why (Url text) m n c h = absurd (cc h)
  memory_why (Header text) m n c h = absurd (cc h)
  memory_why (Json body) m n c h = absurd (cc h)
  memory_why (ResponseError x) m n c h = absurd (cc h)

  refused_why : (method : Method) (content : Option (List ℕ)) (old new : Link) (k l : Unit {0}) (e : Error E) (b : Bool) → is_memory e ≡ b
      → MatchBool b (PerformsPrefix (call read entity s method path content) old new k l) (Performs (call read entity s method path content) old new k l (Err e)) → Told (λ c. Why read entity s path old.faults c new.faults e) old new
  refused_why method content old new k l e true b h = record { conversation = h.conversation; told = h.told; holds = memory_why e old.faults new.faults h.conversation b }
  refused_why method content old new k l e false b h = record { conversation = h.conversation; told = h.told; holds = call_why method content k l old.faults new.faults h.conversation (Err e) h.runs }

  -- the cause of each call's result
  pub caused : (method : Method) (content : Option (List ℕ)) {old new : Link} (r : Result A (Error E)) → ((k : Unit {0}) → Meets is_memory (call read entity s method path content) old new k k r) → RefusedFor read entity s path old new r
  caused method content (Ok a) met = tt
  caused method content {old} {new} (Err e) met = refused_why method content old new tt tt e (is_memory e) refl (met tt).outcome
