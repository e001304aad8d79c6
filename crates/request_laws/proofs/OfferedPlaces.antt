-- The properties of a blob's row, which may continue with the URLs of a descriptor: those of an attempt, at each place.
use Rattle.std.proofs.Common.{◌≡◌, ◌⊎◌, inl, inr, ℕ, Bool, true, false, List, [], ◌∷◌, ◌++◌, Some, Result, Ok, Err, refl, sym, ap, ◌∙◌}
use Rattle.std.specs.Prelude.{if◌then◌else◌}
use Rattle.oci_transport.specs.declared.message.Request.{Request}
use Rattle.oci_transport.specs.declared.message.AnswerHead.{AnswerHead}
use Rattle.oci_transport.specs.declared.message.Exchange.{Exchange}
use Rattle.oci_auth.specs.declared.auth_state.AuthState.{AuthState}
use Rattle.oci_protocol.specs.Proto.{Unread, limit_of, Reply, Headed, Answered, Failed, TooLong, SinkFailed, Done, ◌>>=◌}
use Rattle.oci_protocol.specs.Runs.{head_part, Runs, Replies}
use Rattle.oci_protocol.specs.EveryRun.{EveryRun, Heard}
use Rattle.oci_protocol.proofs.RunFacts.{EveryRun-step, EveryRun-follow}
use Rattle.engine_terms.specs.declared.settings.Settings.{Settings}
use Rattle.engine_terms.specs.declared.error.OciDistributionError.{OciDistributionError}
use Rattle.engine_requests.specs.declared.sources.Place.{Place}
use Rattle.engine_answers.specs.Answers.{is_error}
use Rattle.engine_requests.specs.Sources.{asked_at}
use Rattle.engine_rows.specs.Blobs.{Destination, blob_reading, blob_reply, attempt}
use Rattle.engine_rows.specs.Offers.{offer_reading, offer_reply, offer, tried}
use Rattle.engine_rows.specs.Rows.{Row}

-- ---- the reply to an offer: it is skipped, or it is one to an attempt

abbrev pub IsPassed : Reply → Type 0
IsPassed (Headed head) = is_error head.status ≡ true
IsPassed reply = ⊥

not_passed : {A : Type 0} (b : Bool) (x y : A) → b ≡ false → (if b then x else y) ≡ y
not_passed true x y h = absurd (cc h)
not_passed false x y h = refl

passed : {A : Type 0} (b : Bool) (x y : A) → b ≡ true → (if b then x else y) ≡ x
passed true x y h = refl
passed false x y h = absurd (cc h)

offered_reading : (to : Destination) (limit : ℕ) (digest : List ℕ) (head : AnswerHead) → is_error head.status ≡ false → offer_reading to limit digest head ≡ blob_reading to limit digest head
unfolding offer_reading
offered_reading to limit digest head good = not_passed (is_error head.status) Unread (blob_reading to limit digest head) good

passed_reading : (to : Destination) (limit : ℕ) (digest : List ℕ) (head : AnswerHead) → is_error head.status ≡ true → offer_reading to limit digest head ≡ Unread
unfolding offer_reading
passed_reading to limit digest head bad = passed (is_error head.status) Unread (blob_reading to limit digest head) bad

-- a body was read only if the status is not 4xx or 5xx
read_reading : (to : Destination) (limit n : ℕ) (digest : List ℕ) (head : AnswerHead) → limit_of (offer_reading to limit digest head) ≡ Some n → offer_reading to limit digest head ≡ blob_reading to limit digest head
read_reading to limit n digest head is = by_test (is_error head.status) refl where
  by_test : (b : Bool) → is_error head.status ≡ b → offer_reading to limit digest head ≡ blob_reading to limit digest head
  by_test true bad = absurd (cc (sym is ∙ ap limit_of (passed_reading to limit digest head bad)))
  by_test false good = offered_reading to limit digest head good

-- what an attempt does not read, an offer does not read
unread_offer : (to : Destination) (limit : ℕ) (digest : List ℕ) (head : AnswerHead) → blob_reading to limit digest head ≡ Unread → offer_reading to limit digest head ≡ Unread
unread_offer to limit digest head unread = by_test (is_error head.status) refl where
  by_test : (b : Bool) → is_error head.status ≡ b → offer_reading to limit digest head ≡ Unread
  by_test true bad = passed_reading to limit digest head bad
  by_test false good = offered_reading to limit digest head good ∙ unread

headed_as : (to : Destination) (limit : ℕ) (digest : List ℕ) (last : Request) (before after : ℕ) (e : Exchange) (head : AnswerHead) → is_error head.status ≡ false → Replies last (offer_reading to limit digest) before e after (Headed head) → Replies last (blob_reading to limit digest) before e after (Headed head)
headed_as to limit digest last before after e head good r = record { request_is = r.request_is; faults_is = r.faults_is; count = r.count; reply_is = (r.reply_is.0, r.reply_is.1, sym (offered_reading to limit digest head good) ∙ r.reply_is.2); fails_as = tt }

-- a reply that is not skipped is one to an attempt
replies_as : (to : Destination) (limit : ℕ) (digest : List ℕ) (last : Request) (before after : ℕ) (e : Exchange) (reply : Reply) → Replies last (offer_reading to limit digest) before e after reply → IsPassed reply ⊎ Replies last (blob_reading to limit digest) before e after reply
replies_as to limit digest last before after e (Headed head) r = by_test (is_error head.status) refl where
  by_test : (b : Bool) → is_error head.status ≡ b → IsPassed (Headed head) ⊎ Replies last (blob_reading to limit digest) before e after (Headed head)
  by_test true bad = inl bad
  by_test false good = inr (headed_as to limit digest last before after e head good r)
replies_as to limit digest last before after e (Answered answer) r = inr (record { request_is = r.request_is; faults_is = r.faults_is; count = r.count; reply_is = (r.reply_is.0, r.reply_is.1, ap limit_of (sym (read_reading to limit r.reply_is.0 digest (head_part answer) r.reply_is.2)) ∙ r.reply_is.2, r.reply_is.3); fails_as = tt })
replies_as to limit digest last before after e Failed r = inr (record { request_is = r.request_is; faults_is = r.faults_is; count = r.count; reply_is = r.reply_is; fails_as = λ answer is unread. r.fails_as answer is (unread_offer to limit digest (head_part answer) unread) })
replies_as to limit digest last before after e TooLong r = inr (record { request_is = r.request_is; faults_is = r.faults_is; count = r.count; reply_is = (r.reply_is.0, r.reply_is.1, r.reply_is.2, ap limit_of (sym (read_reading to limit r.reply_is.1 digest (head_part r.reply_is.0) r.reply_is.3)) ∙ r.reply_is.3, r.reply_is.4); fails_as = tt })
replies_as to limit digest last before after e SinkFailed r = inr (record { request_is = r.request_is; faults_is = r.faults_is; count = r.count; reply_is = (r.reply_is.0, r.reply_is.1, r.reply_is.2, sym (read_reading to limit r.reply_is.1 digest (head_part r.reply_is.0) (ap limit_of r.reply_is.3)) ∙ r.reply_is.3); fails_as = tt })

heard_replies : (to : Destination) (limit : ℕ) (digest : List ℕ) (request : Request) (m : ℕ) (c : List Exchange) (after : ℕ) (last : Request) (reply : Reply) → Heard 10 request (offer_reading to limit digest) m c after last reply → IsPassed reply ⊎ Heard 10 request (blob_reading to limit digest) m c after last reply
heard_replies to limit digest request m c after last reply h = by_kind (replies_as to limit digest last h.before after h.exchange reply h.replies) where
  by_kind : IsPassed reply ⊎ Replies last (blob_reading to limit digest) h.before h.exchange after reply → IsPassed reply ⊎ Heard 10 request (blob_reading to limit digest) m c after last reply
  by_kind (inl bad) = inl bad
  by_kind (inr r) = inr (record { redirects = h.redirects; exchange = h.exchange; split = h.split; left = h.left; before = h.before; trail = h.trail; replies = r; settles = h.settles })

-- what comes after it
passed_runs : (digest : List ℕ) (next : Row (List ℕ)) (last : Request) (reply : Reply) (k l : AuthState) (m n : ℕ) (c : List Exchange) (r : Result (List ℕ) OciDistributionError) → IsPassed reply → Runs (offer_reply digest next last reply) k m c n l r → Runs next k m c n l r
passed_runs digest next last (Headed head) k l m n c r bad run = rw (passed (is_error head.status) next (blob_reply digest last (Headed head)) bad) at run
passed_runs digest next last (Answered answer) k l m n c r bad run = absurd bad
passed_runs digest next last Failed k l m n c r bad run = absurd bad
passed_runs digest next last TooLong k l m n c r bad run = absurd bad
passed_runs digest next last SinkFailed k l m n c r bad run = absurd bad

-- a run from a reply that was not read because its status is 4xx or 5xx
error_or_not : (digest : List ℕ) (next : Row (List ℕ)) (last : Request) (head : AnswerHead) (k l : AuthState) (m n : ℕ) (c : List Exchange) (r : Result (List ℕ) OciDistributionError) (b : Bool) → is_error head.status ≡ b → Runs (offer_reply digest next last (Headed head)) k m c n l r → Runs next k m c n l r ⊎ Runs (blob_reply digest last (Headed head)) k m c n l r
error_or_not digest next last head k l m n c r true bad run = inl (rw (passed (is_error head.status) next (blob_reply digest last (Headed head)) bad) at run)
error_or_not digest next last head k l m n c r false good run = inr (rw (not_passed (is_error head.status) next (blob_reply digest last (Headed head)) good) at run)

either_runs : (digest : List ℕ) (next : Row (List ℕ)) (last : Request) (reply : Reply) (k l : AuthState) (m n : ℕ) (c : List Exchange) (r : Result (List ℕ) OciDistributionError) → Runs (offer_reply digest next last reply) k m c n l r → Runs next k m c n l r ⊎ Runs (blob_reply digest last reply) k m c n l r
either_runs digest next last (Headed head) k l m n c r run = error_or_not digest next last head k l m n c r (is_error head.status) refl run
either_runs digest next last (Answered answer) k l m n c r run = inr run
either_runs digest next last Failed k l m n c r run = inr run
either_runs digest next last TooLong k l m n c r run = inr run
either_runs digest next last SinkFailed k l m n c r run = inr run

-- ---- laws of rows

-- what an attempt's last reply leads to
abbrev pub Replied : (ℕ → List Exchange → ℕ → Result (List ℕ) OciDistributionError → Type 0) → Destination → ℕ → List ℕ → Request → Type 0
Replied Q to limit digest request = (k l : AuthState) (m after o : ℕ) (c d : List Exchange) (last : Request) (reply : Reply) (r : Result (List ℕ) OciDistributionError) → Heard 10 request (blob_reading to limit digest) m c after last reply → Runs (blob_reply digest last reply) k after d o l r → Q m (c ++ d) o r

-- what holds for a run holds for it with exchanges before it
abbrev pub Later : (ℕ → List Exchange → ℕ → Result (List ℕ) OciDistributionError → Type 0) → Type 0
Later Q = (m start n : ℕ) (c d : List Exchange) (r : Result (List ℕ) OciDistributionError) → Q start d n r → Q m (c ++ d) n r

attempt_law : (Q : ℕ → List Exchange → ℕ → Result (List ℕ) OciDistributionError → Type 0) (to : Destination) (limit : ℕ) (digest : List ℕ) (request : Request) → Replied Q to limit digest request → EveryRun Q (attempt to limit digest request)
unfolding attempt
attempt_law Q to limit digest request each = EveryRun-follow Q 10 request (blob_reading to limit digest) (blob_reply digest) each

offer_law : (Q : ℕ → List Exchange → ℕ → Result (List ℕ) OciDistributionError → Type 0) (to : Destination) (limit : ℕ) (digest : List ℕ) (next : Row (List ℕ)) (request : Request) → Replied Q to limit digest request → Later Q → EveryRun Q next → EveryRun Q (offer to limit digest next request)
unfolding offer
offer_law Q to limit digest next request each later rest = EveryRun-follow Q 10 request (offer_reading to limit digest) (offer_reply digest next) by_reply where
  by_kind : (k l : AuthState) (m after o : ℕ) (c d : List Exchange) (last : Request) (reply : Reply) (r : Result (List ℕ) OciDistributionError) → IsPassed reply ⊎ Heard 10 request (blob_reading to limit digest) m c after last reply → Runs next k after d o l r ⊎ Runs (blob_reply digest last reply) k after d o l r → (IsPassed reply → Runs next k after d o l r) → Q m (c ++ d) o r
  by_kind k l m after o c d last reply r (inl bad) run from = later m after o c d r (rest.shows k l after o d r (from bad))
  by_kind k l m after o c d last reply r (inr h) (inl run) from = later m after o c d r (rest.shows k l after o d r run)
  by_kind k l m after o c d last reply r (inr h) (inr run) from = each k l m after o c d last reply r h run

  by_reply : (k l : AuthState) (m after o : ℕ) (c d : List Exchange) (last : Request) (reply : Reply) (r : Result (List ℕ) OciDistributionError) → Heard 10 request (offer_reading to limit digest) m c after last reply → Runs (offer_reply digest next last reply) k after d o l r → Q m (c ++ d) o r
  by_reply k l m after o c d last reply r h run = by_kind k l m after o c d last reply r (heard_replies to limit digest request m c after last reply h) (either_runs digest next last reply k l after o d r run) (λ bad. passed_runs digest next last reply k l after o d r bad run)

-- P holds for each place
abbrev pub EachPlace : (Place → Type 0) → List Place → Type 0
EachPlace P [] = Unit {0}
EachPlace P (p ∷ ps) = P p × EachPlace P ps

-- why a place is not requested
abbrev pub Unasked : (ℕ → List Exchange → ℕ → Result (List ℕ) OciDistributionError → Type 0) → Settings → Place → Type 0
Unasked Q s p = (e : OciDistributionError) → asked_at s p ≡ Err e → (m : ℕ) → Q m [] m (Err e)

-- the request at a place has the property
abbrev pub Gives : (Request → Type 0) → Settings → Place → Type 0
Gives Good s p = (request : Request) → asked_at s p ≡ Ok request → Good request

-- for the request and each place
pub tried_law : (Q : ℕ → List Exchange → ℕ → Result (List ℕ) OciDistributionError → Type 0) (Good : Request → Type 0) (to : Destination) (s : Settings) (digest : List ℕ) → ((request : Request) → Good request → Replied Q to s.max_body_bytes digest request) → Later Q
    → (places : List Place) → EachPlace (Gives Good s) places → EachPlace (Unasked Q s) places → (request : Request) → Good request → EveryRun Q (tried to s digest places request)
unfolding tried
tried_law Q Good to s digest each later [] made unasked request good = attempt_law Q to s.max_body_bytes digest request (each request good)
tried_law Q Good to s digest each later (p ∷ ps) made unasked request good = offer_law Q to s.max_body_bytes digest (Done (asked_at s p) >>= (λ next. tried to s digest ps next)) request (each request good) later
    (EveryRun-step Q (asked_at s p) (λ next. tried to s digest ps next) (λ next is. tried_law Q Good to s digest each later ps made.1 unasked.1 next (made.0 next is)) (λ e is. unasked.0 e is))
