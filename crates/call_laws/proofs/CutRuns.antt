-- What holds for every run of a blob's request that is cut at its size, and of the places after it.
use Rattle.std.proofs.Common.{◌≡◌, ◌⊎◌, inl, inr, ℕ, List, [], ◌∷◌, ◌++◌, Option, Some, None, Result, Ok, Err, Bool, true, false, refl, sym, ap, ◌∙◌}
use Rattle.std.specs.Prelude.{if◌then◌else◌}
use Rattle.oci_transport.specs.declared.message.Request.{Request}
use Rattle.oci_transport.specs.declared.message.AnswerHead.{AnswerHead}
use Rattle.oci_transport.specs.declared.message.Exchange.{Exchange}
use Rattle.oci_auth.specs.declared.auth_state.AuthState.{AuthState}
use Rattle.oci_protocol.specs.Proto.{Reading, Unread, limit_of, Reply, Headed, Answered, Failed, TooLong, SinkFailed, Done, ◌>>=◌}
use Rattle.oci_protocol.specs.Runs.{head_part, Runs, Replies}
use Rattle.oci_protocol.specs.EveryRun.{EveryRun, Heard}
use Rattle.oci_protocol.proofs.RunFacts.{EveryRun-step, EveryRun-follow}
use Rattle.engine_terms.specs.declared.settings.Settings.{Settings}
use Rattle.engine_terms.specs.declared.error.OciDistributionError.{OciDistributionError}
use Rattle.engine_requests.specs.declared.sources.Place.{Place}
use Rattle.engine_answers.specs.Answers.{is_error}
use Rattle.engine_requests.specs.Sources.{asked_at}
use Rattle.engine_rows.specs.Blobs.{IntoSink, blob_reading, blob_reply}
use Rattle.engine_rows.specs.Rows.{Row}
use Rattle.request_laws.proofs.OfferedPlaces.{EachPlace, Unasked, Gives}
use Rattle.call_laws.specs.Cut.{most, instead, unread_before, or_row, cut_reading, cut_reply, cut, cut_at}

-- how a response that is not skipped is read
abbrev pub own_reading : Settings → ℕ → List ℕ → AnswerHead → Reading
own_reading s size digest head = blob_reading IntoSink (most s size head) digest head

-- a response after which this row comes
abbrev pub Passes : Option (Row (List ℕ)) → Reply → Row (List ℕ) → Type 0
Passes next (Headed head) p = instead next head ≡ Some p
Passes next reply p = ⊥

instead_next : (next : Option (Row (List ℕ))) (head : AnswerHead) (p : Row (List ℕ)) → instead next head ≡ Some p → next ≡ Some p
instead_next None head p is = absurd (cc is)
instead_next (Some q) head p is = by_test (is_error head.status) is where
  by_test : (b : Bool) → (if b then Some q else None) ≡ Some p → Some q ≡ Some p
  by_test true is = is
  by_test false is = absurd (cc is)

passes_next : (next : Option (Row (List ℕ))) (reply : Reply) (p : Row (List ℕ)) → Passes next reply p → next ≡ Some p
passes_next next (Headed head) p is = instead_next next head p is
passes_next next (Answered answer) p is = absurd is
passes_next next Failed p is = absurd is
passes_next next TooLong p is = absurd is
passes_next next SinkFailed p is = absurd is

passes_runs : (digest : List ℕ) (next : Option (Row (List ℕ))) (last : Request) (reply : Reply) (p : Row (List ℕ)) (k l : AuthState) (m n : ℕ) (c : List Exchange) (r : Result (List ℕ) OciDistributionError) → Passes next reply p → Runs (cut_reply digest next last reply) k m c n l r → Runs p k m c n l r
passes_runs digest next last (Headed head) p k l m n c r is run = rw (ap (λ (o : Option (Row (List ℕ))). or_row o (blob_reply digest last (Headed head))) is) at run
passes_runs digest next last (Answered answer) p k l m n c r is run = absurd is
passes_runs digest next last Failed p k l m n c r is run = absurd is
passes_runs digest next last TooLong p k l m n c r is run = absurd is
passes_runs digest next last SinkFailed p k l m n c r is run = absurd is

module _ (s : Settings) (size : ℕ) (digest : List ℕ) (next : Option (Row (List ℕ))) where
  reads_as : (head : AnswerHead) (o : Option (Row (List ℕ))) → instead next head ≡ o → cut_reading s size digest next head ≡ unread_before o (own_reading s size digest head)
  unfolding cut_reading
  reads_as head o is = ap (λ (o : Option (Row (List ℕ))). unread_before o (own_reading s size digest head)) is

  -- a body was read only if nothing comes instead
  read_own : (head : AnswerHead) (n : ℕ) → limit_of (cut_reading s size digest next head) ≡ Some n → cut_reading s size digest next head ≡ own_reading s size digest head
  read_own head n is = by_next (instead next head) refl where
    by_next : (o : Option (Row (List ℕ))) → instead next head ≡ o → cut_reading s size digest next head ≡ own_reading s size digest head
    by_next None here = reads_as head None here
    by_next (Some p) here = absurd (cc (sym is ∙ ap limit_of (reads_as head (Some p) here)))

  unread_own : (head : AnswerHead) → own_reading s size digest head ≡ Unread → cut_reading s size digest next head ≡ Unread
  unread_own head is = by_next (instead next head) refl where
    by_next : (o : Option (Row (List ℕ))) → instead next head ≡ o → cut_reading s size digest next head ≡ Unread
    by_next None here = reads_as head None here ∙ is
    by_next (Some p) here = reads_as head (Some p) here

  -- the reply is not skipped, and it is one to a request of which nothing is skipped
  abbrev pub IsOwn : Request → ℕ → Exchange → ℕ → Reply → Type 0
  IsOwn last before e after reply = Replies last (own_reading s size digest) before e after reply × (cut_reply digest next last reply ≡ blob_reply digest last reply)

  headed_own : (last : Request) (before after : ℕ) (e : Exchange) (head : AnswerHead) → Replies last (cut_reading s size digest next) before e after (Headed head) → (o : Option (Row (List ℕ))) → instead next head ≡ o → ((p : Row (List ℕ)) × Passes next (Headed head) p) ⊎ IsOwn last before e after (Headed head)
  headed_own last before after e head r None here = inr (record { request_is = r.request_is; faults_is = r.faults_is; count = r.count; reply_is = (r.reply_is.0, r.reply_is.1, sym (reads_as head None here) ∙ r.reply_is.2); fails_as = tt }, ap (λ (o : Option (Row (List ℕ))). or_row o (blob_reply digest last (Headed head))) here)
  headed_own last before after e head r (Some p) here = inl (p, here)

  replies_own : (last : Request) (before after : ℕ) (e : Exchange) (reply : Reply) → Replies last (cut_reading s size digest next) before e after reply → ((p : Row (List ℕ)) × Passes next reply p) ⊎ IsOwn last before e after reply
  replies_own last before after e (Headed head) r = headed_own last before after e head r (instead next head) refl
  replies_own last before after e (Answered answer) r = inr (record { request_is = r.request_is; faults_is = r.faults_is; count = r.count; reply_is = (r.reply_is.0, r.reply_is.1, ap limit_of (sym (read_own (head_part answer) r.reply_is.0 r.reply_is.2)) ∙ r.reply_is.2, r.reply_is.3); fails_as = tt }, refl)
  replies_own last before after e Failed r = inr (record { request_is = r.request_is; faults_is = r.faults_is; count = r.count; reply_is = r.reply_is; fails_as = λ answer is unread. r.fails_as answer is (unread_own (head_part answer) unread) }, refl)
  replies_own last before after e TooLong r = inr (record { request_is = r.request_is; faults_is = r.faults_is; count = r.count; reply_is = (r.reply_is.0, r.reply_is.1, r.reply_is.2, ap limit_of (sym (read_own (head_part r.reply_is.0) r.reply_is.1 r.reply_is.3)) ∙ r.reply_is.3, r.reply_is.4); fails_as = tt }, refl)
  replies_own last before after e SinkFailed r = inr (record { request_is = r.request_is; faults_is = r.faults_is; count = r.count; reply_is = (r.reply_is.0, r.reply_is.1, r.reply_is.2, sym (read_own (head_part r.reply_is.0) r.reply_is.1 (ap limit_of r.reply_is.3)) ∙ r.reply_is.3); fails_as = tt }, refl)

  heard_own : (request : Request) (m : ℕ) (c : List Exchange) (after : ℕ) (last : Request) (reply : Reply) → Heard 10 request (cut_reading s size digest next) m c after last reply → ((p : Row (List ℕ)) × Passes next reply p) ⊎ (Heard 10 request (own_reading s size digest) m c after last reply × (cut_reply digest next last reply ≡ blob_reply digest last reply))
  heard_own request m c after last reply h = by_kind (replies_own last h.before after h.exchange reply h.replies) where
    by_kind : ((p : Row (List ℕ)) × Passes next reply p) ⊎ IsOwn last h.before h.exchange after reply → ((p : Row (List ℕ)) × Passes next reply p) ⊎ (Heard 10 request (own_reading s size digest) m c after last reply × (cut_reply digest next last reply ≡ blob_reply digest last reply))
    by_kind (inl passes) = inl passes
    by_kind (inr own) = inr (record { redirects = h.redirects; exchange = h.exchange; split = h.split; left = h.left; before = h.before; trail = h.trail; replies = own.0; settles = h.settles }, own.1)

-- ---- laws of rows

-- what the last reply to a request leads to, if it is not skipped
abbrev pub Replied : (ℕ → List Exchange → ℕ → Result (List ℕ) OciDistributionError → Type 0) → Settings → ℕ → List ℕ → Request → Type 0
Replied Q s size digest request = (k l : AuthState) (m after o : ℕ) (c d : List Exchange) (last : Request) (reply : Reply) (r : Result (List ℕ) OciDistributionError) → Heard 10 request (own_reading s size digest) m c after last reply → Runs (blob_reply digest last reply) k after d o l r → Q m (c ++ d) o r

-- what holds for a run holds for it with exchanges before it
abbrev pub Later : (ℕ → List Exchange → ℕ → Result (List ℕ) OciDistributionError → Type 0) → Type 0
Later Q = (m start n : ℕ) (c d : List Exchange) (r : Result (List ℕ) OciDistributionError) → Q start d n r → Q m (c ++ d) n r

cut_law : (Q : ℕ → List Exchange → ℕ → Result (List ℕ) OciDistributionError → Type 0) (s : Settings) (size : ℕ) (digest : List ℕ) (next : Option (Row (List ℕ))) (request : Request) → Replied Q s size digest request → Later Q → ((p : Row (List ℕ)) → next ≡ Some p → EveryRun Q p) → EveryRun Q (cut s size digest next request)
unfolding cut
cut_law Q s size digest next request each later rest = EveryRun-follow Q 10 request (cut_reading s size digest next) (cut_reply digest next) by_reply where
  by_kind : (k l : AuthState) (m after o : ℕ) (c d : List Exchange) (last : Request) (reply : Reply) (r : Result (List ℕ) OciDistributionError) → Runs (cut_reply digest next last reply) k after d o l r → ((p : Row (List ℕ)) × Passes next reply p) ⊎ (Heard 10 request (own_reading s size digest) m c after last reply × (cut_reply digest next last reply ≡ blob_reply digest last reply)) → Q m (c ++ d) o r
  by_kind k l m after o c d last reply r run (inl passes) = later m after o c d r ((rest passes.0 (passes_next next reply passes.0 passes.1)).shows k l after o d r (passes_runs digest next last reply passes.0 k l after o d r passes.1 run))
  by_kind k l m after o c d last reply r run (inr own) = each k l m after o c d last reply r own.0 (rw own.1 at run)

  by_reply : (k l : AuthState) (m after o : ℕ) (c d : List Exchange) (last : Request) (reply : Reply) (r : Result (List ℕ) OciDistributionError) → Heard 10 request (cut_reading s size digest next) m c after last reply → Runs (cut_reply digest next last reply) k after d o l r → Q m (c ++ d) o r
  by_reply k l m after o c d last reply r h run = by_kind k l m after o c d last reply r run (heard_own s size digest next request m c after last reply h)

no_next : (Q : ℕ → List Exchange → ℕ → Result (List ℕ) OciDistributionError → Type 0) (p : Row (List ℕ)) → ◌≡◌ {A = Option (Row (List ℕ))} None (Some p) → EveryRun Q p
no_next Q p is = absurd (cc is)

one_next : (Q : ℕ → List Exchange → ℕ → Result (List ℕ) OciDistributionError → Type 0) (q p : Row (List ℕ)) → EveryRun Q q → ◌≡◌ {A = Option (Row (List ℕ))} (Some q) (Some p) → EveryRun Q p
one_next Q q p h is = let same : q ≡ p = cc is in rw same at h

-- for the request and each place
pub cut_at_law : (Q : ℕ → List Exchange → ℕ → Result (List ℕ) OciDistributionError → Type 0) (Good : Request → Type 0) (s : Settings) (size : ℕ) (digest : List ℕ) → ((request : Request) → Good request → Replied Q s size digest request) → Later Q
    → (places : List Place) → EachPlace (Gives Good s) places → EachPlace (Unasked Q s) places → (request : Request) → Good request → EveryRun Q (cut_at s size digest places request)
unfolding cut_at
cut_at_law Q Good s size digest each later [] made unasked request good = cut_law Q s size digest None request (each request good) later (no_next Q)
cut_at_law Q Good s size digest each later (p ∷ ps) made unasked request good = cut_law Q s size digest (Some (Done (asked_at s p) >>= (λ next. cut_at s size digest ps next))) request (each request good) later
    (λ q is. one_next Q (Done (asked_at s p) >>= (λ next. cut_at s size digest ps next)) q (EveryRun-step Q (asked_at s p) (λ next. cut_at s size digest ps next) (λ next is. cut_at_law Q Good s size digest each later ps made.1 unasked.1 next (made.0 next is)) (λ e is. unasked.0 e is)) is)
