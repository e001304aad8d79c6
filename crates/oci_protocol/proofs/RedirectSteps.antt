use Rattle.std.proofs.Common.{◌≡◌, ◌≤◌, ◌<◌, ◌+◌, inl, inr, ℕ, suc, zero, Bool, true, List, [], ◌∷◌, ◌++◌, Option, Some, None, Result, Err, length, length-append, replicate, refl, sym, ap, subst, ◌∙◌, arith}
use Rattle.std.proofs.lemmas.List.{length-replicate}
use Rattle.json_values.specs.Counts.{Increased}
use Rattle.oci_transport.specs.Link.{Link, Answering, Answers, Extends, AddsAtMost, Steady, BreaksOff, IsPast, EndsUnbroken, TakesPast, answer_of, exchange_of}
use Rattle.oci_transport.specs.Redirects.{redirected}
use Rattle.oci_transport.specs.declared.message.Request.{Request}
use Rattle.oci_transport.specs.declared.message.Answer.{Answer}
use Rattle.oci_transport.specs.declared.message.AnswerHead.{AnswerHead}
use Rattle.oci_transport.specs.declared.message.Exchange.{Exchange}
use Rattle.oci_protocol.specs.Proto.{Reading, Unread, Piped, limit_of, read_none, Reply, Headed, Answered, Failed, TooLong, SinkFailed, Proto}
use Rattle.oci_protocol.specs.Runs.{head_part, IsUnbroken, Replies, AddsExchange, Runs, RunsBy, RunPrefix, Performs, PerformsPrefix, Meets}
use Rattle.oci_protocol.specs.Follow.{unread_if, turned, turn, follow, reading_at, Trail, Follows, IsFinal, Reaches, Misses, Cuts}
use Rattle.oci_protocol.proofs.Conversations.{Extends-more, Extends-still, Extends-untold, Steady-more}
use Rattle.oci_protocol.proofs.Laws.{Meets-ask, Meets-cut, outcome_by}
use Rattle.oci_protocol.proofs.OneMoreExchange.{follows_count}

-- the reply of a redirect, as the followed request parses it
turned_replies : (request : Request) (reading : AnswerHead → Reading) (m : ℕ) (e : Exchange) (between : ℕ) (head : AnswerHead) (next : Request) → redirected request head ≡ Some next → Replies request read_none m e between (Headed head) → Replies request (turned request reading) m e between (Headed head)
unfolding turned
turned_replies request reading m e between head next to r = record {
  request_is = r.request_is;
  faults_is = r.faults_is;
  count = r.count;
  reply_is = (r.reply_is.0, r.reply_is.1, ap (λ (o : Option Request). unread_if o (reading head)) to);
  fails_as = tt;
}

-- a trail leads from one request to the last one
trail_runs : {K A : Type 0} (n : ℕ) (request : Request) (reading : AnswerHead → Reading) (next : Request → Reply → Proto K A) (m : ℕ) (c : List Exchange) (left : ℕ) (last : Request) (between : ℕ) (k : K) (d : List Exchange) (after : ℕ) (l : K) (a : A)
    → Trail n request m c left last between → Runs (follow left last reading next) k between d after l a → Runs (follow n request reading next) k m (c ++ d) after l a
unfolding Trail Runs follow
trail_runs n request reading next m [] left last between k d after l a t r = rw (t.0, t.1, t.2) r
trail_runs zero request reading next m (e ∷ c) left last between k d after l a t r = absurd t
trail_runs (suc n) request reading next m (e ∷ c) left last between k d after l a t r =
    (t.0, Headed t.1, turned_replies request reading m e t.0 t.1 t.2 t.3 t.4, rw t.3 (trail_runs n t.2 reading next t.0 c left last between k d after l a t.5 r))

-- the same for a transport that responds by t: no body of a redirect is read
trail_runs_by : {K A : Type 0} (t : Answering) (place : ℕ) (n : ℕ) (request : Request) (reading : AnswerHead → Reading) (next : Request → Reply → Proto K A) (m : ℕ) (c : List Exchange) (left : ℕ) (last : Request) (between : ℕ) (k : K) (d : List Exchange) (after : ℕ) (l : K) (a : A)
    → Trail n request m c left last between → RunsBy t (place + length c) (follow left last reading next) k between d after l a → RunsBy t place (follow n request reading next) k m (c ++ d) after l a
unfolding Trail RunsBy follow
trail_runs_by t place n request reading next m [] left last between k d after l a h r = rw (h.0, h.1, h.2) (subst (λ q. RunsBy t q (follow left last reading next) k between d after l a) (omega arith) r)
trail_runs_by t place zero request reading next m (e ∷ c) left last between k d after l a h r = absurd h
trail_runs_by t place (suc n) request reading next m (e ∷ c) left last between k d after l a h r =
    (h.0, Headed h.1, turned_replies request reading m e h.0 h.1 h.2 h.3 h.4, tt, rw h.3 (trail_runs_by t (suc place) n h.2 reading next h.0 c left last between k d after l a h.5 (subst (λ q. RunsBy t q (follow left last reading next) k between d after l a) (omega arith) r)))

trail_stops : {K A : Type 0} (n : ℕ) (request : Request) (reading : AnswerHead → Reading) (next : Request → Reply → Proto K A) (m : ℕ) (c : List Exchange) (left : ℕ) (last : Request) (between : ℕ) (k : K) (d : List Exchange) (l : K)
    → Trail n request m c left last between → RunPrefix (follow left last reading next) k between d l → RunPrefix (follow n request reading next) k m (c ++ d) l
unfolding Trail RunPrefix follow
trail_stops n request reading next m [] left last between k d l t s = rw (t.0, t.1, t.2) s
trail_stops zero request reading next m (e ∷ c) left last between k d l t s = absurd t
trail_stops (suc n) request reading next m (e ∷ c) left last between k d l t s =
    inr (t.0, Headed t.1, turned_replies request reading m e t.0 t.1 t.2 t.3 t.4, rw t.3 (trail_stops n t.2 reading next t.0 c left last between k d l t.5 s))

-- what a run does from the last request, it does from the first
pub follows_met : {K A E : Type 0} {of_memory : E → Bool} (n : ℕ) (request : Request) (reading : AnswerHead → Reading) (next : Request → Reply → Proto K (Result A E)) (left : ℕ) (last : Request) (old mid : Link) {new : Link} {k l : K} {r : Result A E}
    → Follows n request left last old mid → Meets of_memory (follow left last reading next) mid new k l r → Meets of_memory (follow n request reading next) old new k l r
follows_met {K} {A} {E} {of_memory} n request reading next left last old mid {new} {k} {l} {r} f met = record { outcome = outcome_by of_memory (follow left last reading next) (follow n request reading next) old mid new k k l performs breaks r met.outcome } where
  performs : (x : Result A E) → Performs (follow left last reading next) mid new k l x → Performs (follow n request reading next) old new k l x
  performs x h = record {
    conversation = f.conversation ++ h.conversation;
    told = Extends-more old mid new f.conversation h.conversation f.told h.told;
    runs = trail_runs n request reading next old.faults f.conversation left last mid.faults k h.conversation new.faults l x f.trail h.runs;
    runs_by = λ t before by told.
        let behind = h.runs_by t (before ++ f.conversation) (f.told.stays.steady t by) (f.told.told before told) in
        trail_runs_by t (length before) n request reading next old.faults f.conversation left last mid.faults k h.conversation new.faults l x f.trail (subst (λ q. RunsBy t q (follow left last reading next) k mid.faults h.conversation new.faults l x) (length-append before f.conversation) behind);
  }

  breaks : PerformsPrefix (follow left last reading next) mid new k l → PerformsPrefix (follow n request reading next) old new k l
  breaks h = record { conversation = f.conversation ++ h.conversation; told = Extends-more old mid new f.conversation h.conversation f.told h.told; stops = trail_stops n request reading next old.faults f.conversation left last mid.faults k h.conversation l f.trail h.stops; count = omega (arith, follows_count n request left last old mid f, h.count) }

-- the last response is parsed by the given reading
final_reading : (left : ℕ) (last : Request) (reading : AnswerHead → Reading) (head : AnswerHead) → IsFinal left last head → reading_at left last reading head ≡ reading head
unfolding reading_at turned
final_reading zero last reading head final = refl
final_reading (suc left) last reading head (inl none) = absurd (cc none)
final_reading (suc left) last reading head (inr none) = ap (λ (o : Option Request). unread_if o (reading head)) none

-- this reply is not a redirect that is followed
abbrev Stays : ℕ → Request → Reply → Type 0
Stays left last (Headed head) = IsFinal left last head
Stays left last reply = Unit {0}

follow_asked : {K A E : Type 0} {of_memory : E → Bool} (left : ℕ) (last : Request) (reading : AnswerHead → Reading) (next : Request → Reply → Proto K (Result A E)) (reply : Reply) {old mid new : Link} {k l : K} {r : Result A E}
    → Stays left last reply → AddsExchange last (reading_at left last reading) old mid reply → Meets of_memory (next last reply) mid new k l r → Meets of_memory (follow left last reading next) old new k l r
unfolding follow reading_at
follow_asked zero last reading next reply stays h rest = Meets-ask (next last) h rest
follow_asked {K} {A} {E} (suc left) last reading next (Headed head) (inl none) h rest = absurd (cc none)
follow_asked {K} {A} {E} (suc left) last reading next (Headed head) (inr none) h rest = Meets-ask (turn last (λ r. follow left r reading next) (next last)) h (rw none rest)
follow_asked (suc left) last reading next (Answered answer) stays h rest = Meets-ask (turn last (λ r. follow left r reading next) (next last)) h rest
follow_asked (suc left) last reading next Failed stays h rest = Meets-ask (turn last (λ r. follow left r reading next) (next last)) h rest
follow_asked (suc left) last reading next TooLong stays h rest = Meets-ask (turn last (λ r. follow left r reading next) (next last)) h rest
follow_asked (suc left) last reading next SinkFailed stays h rest = Meets-ask (turn last (λ r. follow left r reading next) (next last)) h rest

follow_cut : {K A E : Type 0} (of_memory : E → Bool) (left : ℕ) (last : Request) (reading : AnswerHead → Reading) (next : Request → Reply → Proto K (Result A E)) {old new : Link} (k : K) (e : E)
    → AddsAtMost last old new → old.faults ≤ new.faults → of_memory e ≡ true → Meets of_memory (follow left last reading next) old new k k (Err e)
unfolding follow
follow_cut of_memory zero last reading next k e cut le h = Meets-cut of_memory last reading (next last) k e cut le h
follow_cut of_memory (suc left) last reading next k e cut le h = Meets-cut of_memory last (turned last reading) (turn last (λ r. follow left r reading next) (next last)) k e cut le h

-- the body was not read
pub reached_headed : {K A E : Type 0} {of_memory : E → Bool} (n : ℕ) (request : Request) (reading : AnswerHead → Reading) (next : Request → Reply → Proto K (Result A E)) (head : AnswerHead) (last : Request) {old new end : Link} {k l : K} {r : Result A E}
    → Reaches n request head last old new → reading head ≡ Unread → Meets of_memory (next last (Headed head)) new end k l r → Meets of_memory (follow n request reading next) old end k l r
reached_headed n request reading next head last {old} {new} reach unread rest = follows_met n request reading next reach.left last old reach.mid reach.follows
    (follow_asked reach.left last reading next (Headed head) reach.final (record {
      exchange = record { request = last; answer = Some (answer_of head reach.sent.body); faults = reach.mid.faults };
      told = reach.sent.added;
      replies = record { request_is = refl; faults_is = refl; count = reach.count; reply_is = (reach.sent.body, refl, final_reading reach.left last reading head reach.final ∙ unread); fails_as = tt };
      unbroken = λ t before by told. tt;
    }) rest)

limit_at : (left : ℕ) (last : Request) (reading : AnswerHead → Reading) (head : AnswerHead) (limit : ℕ) → IsFinal left last head → limit_of (reading head) ≡ Some limit → limit_of (reading_at left last reading head) ≡ Some limit
limit_at left last reading head limit final is = ap limit_of (final_reading left last reading head final) ∙ is

-- where the body of the response is truncated
breaks_at : (head : AnswerHead) (last : Request) (old mid : Link) (sent : Answers last head old mid) (t : Answering) (before : List Exchange) (bytes : ℕ) → old.answers ≡ Some t → old.told ≡ Some before → t.breaks (length before) ≡ Some bytes
    → BreaksOff (exchange_of last (Some (answer_of head sent.body)) old) (answer_of head sent.body) bytes mid
breaks_at head last old mid sent t before bytes by shown breaks = record { table = t; before = before; answers = sent.added.stays.steady t by; told = sent.added.told before shown; answered = sym (sent.added.table t before by shown).0; breaks = breaks }

-- the rest of the body is exposed
hidden : {rest : Option (List ℕ)} {body : List ℕ} → rest ≡ Some body → rest ≡ None → ⊥
hidden some none = cc (some, none)

-- the whole body was read
pub reached_answered : {K A E : Type 0} {of_memory : E → Bool} (n : ℕ) (request : Request) (reading : AnswerHead → Reading) (next : Request → Reply → Proto K (Result A E)) (head : AnswerHead) (last : Request) (limit : ℕ) (body : List ℕ) {old mid new end : Link} {k l : K} {r : Result A E}
    → Reaches n request head last old mid → limit_of (reading head) ≡ Some limit → mid.faults ≤ new.faults → new.told ≡ mid.told → Steady mid new → length body ≤ limit → ((rest : List ℕ) → mid.rest ≡ Some rest → body ≡ rest) → EndsUnbroken mid new
    → Meets of_memory (next last (Answered (answer_of head body))) new end k l r → Meets of_memory (follow n request reading next) old end k l r
reached_answered n request reading next head last limit body {old} {mid} {new} reach is le same steady small whole unbroken rest = follows_met n request reading next reach.left last old reach.mid reach.follows
    (follow_asked reach.left last reading next (Answered (answer_of head body)) tt (by_told reach.mid.told refl) rest) where
      hears : Extends reach.mid new (record { request = last; answer = Some (answer_of head body); faults = reach.mid.faults } ∷ []) → AddsExchange last (reading_at reach.left last reading) reach.mid new (Answered (answer_of head body))
      hears told = record {
        exchange = record { request = last; answer = Some (answer_of head body); faults = reach.mid.faults };
        told = told;
        replies = record { request_is = refl; faults_is = refl; count = omega (arith, reach.count); reply_is = (limit, refl, limit_at reach.left last reading head limit reach.final is, small); fails_as = tt };
        unbroken = λ t before by shown bytes breaks. hidden (reach.sent.rest before shown) (unbroken _ _ bytes (breaks_at head last reach.mid mid reach.sent t before bytes by shown breaks)).1;
      }

      by_told : (t : Option (List Exchange)) → reach.mid.told ≡ t → AddsExchange last (reading_at reach.left last reading) reach.mid new (Answered (answer_of head body))
      by_told None none = hears (Extends-untold reach.mid new _ none (Steady-more reach.mid mid new reach.sent.added.stays steady))
      by_told (Some before) h = hears (rw (whole reach.sent.body (reach.sent.rest before h)) (Extends-still reach.mid mid new _ reach.sent.added same steady))

-- a head has one limit
one_limit : (read : AnswerHead → Reading) (head : AnswerHead) (body : List ℕ) (answer : Answer) (other limit : ℕ) → Some (answer_of head body) ≡ Some answer → limit_of (read (head_part answer)) ≡ Some other → limit_of (read head) ≡ Some limit → other ≡ limit
one_limit read head body answer other limit is_answer is_other is_limit =
    let same : answer_of head body ≡ answer = cc is_answer in
    let found : limit_of (read head) ≡ Some other = ap (λ a. limit_of (read (head_part a))) same ∙ is_other in
    let some : Some limit ≡ Some other = sym is_limit ∙ found in
    cc some

longer : (body : List ℕ) (limit : ℕ) (new : Link) → IsPast body limit new → limit < length body
longer body limit new past = omega (arith, past.2)

-- the body was longer than the limit
pub reached_long : {K A E : Type 0} {of_memory : E → Bool} (n : ℕ) (request : Request) (reading : AnswerHead → Reading) (next : Request → Reply → Proto K (Result A E)) (head : AnswerHead) (last : Request) (limit : ℕ) {old mid new end : Link} {k l : K} {r : Result A E}
    → Reaches n request head last old mid → limit_of (reading head) ≡ Some limit → mid.faults ≤ new.faults → new.told ≡ mid.told → Steady mid new → TakesPast limit mid new
    → Meets of_memory (next last TooLong) new end k l r → Meets of_memory (follow n request reading next) old end k l r
reached_long n request reading next head last limit {old} {mid} {new} reach is le same steady long rest = follows_met n request reading next reach.left last old reach.mid reach.follows
    (follow_asked reach.left last reading next TooLong tt (by_told reach.mid.told refl) rest) where
      read : AnswerHead → Reading
      read = reading_at reach.left last reading

      -- the last exchange, as far as it is exposed
      sent : Exchange
      sent = exchange_of last (Some (answer_of head reach.sent.body)) reach.mid

      passed : (t : Answering) (before : List Exchange) → reach.mid.answers ≡ Some t → reach.mid.told ≡ Some before → IsUnbroken t (length before) read sent TooLong
      passed t before by shown answer other bytes is_answer is_limit breaks small =
          let same : other ≡ limit = one_limit read head reach.sent.body answer other limit is_answer is_limit (limit_at reach.left last reading head limit reach.final is) in
          let past = long.past reach.sent.body (reach.sent.rest before shown) in
          long.unbroken _ _ bytes (breaks_at head last reach.mid mid reach.sent t before bytes by shown breaks) (past.0, past.1, omega (arith, small, same, past.2))

      hears : (body : List ℕ) → limit < length body → Extends reach.mid new (exchange_of last (Some (answer_of head body)) reach.mid ∷ []) → ((t : Answering) (before : List Exchange) → reach.mid.answers ≡ Some t → reach.mid.told ≡ Some before → IsUnbroken t (length before) read (exchange_of last (Some (answer_of head body)) reach.mid) TooLong) → AddsExchange last read reach.mid new TooLong
      hears body h told unbroken = record {
        exchange = record { request = last; answer = Some (answer_of head body); faults = reach.mid.faults };
        told = told;
        replies = record { request_is = refl; faults_is = refl; count = omega (arith, reach.count); reply_is = (answer_of head body, limit, refl, limit_at reach.left last reading head limit reach.final is, h); fails_as = tt };
        unbroken = unbroken;
      }

      by_told : (t : Option (List Exchange)) → reach.mid.told ≡ t → AddsExchange last (reading_at reach.left last reading) reach.mid new TooLong
      by_told None none = hears (replicate (limit + 1) 0) (omega (arith, length-replicate {A = ℕ} (limit + 1) 0)) (Extends-untold reach.mid new _ none (Steady-more reach.mid mid new reach.sent.added.stays steady)) (λ t before by shown. absurd (cc (none, shown)))
      by_told (Some before) h = hears reach.sent.body (longer reach.sent.body limit new (long.past reach.sent.body (reach.sent.rest before h))) (Extends-still reach.mid mid new _ reach.sent.added same steady) passed

-- a body that is read
read_failed : (left : ℕ) (last : Request) (reading : AnswerHead → Reading) (head : AnswerHead) (limit : ℕ) (body : List ℕ) (answer : Answer) → IsFinal left last head → limit_of (reading head) ≡ Some limit → Some (answer_of head body) ≡ Some answer → reading_at left last reading (head_part answer) ≡ Unread → ⊥
read_failed left last reading head limit body answer final reads is unread =
    let same : answer_of head body ≡ answer = cc is in
    let found : reading_at left last reading head ≡ Unread = ap (λ a. reading_at left last reading (head_part a)) same ∙ unread in
    let none : Some limit ≡ None = sym (limit_at left last reading head limit final reads) ∙ ap limit_of found in
    cc none

-- a fault occurred while the body was read
pub reached_failed : {K A E : Type 0} {of_memory : E → Bool} (n : ℕ) (request : Request) (reading : AnswerHead → Reading) (next : Request → Reply → Proto K (Result A E)) (head : AnswerHead) (last : Request) (limit : ℕ) {old mid new end : Link} {k l : K} {r : Result A E}
    → Reaches n request head last old mid → limit_of (reading head) ≡ Some limit → mid.faults ≤ new.faults → new.told ≡ mid.told → Steady mid new → Increased mid.faults new.faults
    → Meets of_memory (next last Failed) new end k l r → Meets of_memory (follow n request reading next) old end k l r
reached_failed n request reading next head last limit {old} {mid} {new} reach reads le same steady rose rest = follows_met n request reading next reach.left last old reach.mid reach.follows
    (follow_asked reach.left last reading next Failed tt (record {
      exchange = record { request = last; answer = Some (answer_of head reach.sent.body); faults = reach.mid.faults };
      told = Extends-still reach.mid mid new _ reach.sent.added same steady;
      replies = record { request_is = refl; faults_is = refl; count = omega (arith, reach.count); reply_is = omega (arith, reach.count); fails_as = λ answer is unread. read_failed reach.left last reading head limit reach.sent.body answer reach.final reads is unread };
      unbroken = λ t before by told. tt;
    }) rest)

-- the sink failed while the body was read
pub reached_spilled : {K A E : Type 0} {of_memory : E → Bool} (n : ℕ) (request : Request) (reading : AnswerHead → Reading) (next : Request → Reply → Proto K (Result A E)) (head : AnswerHead) (last : Request) (limit : ℕ) {old mid new end : Link} {k l : K} {r : Result A E}
    → Reaches n request head last old mid → reading head ≡ Piped limit → mid.faults ≤ new.faults → new.told ≡ mid.told → Steady mid new
    → Meets of_memory (next last SinkFailed) new end k l r → Meets of_memory (follow n request reading next) old end k l r
reached_spilled n request reading next head last limit {old} {mid} {new} reach is le same steady rest = follows_met n request reading next reach.left last old reach.mid reach.follows
    (follow_asked reach.left last reading next SinkFailed tt (record {
      exchange = record { request = last; answer = Some (answer_of head reach.sent.body); faults = reach.mid.faults };
      told = Extends-still reach.mid mid new _ reach.sent.added same steady;
      replies = record { request_is = refl; faults_is = refl; count = omega (arith, reach.count); reply_is = (answer_of head reach.sent.body, limit, refl, final_reading reach.left last reading head reach.final ∙ is); fails_as = tt };
      unbroken = λ t before by told. tt;
    }) rest)

-- memory ran out while the body was read, or before
pub reached_cut : {K A E : Type 0} (of_memory : E → Bool) (n : ℕ) (request : Request) (reading : AnswerHead → Reading) (next : Request → Reply → Proto K (Result A E)) (head : AnswerHead) (last : Request) {old mid new : Link} (k : K) (e : E)
    → Reaches n request head last old mid → mid.faults ≤ new.faults → new.told ≡ mid.told → Steady mid new → of_memory e ≡ true → Meets of_memory (follow n request reading next) old new k k (Err e)
reached_cut of_memory n request reading next head last {old} {mid} {new} k e reach le same steady is = follows_met n request reading next reach.left last old reach.mid reach.follows
    (follow_cut of_memory reach.left last reading next k e (record { conversation = _; added = Extends-still reach.mid mid new _ reach.sent.added same steady; most = (refl, refl) }) (omega (arith, reach.count)) is)

-- no response arrived
pub missed : {K A E : Type 0} {of_memory : E → Bool} (n : ℕ) (request : Request) (reading : AnswerHead → Reading) (next : Request → Reply → Proto K (Result A E)) {old new end : Link} {k l : K} {r : Result A E}
    → Misses n request old new → ((last : Request) → Meets of_memory (next last Failed) new end k l r) → Meets of_memory (follow n request reading next) old end k l r
missed n request reading next {old} {new} m rest = follows_met n request reading next m.left m.last old m.mid m.follows
    (follow_asked m.left m.last reading next Failed tt (record {
      exchange = record { request = m.last; answer = None; faults = m.mid.faults };
      told = m.added;
      replies = record { request_is = refl; faults_is = refl; count = m.count; reply_is = m.rose; fails_as = λ answer is unread. absurd (cc is) };
      unbroken = λ t before by told. tt;
    }) (rest m.last))

-- memory ran out
pub cut : {K A E : Type 0} (of_memory : E → Bool) (n : ℕ) (request : Request) (reading : AnswerHead → Reading) (next : Request → Reply → Proto K (Result A E)) {old new : Link} (k : K) (e : E)
    → Cuts n request old new → of_memory e ≡ true → Meets of_memory (follow n request reading next) old new k k (Err e)
cut of_memory n request reading next {old} {new} k e c is = follows_met n request reading next c.left c.last old c.mid c.follows (follow_cut of_memory c.left c.last reading next k e c.cut c.count is)
