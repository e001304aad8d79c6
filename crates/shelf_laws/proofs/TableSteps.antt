-- Steps of a protocol over a table, and the result of a call over such a transport.
use Rattle.std.specs.Prelude.{nat_lt, MatchBool}
use Rattle.std.proofs.Common.{◌≡◌, Bool, true, false, if◌then◌else◌, ◌<◌, ◌≤◌, ◌^◌, ◌-◌, ℕ, suc, zero, List, [], ◌∷◌, Option, Some, None, Result, Ok, Err, length, refl, sym, ap, subst, ◌∙◌, arith}
use Rattle.std.proofs.lemmas.Bool.{le-ltb, lt-ltb}
use Rattle.oci_transport.specs.Link.{Link, Answering, AnsweredBy, NeverFails}
use Rattle.oci_transport.specs.Redirects.{redirected}
use Rattle.oci_transport.specs.declared.message.Request.{Request}
use Rattle.oci_transport.specs.declared.message.Answer.{Answer}
use Rattle.oci_transport.specs.declared.message.AnswerHead.{AnswerHead}
use Rattle.oci_transport.specs.declared.message.Exchange.{Exchange}
use Rattle.oci_protocol.specs.Proto.{Reading, Unread, Within, Piped, limit_of, Reply, Headed, Answered, Failed, TooLong, SinkFailed, Proto, Done, Ask, Recall, Keep, Consult, bind, unless_refused, ◌>>=◌}
use Rattle.oci_protocol.specs.Runs.{head_part, IsReply, Runs, Performs, PerformsPrefix, Outcome, Meets}
use Rattle.oci_protocol.specs.Ends.{UnlessMemory}
use Rattle.oci_protocol.specs.Follow.{unread_if, turned, go_if, turn, follow}
use Rattle.oci_protocol.specs.Evaluation.{reply_of}
use Rattle.oci_protocol.proofs.Laws.{Runs-count}
use Rattle.shelf_laws.specs.EvaluatesWith.{IsHeld, EvaluatesWith, Yields, OrMemory, AlwaysOk, Preserves, Reaches}

-- ---- steps

pub EvaluatesWith-more : {K A : Type 0} (table : Request → Answer) (P Q : K → A → Type 0) (p : Proto K A) (k : K) → EvaluatesWith table P p k → ((l : K) (a : A) → P l a → Q l a) → EvaluatesWith table Q p k
unfolding EvaluatesWith
EvaluatesWith-more table P Q (Done a) k h more = more k a h
EvaluatesWith-more table P Q (Ask request reading next) k h more = (h.0, EvaluatesWith-more table P Q (next (reply_of (reading (head_part (table request))) (table request))) k h.1 more)
EvaluatesWith-more table P Q (Recall next) k h more = EvaluatesWith-more table P Q (next k) k h more
EvaluatesWith-more table P Q (Keep kept rest) k h more = EvaluatesWith-more table P Q rest kept h more
EvaluatesWith-more table P Q (Consult next) k h more = absurd h

pub EvaluatesWith-bind : {K A B : Type 0} (table : Request → Answer) (P : K → A → Type 0) (Q : K → B → Type 0) (p : Proto K A) (f : A → Proto K B) (k : K) → EvaluatesWith table P p k → ((l : K) (a : A) → P l a → EvaluatesWith table Q (f a) l) → EvaluatesWith table Q (bind p f) k
unfolding EvaluatesWith bind
EvaluatesWith-bind table P Q (Done a) f k h next = next k a h
EvaluatesWith-bind table P Q (Ask request reading rest) f k h next = (h.0, EvaluatesWith-bind table P Q (rest (reply_of (reading (head_part (table request))) (table request))) f k h.1 next)
EvaluatesWith-bind table P Q (Recall rest) f k h next = EvaluatesWith-bind table P Q (rest k) f k h next
EvaluatesWith-bind table P Q (Keep kept rest) f k h next = EvaluatesWith-bind table P Q rest f kept h next
EvaluatesWith-bind table P Q (Consult rest) f k h next = absurd h

module _ {K : Type 0} {I : K → Type 0} {table : Request → Answer} where
  pub AlwaysOk-done : {A E : Type 0} {P : A → Type 0} (r : Result A E) → Yields P r → AlwaysOk I table P (Done r)
  unfolding EvaluatesWith
  AlwaysOk-done r h = record { gives = λ k is. (is, h) }

  pub AlwaysOk-more : {A E : Type 0} {P : A → Type 0} (Q : A → Type 0) {p : Proto K (Result A E)} → AlwaysOk I table P p → ((a : A) → P a → Q a) → AlwaysOk I table Q p
  AlwaysOk-more {A} {E} {P} Q {p} h more = record { gives = λ k is. EvaluatesWith-more table (λ l r. I l × Yields P r) (λ l r. I l × Yields Q r) p k (h.gives k is) (λ l r found. (found.0, by_result r found.1)) } where
    by_result : (r : Result A E) → Yields P r → Yields Q r
    by_result (Ok a) is = more a is
    by_result (Err e) is = is

  -- a part, and then what its result leads to
  pub AlwaysOk-next : {A B E : Type 0} {P : A → Type 0} {Q : B → Type 0} {p : Proto K (Result A E)} (f : A → Proto K (Result B E)) → AlwaysOk I table P p → ((a : A) → P a → AlwaysOk I table Q (f a)) → AlwaysOk I table Q (p >>= f)
  AlwaysOk-next {A} {B} {E} {P} {Q} {p} f h next = record { gives = λ k is. EvaluatesWith-bind table (λ l r. I l × Yields P r) (λ l r. I l × Yields Q r) p (unless_refused f) k (h.gives k is) (λ l r found. by_result l r found.0 found.1) } where
    by_result : (l : K) (r : Result A E) → I l → Yields P r → EvaluatesWith table (λ l r. I l × Yields Q r) (unless_refused f r) l
    by_result l (Ok a) is found = (next a found).gives l is
    by_result l (Err e) is found = absurd found

  -- a part whose error is inspected
  pub AlwaysOk-caught : {A B E F : Type 0} {P : A → Type 0} {Q : B → Type 0} {p : Proto K (Result A E)} (f : Result A E → Proto K (Result B F)) → AlwaysOk I table P p → ((a : A) → P a → AlwaysOk I table Q (f (Ok a))) → AlwaysOk I table Q (bind p f)
  AlwaysOk-caught {A} {B} {E} {F} {P} {Q} {p} f h next = record { gives = λ k is. EvaluatesWith-bind table (λ l r. I l × Yields P r) (λ l r. I l × Yields Q r) p f k (h.gives k is) (λ l r found. by_result l r found.0 found.1) } where
    by_result : (l : K) (r : Result A E) → I l → Yields P r → EvaluatesWith table (λ l r. I l × Yields Q r) (f r) l
    by_result l (Ok a) is found = (next a found).gives l is
    by_result l (Err e) is found = absurd found

-- ---- steps that may return out of memory

module _ {K : Type 0} {I : K → Type 0} {table : Request → Answer} where
  pub Reaches-done : {A : Type 0} {Q : A → Type 0} (a : A) → Q a → Reaches I table Q (Done a)
  unfolding EvaluatesWith
  Reaches-done a h = record { reaches = λ k is. (is, h) }

  pub Reaches-bind : {A B : Type 0} {P : A → Type 0} {Q : B → Type 0} {p : Proto K A} (f : A → Proto K B) → Reaches I table P p → ((a : A) → P a → Reaches I table Q (f a)) → Reaches I table Q (bind p f)
  Reaches-bind {A} {B} {P} {Q} {p} f h next = record { reaches = λ k is. EvaluatesWith-bind table (λ l a. I l × P a) (λ l b. I l × Q b) p f k (h.reaches k is) (λ l a found. (next a found.1).reaches l found.0) }

  pub Reaches-gives : {A E : Type 0} {P : A → Type 0} {p : Proto K (Result A E)} → AlwaysOk I table P p → Reaches I table (Yields P) p
  Reaches-gives h = record { reaches = h.gives }

  pub Reaches-strict : {A E : Type 0} (of_memory : E → Bool) {P : A → Type 0} {p : Proto K (Result A E)} → AlwaysOk I table P p → Reaches I table (OrMemory of_memory P) p
  Reaches-strict {A} {E} of_memory {P} {p} h = record { reaches = λ k is. EvaluatesWith-more table (λ l r. I l × Yields P r) (λ l r. I l × OrMemory of_memory P r) p k (h.gives k is) (λ l r found. (found.0, by_result r found.1)) } where
    by_result : (r : Result A E) → Yields P r → OrMemory of_memory P r
    by_result (Ok a) is = is
    by_result (Err e) is = absurd is

  pub Reaches-stays : {A : Type 0} {p : Proto K A} → Preserves I table p → Reaches I table (λ a. Unit {0}) p
  Reaches-stays {A} {p} h = record { reaches = λ k is. EvaluatesWith-more table (λ l a. I l) (λ l a. I l × Unit {0}) p k (h.stays k is) (λ l a stays. (stays, tt)) }

  -- a part that returns `Ok`, and then what its result leads to
  pub Reaches-after : {A B E : Type 0} {P : A → Type 0} {Q : Result B E → Type 0} {p : Proto K (Result A E)} (f : A → Proto K (Result B E)) → AlwaysOk I table P p → ((a : A) → P a → Reaches I table Q (f a)) → Reaches I table Q (p >>= f)
  Reaches-after {A} {B} {E} {P} {Q} {p} f h next = Reaches-bind (unless_refused f) (Reaches-gives h) by_result where
    by_result : (r : Result A E) → Yields P r → Reaches I table Q (unless_refused f r)
    by_result (Ok a) is = next a is
    by_result (Err e) is = absurd is

  -- a part where memory may run out, and then what its result leads to
  pub Reaches-next : {A B E : Type 0} {of_memory : E → Bool} {P : A → Type 0} {Q : B → Type 0} {p : Proto K (Result A E)} (f : A → Proto K (Result B E)) → Reaches I table (OrMemory of_memory P) p → ((a : A) → P a → Reaches I table (OrMemory of_memory Q) (f a)) → Reaches I table (OrMemory of_memory Q) (p >>= f)
  Reaches-next {A} {B} {E} {of_memory} {P} {Q} {p} f h next = Reaches-bind (unless_refused f) h by_result where
    by_result : (r : Result A E) → OrMemory of_memory P r → Reaches I table (OrMemory of_memory Q) (unless_refused f r)
    by_result (Ok a) is = next a is
    by_result (Err e) is = Reaches-done (Err e) is

-- ---- requests

-- the response is not a redirect, or no further redirect is followed
abbrev pub Stands : ℕ → Request → Answer → Type 0
Stands zero request answer = Unit {0}
Stands (suc n) request answer = redirected request (head_part answer) ≡ None

turn_stands : {K A : Type 0} (request : Request) (go : Request → Proto K A) (next : Reply → Proto K A) (answer : Answer) (reading : Reading) → redirected request (head_part answer) ≡ None → turn request go next (reply_of reading answer) ≡ next (reply_of reading answer)
turn_stands {K} {A} request go next answer reading none = by_reading reading where
  by_length : (b : Bool) → turn request go next (if b then TooLong else Answered answer) ≡ next (if b then TooLong else Answered answer)
  by_length true = refl
  by_length false = refl

  by_reading : (r : Reading) → turn request go next (reply_of r answer) ≡ next (reply_of r answer)
  by_reading Unread = ap (λ (o : Option Request). go_if o go (next (Headed (head_part answer)))) none
  by_reading (Within limit) = by_length (nat_lt limit (length answer.body))
  by_reading (Piped limit) = by_length (nat_lt limit (length answer.body))

-- a request whose response is not a redirect that is followed
pub EvaluatesWith-follow : {K A : Type 0} (table : Request → Answer) (Q : K → A → Type 0) (n : ℕ) (request : Request) (reading : AnswerHead → Reading) (next : Request → Reply → Proto K A) (answer : Answer) (k : K)
    → table request ≡ answer → Stands n request answer → IsHeld (reading (head_part answer)) → EvaluatesWith table Q (next request (reply_of (reading (head_part answer)) answer)) k → EvaluatesWith table Q (follow n request reading next) k
unfolding EvaluatesWith follow turned
EvaluatesWith-follow table Q zero request reading next answer k is stands held h = subst (λ (x : Answer). IsHeld (reading (head_part x)) × EvaluatesWith table Q (next request (reply_of (reading (head_part x)) x)) k) (sym is) (held, h)
EvaluatesWith-follow {K} {A} table Q (suc n) request reading next answer k is none held h =
    let asked : EvaluatesWith table Q (turn request (λ r. follow n r reading next) (next request) (reply_of (reading (head_part answer)) answer)) k = subst (λ (p : Proto K A). EvaluatesWith table Q p k) (sym (turn_stands request (λ r. follow n r reading next) (next request) answer (reading (head_part answer)) none)) h in
    let read : IsHeld (turned request reading (head_part answer)) × EvaluatesWith table Q (turn request (λ r. follow n r reading next) (next request) (reply_of (turned request reading (head_part answer)) answer)) k =
    subst (λ (o : Option Request). IsHeld (unread_if o (reading (head_part answer))) × EvaluatesWith table Q (turn request (λ r. follow n r reading next) (next request) (reply_of (unread_if o (reading (head_part answer))) answer)) k) (sym none) (held, asked) in
    subst (λ (x : Answer). IsHeld (turned request reading (head_part x)) × EvaluatesWith table Q (turn request (λ r. follow n r reading next) (next request) (reply_of (turned request reading (head_part x)) x)) k) (sym is) read

-- ---- runs

-- each exchange has the table's response
abbrev AllBy : (Request → Answer) → List Exchange → Type 0
AllBy table [] = Unit {0}
AllBy table (e ∷ c) = (e.answer ≡ Some (table e.request)) × AllBy table c

-- each response is the table's, and nothing fails
pub record TableOf (table : Request → Answer) (t : Answering) : Type 0 where
  pub answer : (place : ℕ) (request : Request) → t.answer place request ≡ Some (table request)
  pub never : NeverFails t

all_by : (table : Request → Answer) (t : Answering) (place : ℕ) (c : List Exchange) → TableOf table t → AnsweredBy t place c → AllBy table c
all_by table t place [] by h = tt
all_by table t place (e ∷ c) by h = (h.0 ∙ by.answer place e.request, all_by table t (suc place) c by h.1)

pub read_short : (reading : Reading) (limit : ℕ) (answer : Answer) → limit_of reading ≡ Some limit → length answer.body ≤ limit → reply_of reading answer ≡ Answered answer
read_short Unread limit answer is le = absurd (cc is)
read_short (Within n) limit answer is le = let eq : n ≡ limit = cc is in rw (eq, le-ltb limit (length answer.body) le) refl
read_short (Piped n) limit answer is le = let eq : n ≡ limit = cc is in rw (eq, le-ltb limit (length answer.body) le) refl

pub read_long : (reading : Reading) (limit : ℕ) (answer : Answer) → limit_of reading ≡ Some limit → limit < length answer.body → reply_of reading answer ≡ TooLong
read_long Unread limit answer is lt = absurd (cc is)
read_long (Within n) limit answer is lt = let eq : n ≡ limit = cc is in rw (eq, lt-ltb limit (length answer.body) lt) refl
read_long (Piped n) limit answer is lt = let eq : n ≡ limit = cc is in rw (eq, lt-ltb limit (length answer.body) lt) refl

-- without a fault the reply is that of the table's response
one_reply : (reading : AnswerHead → Reading) (e : Exchange) (answer : Answer) (after : ℕ) (reply : Reply) → e.answer ≡ Some answer → after ≤ e.faults → e.faults < 2 ^ 64 - 1 → IsHeld (reading (head_part answer)) → IsReply reading e after reply → reply ≡ reply_of (reading (head_part answer)) answer
one_reply reading e answer after (Headed head) by le lt held h = let same : answer ≡ record { status = head.status; headers = head.headers; body = h.0 } = cc (sym by ∙ h.1) in rw same (rw h.2 refl)
one_reply reading e answer after (Answered own) by le lt held h = let same : answer ≡ own = cc (sym by ∙ h.1) in rw same (sym (read_short (reading (head_part own)) h.0 own h.2 h.3))
one_reply reading e answer after Failed by le lt held h = absurd (omega (arith, h))
one_reply reading e answer after TooLong by le lt held h = let same : answer ≡ h.0 = cc (sym by ∙ h.2) in rw same (sym (read_long (reading (head_part h.0)) h.1 h.0 h.3 h.4))
one_reply reading e answer after SinkFailed by le lt held h = let same : answer ≡ h.0 = cc (sym by ∙ h.2) in absurd (subst IsHeld h.3 (subst (λ (x : Answer). IsHeld (reading (head_part x))) same held))

-- a run without faults over the table
Runs-comes : {K A : Type 0} (table : Request → Answer) (Q : K → A → Type 0) (p : Proto K A) (k l : K) (m n : ℕ) (c : List Exchange) (a : A) → EvaluatesWith table Q p k → AllBy table c → n ≤ m → m < 2 ^ 64 - 1 → Runs p k m c n l a → Q l a
unfolding EvaluatesWith Runs
Runs-comes table Q (Done x) k l m n [] a h by le lt r = subst (λ y. Q l y) r.2 (subst (λ j. Q j x) r.1 h)
Runs-comes table Q (Done x) k l m n (e ∷ c) a h by le lt r = absurd r
Runs-comes table Q (Ask request reading next) k l m n [] a h by le lt r = absurd r
Runs-comes table Q (Ask request reading next) k l m n (e ∷ c) a h by le lt r =
    let count : r.0 ≤ n = Runs-count (next r.1) k l r.0 n c a r.3 in
    let first : m ≤ r.0 = r.2.count in
    let same : e.faults ≡ m = r.2.faults_is in
    let reply : r.1 ≡ reply_of (reading (head_part (table request))) (table request) =
    one_reply reading e (table request) r.0 r.1 (by.0 ∙ ap (λ x. Some (table x)) r.2.request_is) (omega arith) (omega arith) h.0 r.2.reply_is in
    Runs-comes table Q (next r.1) k l r.0 n c a (subst (λ x. EvaluatesWith table Q (next x) k) (sym reply) h.1) by.1 (omega arith) (omega arith) r.3
Runs-comes table Q (Recall next) k l m n c a h by le lt r = Runs-comes table Q (next k) k l m n c a h by le lt r
Runs-comes table Q (Keep kept rest) k l m n c a h by le lt r = Runs-comes table Q rest kept l m n c a h by le lt r
Runs-comes table Q (Consult next) k l m n c a h by le lt r = absurd h

-- a complete run over a transport that responds by the table, without faults
pub Runs-over : {K A : Type 0} (table : Request → Answer) (Q : K → A → Type 0) (t : Answering) (p : Proto K A) (place : ℕ) (k l : K) (m n : ℕ) (c : List Exchange) (a : A) → TableOf table t → EvaluatesWith table Q p k → AnsweredBy t place c → n ≤ m → m < 2 ^ 64 - 1 → Runs p k m c n l a → Q l a
Runs-over table Q t p place k l m n c a by comes answered le lt run = Runs-comes table Q p k l m n c a comes (all_by table t place c by answered) le lt run

-- the result of a call over a transport that responds by the table, unless memory ran out
pub Meets-comes : {K A E : Type 0} {of_memory : E → Bool} (table : Request → Answer) (Q : K → Result A E → Type 0) (t : Answering) (p : Proto K (Result A E)) (before : List Exchange) (old new : Link) (k l : K) (r : Result A E)
    → TableOf table t → old.answers ≡ Some t → old.told ≡ Some before → old.faults < 2 ^ 64 - 1 → EvaluatesWith table Q p k → Meets of_memory p old new k l r → UnlessMemory of_memory (λ r. Q l r) r
Meets-comes {K} {A} {E} {of_memory} table Q t p before old new k l r by answers told lt comes met = by_result r met.outcome where
  performed : (r : Result A E) → Performs p old new k l r → Q l r
  performed r run =
      let quiet : new.faults ≡ old.faults = run.told.stays.quiet t answers by.never in
      Runs-comes table Q p k l old.faults new.faults run.conversation r comes (all_by table t (length before) run.conversation by (run.told.table t before answers told)) (omega (arith, quiet)) lt run.runs

  by_memory : (b : Bool) (e : E) → MatchBool b (PerformsPrefix p old new k l) (Performs p old new k l (Err e)) → MatchBool b (Unit {0}) (Q l (Err e))
  by_memory true e run = tt
  by_memory false e run = performed (Err e) run

  by_result : (r : Result A E) → Outcome of_memory p old new k l r → UnlessMemory of_memory (λ r. Q l r) r
  by_result (Ok b) run = performed (Ok b) run
  by_result (Err e) run = by_memory (of_memory e) e run
