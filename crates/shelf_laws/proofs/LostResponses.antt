-- The client states that a protocol passes through over a table, also if responses are lost or memory runs out.
use Rattle.std.specs.Prelude.{MatchBool}
use Rattle.std.proofs.Common.{◌≡◌, ◌⊎◌, inl, inr, Bool, true, false, ℕ, suc, zero, List, [], ◌∷◌, Option, Some, None, Result, Ok, Err, length, refl, sym, ap, subst, ◌∙◌}
use Rattle.oci_transport.specs.Link.{Link, Answering, AnsweredBy}
use Rattle.oci_transport.specs.Redirects.{redirected}
use Rattle.oci_transport.specs.declared.message.Request.{Request}
use Rattle.oci_transport.specs.declared.message.Answer.{Answer}
use Rattle.oci_transport.specs.declared.message.AnswerHead.{AnswerHead}
use Rattle.oci_transport.specs.declared.message.Exchange.{Exchange}
use Rattle.oci_protocol.specs.Proto.{Reading, Unread, Reply, Headed, Answered, Failed, TooLong, SinkFailed, Proto, Done, Ask, Recall, Keep, Consult, bind, unless_refused, ◌>>=◌}
use Rattle.oci_protocol.specs.Lift.{lifted}
use Rattle.oci_protocol.specs.Runs.{head_part, IsReply, Runs, RunPrefix, Performs, PerformsPrefix, Outcome, Meets}
use Rattle.oci_protocol.specs.Follow.{unread_if, turned, go_if, turn, follow}
use Rattle.oci_protocol.specs.Evaluation.{reply_of}
use Rattle.shelf_laws.specs.EvaluatesWith.{IsHeld, EvaluatesWith, Preserves}
use Rattle.shelf_laws.proofs.TableSteps.{EvaluatesWith-bind, read_short, read_long, TableOf}

-- With the table's responses, of which any may be lost, I holds for each client state that the protocol passes through,
-- and Q for its result. No body is written to a sink, and there is no external input.
unfoldable pub Passes : {K A : Type 0} → (Request → Answer) → (K → Type 0) → (K → A → Type 0) → Proto K A → K → Type 0
Passes table I Q (Done a) k = I k × Q k a
Passes table I Q (Ask request reading next) k =
    I k × IsHeld (reading (head_part (table request)))
    × Passes table I Q (next (reply_of (reading (head_part (table request))) (table request))) k × Passes table I Q (next Failed) k
Passes table I Q (Recall next) k = Passes table I Q (next k) k
Passes table I Q (Keep kept rest) k = I k × Passes table I Q rest kept
Passes table I Q (Consult next) k = ⊥

-- ---- runs

-- the reply is that of the response, or it was lost
either_reply : (reading : AnswerHead → Reading) (e : Exchange) (answer : Answer) (after : ℕ) (reply : Reply) → e.answer ≡ Some answer → IsHeld (reading (head_part answer)) → IsReply reading e after reply → (reply ≡ reply_of (reading (head_part answer)) answer) ⊎ (reply ≡ Failed)
either_reply reading e answer after (Headed head) by held h = let same : answer ≡ record { status = head.status; headers = head.headers; body = h.0 } = cc (sym by ∙ h.1) in inl (rw same (rw h.2 refl))
either_reply reading e answer after (Answered own) by held h = let same : answer ≡ own = cc (sym by ∙ h.1) in inl (rw same (sym (read_short (reading (head_part own)) h.0 own h.2 h.3)))
either_reply reading e answer after Failed by held h = inr refl
either_reply reading e answer after TooLong by held h = let same : answer ≡ h.0 = cc (sym by ∙ h.2) in inl (rw same (sym (read_long (reading (head_part h.0)) h.1 h.0 h.3 h.4)))
either_reply reading e answer after SinkFailed by held h = let same : answer ≡ h.0 = cc (sym by ∙ h.2) in absurd (subst IsHeld h.3 (subst (λ (x : Answer). IsHeld (reading (head_part x))) same held))

passes_on : {K A : Type 0} (table : Request → Answer) (I : K → Type 0) (Q : K → A → Type 0) (request : Request) (reading : AnswerHead → Reading) (next : Reply → Proto K A) (k : K) (reply : Reply)
    → Passes table I Q (Ask request reading next) k → (reply ≡ reply_of (reading (head_part (table request))) (table request)) ⊎ (reply ≡ Failed) → Passes table I Q (next reply) k
unfolding Passes
passes_on table I Q request reading next k reply h (inl is) = subst (λ x. Passes table I Q (next x) k) (sym is) h.2
passes_on table I Q request reading next k reply h (inr is) = subst (λ x. Passes table I Q (next x) k) (sym is) h.3

held_here : {K A : Type 0} (table : Request → Answer) (I : K → Type 0) (Q : K → A → Type 0) (request : Request) (reading : AnswerHead → Reading) (next : Reply → Proto K A) (k : K) → Passes table I Q (Ask request reading next) k → IsHeld (reading (head_part (table request)))
unfolding Passes
held_here table I Q request reading next k h = h.1

-- a complete run over the table
pub Runs-passes : {K A : Type 0} (table : Request → Answer) (t : Answering) (I : K → Type 0) (Q : K → A → Type 0) (p : Proto K A) (k l : K) (place m n : ℕ) (c : List Exchange) (a : A) → TableOf table t → Passes table I Q p k → AnsweredBy t place c → Runs p k m c n l a → I l × Q l a
unfolding Passes Runs
Runs-passes table t I Q (Done x) k l place m n [] a by h answered r = subst (λ y. I l × Q l y) r.2 (subst (λ j. I j × Q j x) r.1 h)
Runs-passes table t I Q (Done x) k l place m n (e ∷ c) a by h answered r = absurd r
Runs-passes table t I Q (Ask request reading next) k l place m n [] a by h answered r = absurd r
Runs-passes table t I Q (Ask request reading next) k l place m n (e ∷ c) a by h answered r =
    let reply = either_reply reading e (table request) r.0 r.1 (answered.0 ∙ by.answer place e.request ∙ ap (λ x. Some (table x)) r.2.request_is) h.1 r.2.reply_is in
    Runs-passes table t I Q (next r.1) k l (suc place) r.0 n c a by (passes_on table I Q request reading next k r.1 h reply) answered.1 r.3
Runs-passes table t I Q (Recall next) k l place m n c a by h answered r = Runs-passes table t I Q (next k) k l place m n c a by h answered r
Runs-passes table t I Q (Keep kept rest) k l place m n c a by h answered r = Runs-passes table t I Q rest kept l place m n c a by h.1 answered r
Runs-passes table t I Q (Consult next) k l place m n c a by h answered r = absurd h

-- a run that was cut off
Prefix-passes : {K A : Type 0} (table : Request → Answer) (t : Answering) (I : K → Type 0) (Q : K → A → Type 0) (p : Proto K A) (k l : K) (place m : ℕ) (c : List Exchange) → TableOf table t → Passes table I Q p k → AnsweredBy t place c → RunPrefix p k m c l → I l
unfolding Passes RunPrefix
Prefix-passes table t I Q (Done x) k l place m [] by h answered s = subst I s h.0
Prefix-passes table t I Q (Done x) k l place m (e ∷ c) by h answered s = absurd s
Prefix-passes table t I Q (Ask request reading next) k l place m [] by h answered s = subst I s h.0
Prefix-passes table t I Q (Ask request reading next) k l place m (e ∷ c) by h answered (inl s) = subst I s.3 h.0
Prefix-passes table t I Q (Ask request reading next) k l place m (e ∷ c) by h answered (inr s) =
    let reply = either_reply reading e (table request) s.0 s.1 (answered.0 ∙ by.answer place e.request ∙ ap (λ x. Some (table x)) s.2.request_is) h.1 s.2.reply_is in
    Prefix-passes table t I Q (next s.1) k l (suc place) s.0 c by (passes_on table I Q request reading next k s.1 h reply) answered.1 s.3
Prefix-passes table t I Q (Recall next) k l place m c by h answered s = Prefix-passes table t I Q (next k) k l place m c by h answered s
Prefix-passes table t I Q (Keep kept rest) k l place m c by h answered (inl s) = subst I s.1 h.0
Prefix-passes table t I Q (Keep kept rest) k l place m c by h answered (inr s) = Prefix-passes table t I Q rest kept l place m c by h.1 answered s
Prefix-passes table t I Q (Consult next) k l place m c by h answered s = absurd h

-- the client state after a call, also if memory ran out
pub Meets-passes : {K A E : Type 0} {of_memory : E → Bool} (table : Request → Answer) (t : Answering) (I : K → Type 0) (Q : K → Result A E → Type 0) (p : Proto K (Result A E)) (before : List Exchange) (old new : Link) (k l : K) (r : Result A E)
    → TableOf table t → old.answers ≡ Some t → old.told ≡ Some before → Passes table I Q p k → Meets of_memory p old new k l r → I l
Meets-passes {K} {A} {E} {of_memory} table t I Q p before old new k l r by answers told passes met = by_result r met.outcome where
  performed : (r : Result A E) → Performs p old new k l r → I l
  performed r run = (Runs-passes table t I Q p k l (length before) old.faults new.faults run.conversation r by passes (run.told.table t before answers told) run.runs).0

  by_memory : (b : Bool) (e : E) → MatchBool b (PerformsPrefix p old new k l) (Performs p old new k l (Err e)) → I l
  by_memory true e run = Prefix-passes table t I Q p k l (length before) old.faults run.conversation by passes (run.told.table t before answers told) run.stops
  by_memory false e run = performed (Err e) run

  by_result : (r : Result A E) → Outcome of_memory p old new k l r → I l
  by_result (Ok b) run = performed (Ok b) run
  by_result (Err e) run = by_memory (of_memory e) e run

-- ---- parts

pub Passes-more : {K A : Type 0} (table : Request → Answer) (I : K → Type 0) (P Q : K → A → Type 0) (p : Proto K A) (k : K) → Passes table I P p k → ((l : K) (a : A) → P l a → Q l a) → Passes table I Q p k
unfolding Passes
Passes-more table I P Q (Done a) k h more = (h.0, more k a h.1)
Passes-more table I P Q (Ask request reading next) k h more = (h.0, h.1, Passes-more table I P Q (next (reply_of (reading (head_part (table request))) (table request))) k h.2 more, Passes-more table I P Q (next Failed) k h.3 more)
Passes-more table I P Q (Recall next) k h more = Passes-more table I P Q (next k) k h more
Passes-more table I P Q (Keep kept rest) k h more = (h.0, Passes-more table I P Q rest kept h.1 more)
Passes-more table I P Q (Consult next) k h more = absurd h

pub Passes-bind : {K A B : Type 0} (table : Request → Answer) (I : K → Type 0) (P : K → A → Type 0) (Q : K → B → Type 0) (p : Proto K A) (f : A → Proto K B) (k : K) → Passes table I P p k → ((l : K) (a : A) → I l → P l a → Passes table I Q (f a) l) → Passes table I Q (bind p f) k
unfolding Passes bind
Passes-bind table I P Q (Done a) f k h next = next k a h.0 h.1
Passes-bind table I P Q (Ask request reading rest) f k h next = (h.0, h.1, Passes-bind table I P Q (rest (reply_of (reading (head_part (table request))) (table request))) f k h.2 next, Passes-bind table I P Q (rest Failed) f k h.3 next)
Passes-bind table I P Q (Recall rest) f k h next = Passes-bind table I P Q (rest k) f k h next
Passes-bind table I P Q (Keep kept rest) f k h next = (h.0, Passes-bind table I P Q rest f kept h.1 next)
Passes-bind table I P Q (Consult rest) f k h next = absurd h

-- over a larger client state, whose other part is unchanged
pub Passes-lifted : {K C A : Type 0} (table : Request → Answer) (J : K → Type 0) (R : C → Type 0) (Q : K → A → Type 0) (p : Proto K A) (k : K) (x : C) → R x → Passes table J Q p k → Passes table (λ (l : K × C). J l.0 × R l.1) (λ (l : K × C) a. Q l.0 a × (l.1 ≡ x)) (lifted p) (k, x)
unfolding Passes lifted
Passes-lifted table J R Q (Done a) k x is h = ((h.0, is), (h.1, refl))
Passes-lifted table J R Q (Ask request reading next) k x is h = ((h.0, is), h.1, Passes-lifted table J R Q (next (reply_of (reading (head_part (table request))) (table request))) k x is h.2, Passes-lifted table J R Q (next Failed) k x is h.3)
Passes-lifted table J R Q (Recall next) k x is h = Passes-lifted table J R Q (next k) k x is h
Passes-lifted table J R Q (Keep kept rest) k x is h = ((h.0, is), Passes-lifted table J R Q rest kept x is h.1)
Passes-lifted table J R Q (Consult next) k x is h = absurd h

-- ---- calls after which I holds

-- I holds for each client state that the protocol passes through, if it held before
pub record Stays {K A : Type 0} (I : K → Type 0) (table : Request → Answer) (p : Proto K A) : Type 0 where
  pub stays : (k : K) → I k → Passes table I (λ l a. Unit {0}) p k

module _ {K : Type 0} {I : K → Type 0} {table : Request → Answer} where
  pub Stays-done : {A : Type 0} (a : A) → Stays I table (Done a)
  unfolding Passes
  Stays-done a = record { stays = λ k is. (is, tt) }

  pub Stays-bind : {A B : Type 0} {p : Proto K A} (f : A → Proto K B) → Stays I table p → ((a : A) → Stays I table (f a)) → Stays I table (bind p f)
  Stays-bind {A} {B} {p} f h next = record { stays = λ k is. Passes-bind table I (λ l a. Unit {0}) (λ l b. Unit {0}) p f k (h.stays k is) (λ l a here u. (next a).stays l here) }

  pub Stays-next : {A B E : Type 0} {p : Proto K (Result A E)} (f : A → Proto K (Result B E)) → Stays I table p → ((a : A) → Stays I table (f a)) → Stays I table (p >>= f)
  Stays-next {A} {B} {E} {p} f h next = Stays-bind (unless_refused f) h by_result where
    by_result : (r : Result A E) → Stays I table (unless_refused f r)
    by_result (Ok a) = next a
    by_result (Err e) = Stays-done (Err e)

-- if nothing is lost, I holds afterwards
evaluates : {K A : Type 0} (table : Request → Answer) (I : K → Type 0) (Q : K → A → Type 0) (p : Proto K A) (k : K) → Passes table I Q p k → EvaluatesWith table (λ l a. I l) p k
unfolding Passes EvaluatesWith
evaluates table I Q (Done a) k h = h.0
evaluates table I Q (Ask request reading next) k h = (h.1, evaluates table I Q (next (reply_of (reading (head_part (table request))) (table request))) k h.2)
evaluates table I Q (Recall next) k h = evaluates table I Q (next k) k h
evaluates table I Q (Keep kept rest) k h = evaluates table I Q rest kept h.1
evaluates table I Q (Consult next) k h = absurd h

pub stays_preserves : {K A : Type 0} {I : K → Type 0} {table : Request → Answer} {p : Proto K A} → Stays I table p → Preserves I table p
stays_preserves {K} {A} {I} {table} {p} h = record { stays = λ k is. evaluates table I (λ l a. Unit {0}) p k (h.stays k is) }

-- ---- calls whose `Ok` is the table's

-- the protocol has this result, and this client state after it, if nothing is lost
abbrev pub Comes : {K A : Type 0} → (Request → Answer) → Proto K A → K → K → A → Type 0
Comes table p k l a = EvaluatesWith table (λ j b. (j ≡ l) × (b ≡ a)) p k

-- an error of this kind
abbrev pub IsLost : {A E : Type 0} → (E → Type 0) → Result A E → Type 0
IsLost L (Ok a) = ⊥
IsLost L (Err e) = L e

-- I holds for each client state, and the result is the one if nothing is lost, or an error of this kind
pub record Resilient {K A E : Type 0} (I : K → Type 0) (table : Request → Answer) (L : E → Type 0) (p : Proto K (Result A E)) : Type 0 where
  pub passes : (k : K) → I k → Passes table I (λ l r. Comes table p k l r ⊎ IsLost L r) p k

-- what follows a lost response is such an error
pub record EndsLost {K A E : Type 0} (L : E → Type 0) (p : Proto K (Result A E)) : Type 0 where
  pub error : E
  pub is : p ≡ Done (Err error)
  pub kind : L error

pub comes_bind : {K A B : Type 0} (table : Request → Answer) (p : Proto K A) (f : A → Proto K B) (k l j : K) (a : A) (b : B) → Comes table p k l a → Comes table (f a) l j b → Comes table (bind p f) k j b
comes_bind {K} {A} {B} table p f k l j a b first second = EvaluatesWith-bind table (λ i x. (i ≡ l) × (x ≡ a)) (λ i y. (i ≡ j) × (y ≡ b)) p f k first
    (λ i x is. subst (λ (z : A). EvaluatesWith table (λ i y. (i ≡ j) × (y ≡ b)) (f z) i) (sym is.1) (subst (λ (z : K). EvaluatesWith table (λ i y. (i ≡ j) × (y ≡ b)) (f a) z) (sym is.0) second))

lost_ends : {K A E : Type 0} (table : Request → Answer) (I : K → Type 0) (L : E → Type 0) (P : K → Result A E → Type 0) (p : Proto K (Result A E)) (k : K) → I k → EndsLost L p → Passes table I (λ l r. P l r ⊎ IsLost L r) p k
unfolding Passes
lost_ends {K} {A} {E} table I L P p k here ends = subst (λ (q : Proto K (Result A E)). Passes table I (λ l r. P l r ⊎ IsLost L r) q k) (sym ends.is) (here, inr ends.kind)

or_more : {P Q L : Type 0} → (P → Q) → P ⊎ L → Q ⊎ L
or_more more (inl h) = inl (more h)
or_more more (inr h) = inr h

module _ {K : Type 0} {I : K → Type 0} {table : Request → Answer} where
  pub resilient_done : {A E : Type 0} {L : E → Type 0} (r : Result A E) → Resilient I table L (Done r)
  unfolding Passes EvaluatesWith
  resilient_done r = record { passes = λ k is. (is, inl (refl, refl)) }

  pub resilient_bind : {A B E F : Type 0} {L : E → Type 0} {M : F → Type 0} {p : Proto K (Result A E)} (f : Result A E → Proto K (Result B F)) → Resilient I table L p → ((r : Result A E) → Resilient I table M (f r)) → ((e : E) → L e → EndsLost M (f (Err e))) → Resilient I table M (bind p f)
  resilient_bind {A} {B} {E} {F} {L} {M} {p} f h next lost = record { passes = λ k is. Passes-bind table I (λ l r. Comes table p k l r ⊎ IsLost L r) (λ l r. Comes table (bind p f) k l r ⊎ IsLost M r) p f k (h.passes k is) (λ l r here found. by_found k l r here found) } where
    by_lost : (k l : K) (r : Result A E) → I l → IsLost L r → Passes table I (λ j b. Comes table (bind p f) k j b ⊎ IsLost M b) (f r) l
    by_lost k l (Ok a) here wrong = absurd wrong
    by_lost k l (Err e) here is = lost_ends table I M (λ j b. Comes table (bind p f) k j b) (f (Err e)) l here (lost e is)

    by_found : (k l : K) (r : Result A E) → I l → Comes table p k l r ⊎ IsLost L r → Passes table I (λ j b. Comes table (bind p f) k j b ⊎ IsLost M b) (f r) l
    by_found k l r here (inl comes) = Passes-more table I (λ j b. Comes table (f r) l j b ⊎ IsLost M b) (λ j b. Comes table (bind p f) k j b ⊎ IsLost M b) (f r) l ((next r).passes l here) (λ j b. or_more (comes_bind table p f k l j r b comes))
    by_found k l r here (inr is) = by_lost k l r here is

  pub resilient_next : {A B E : Type 0} {L : E → Type 0} {p : Proto K (Result A E)} (f : A → Proto K (Result B E)) → Resilient I table L p → ((a : A) → Resilient I table L (f a)) → Resilient I table L (p >>= f)
  resilient_next {A} {B} {E} {L} {p} f h next = resilient_bind (unless_refused f) h by_result (λ e is. record { error = e; is = refl; kind = is }) where
    by_result : (r : Result A E) → Resilient I table L (unless_refused f r)
    by_result (Ok a) = next a
    by_result (Err e) = resilient_done (Err e)

  pub resilient_ask : {A E : Type 0} {L : E → Type 0} (request : Request) (reading : AnswerHead → Reading) (next : Reply → Proto K (Result A E)) → IsHeld (reading (head_part (table request))) → Resilient I table L (next (reply_of (reading (head_part (table request))) (table request))) → EndsLost L (next Failed) → Resilient I table L (Ask request reading next)
  unfolding Passes EvaluatesWith
  resilient_ask {A} {E} {L} request reading next held h lost = record {
    passes = λ k is. let reply = reply_of (reading (head_part (table request))) (table request) in (
      is,
      held,
      Passes-more table I (λ l r. Comes table (next reply) k l r ⊎ IsLost L r) (λ l r. Comes table (Ask request reading next) k l r ⊎ IsLost L r) (next reply) k (h.passes k is) (λ l r. or_more (λ comes. (held, comes))),
      lost_ends table I L (λ l r. Comes table (Ask request reading next) k l r) (next Failed) k is lost,
    );
  }

pub resilient_follow : {K A E : Type 0} (I : K → Type 0) (table : Request → Answer) (L : E → Type 0) (n : ℕ) (request : Request) (reading : AnswerHead → Reading) (next : Request → Reply → Proto K (Result A E))
    → ((head : AnswerHead) → IsHeld (reading head)) → ((last : Request) (reply : Reply) → Resilient I table L (next last reply)) → ((last : Request) → EndsLost L (next last Failed)) → Resilient I table L (follow n request reading next)
unfolding follow turned
resilient_follow I table L zero request reading next held h lost = resilient_ask request reading (next request) (held (head_part (table request))) (h request (reply_of (reading (head_part (table request))) (table request))) (lost request)
resilient_follow {K} {A} {E} I table L (suc n) request reading next held h lost =
    resilient_ask request (turned request reading) (turn request (λ r. follow n r reading next) (next request)) (held_if (redirected request (head_part (table request))))
    (turned_on (λ r. resilient_follow I table L n r reading next held h lost) (reply_of (turned request reading (head_part (table request))) (table request))) (lost request)
  where
    held_if : (o : Option Request) → IsHeld (unread_if o (reading (head_part (table request))))
    held_if (Some r) = tt
    held_if None = held (head_part (table request))

    gone : ((r : Request) → Resilient I table L (follow n r reading next)) → (o : Option Request) (reply : Reply) → Resilient I table L (go_if o (λ r. follow n r reading next) (next request reply))
    gone go (Some r) reply = go r
    gone go None reply = h request reply

    turned_on : ((r : Request) → Resilient I table L (follow n r reading next)) → (reply : Reply) → Resilient I table L (turn request (λ r. follow n r reading next) (next request) reply)
    turned_on go (Headed head) = gone go (redirected request head) (Headed head)
    turned_on go (Answered answer) = h request (Answered answer)
    turned_on go Failed = h request Failed
    turned_on go TooLong = h request TooLong
    turned_on go SinkFailed = h request SinkFailed
