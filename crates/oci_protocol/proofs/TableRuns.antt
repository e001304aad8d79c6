-- A run without faults returns what the table determines.
use Rattle.std.specs.Prelude.{nat_lt}
use Rattle.std.proofs.Common.{◌≡◌, Bool, true, false, if◌then◌else◌, ◌≢◌, ◌<◌, ◌≤◌, ◌+◌, ◌^◌, ◌-◌, ℕ, suc, zero, List, [], ◌∷◌, Option, Some, None, Result, Ok, length, refl, sym, ap, subst, ◌∙◌, arith}
use Rattle.std.proofs.lemmas.Bool.{le-ltb, lt-ltb}
use Rattle.oci_transport.specs.Link.{Answering, AnsweredBy}
use Rattle.oci_transport.specs.Redirects.{redirected}
use Rattle.oci_transport.specs.declared.message.Request.{Request}
use Rattle.oci_transport.specs.declared.message.Answer.{Answer}
use Rattle.oci_transport.specs.declared.message.AnswerHead.{AnswerHead}
use Rattle.oci_transport.specs.declared.message.Exchange.{Exchange}
use Rattle.oci_protocol.specs.Proto.{Reading, Unread, Within, Piped, limit_of, Reply, Headed, Answered, Failed, TooLong, SinkFailed, Proto, Done, Ask, Recall, Keep, Consult, bind, unless_refused, ◌>>=◌}
use Rattle.oci_protocol.specs.Runs.{head_part, IsReply, Runs}
use Rattle.oci_protocol.specs.Ends.{Ends}
use Rattle.oci_protocol.specs.Follow.{unread_if, turned, go_if, turn, follow}
use Rattle.oci_protocol.specs.Evaluation.{reply_of, reply_to, Evaluation, evaluation, Evaluates, EndsOnSinkFault}
use Rattle.oci_protocol.proofs.Ends.{Runs-ends}
use Rattle.oci_protocol.proofs.Laws.{Runs-count}

-- a body that was read within its limit, or was longer
read_short : (reading : Reading) (limit : ℕ) (answer : Answer) → limit_of reading ≡ Some limit → length answer.body ≤ limit → reply_of reading answer ≡ Answered answer
read_short Unread limit answer is le = absurd (cc is)
read_short (Within n) limit answer is le = let eq : n ≡ limit = cc is in rw (eq, le-ltb limit (length answer.body) le) refl
read_short (Piped n) limit answer is le = let eq : n ≡ limit = cc is in rw (eq, le-ltb limit (length answer.body) le) refl

read_long : (reading : Reading) (limit : ℕ) (answer : Answer) → limit_of reading ≡ Some limit → limit < length answer.body → reply_of reading answer ≡ TooLong
read_long Unread limit answer is lt = absurd (cc is)
read_long (Within n) limit answer is lt = let eq : n ≡ limit = cc is in rw (eq, lt-ltb limit (length answer.body) lt) refl
read_long (Piped n) limit answer is lt = let eq : n ≡ limit = cc is in rw (eq, lt-ltb limit (length answer.body) lt) refl

-- without a fault of the transport or the sink, the reply is that of the response
one_reply : (reading : AnswerHead → Reading) (e : Exchange) (after : ℕ) (reply : Reply) → after ≤ e.faults → e.faults < 2 ^ 64 - 1 → reply ≢ SinkFailed → IsReply reading e after reply → reply ≡ reply_to reading e.answer
one_reply reading e after (Headed head) le lt other h = rw (h.1, h.2) refl
one_reply reading e after (Answered answer) le lt other h = rw h.1 (sym (read_short (reading (head_part answer)) h.0 answer h.2 h.3))
one_reply reading e after Failed le lt other h = absurd (omega (arith, h))
one_reply reading e after TooLong le lt other h = rw h.2 (sym (read_long (reading (head_part h.0)) h.1 h.0 h.3 h.4))
one_reply reading e after SinkFailed le lt other h = absurd (other refl)

-- a run without faults whose result is not that of a failing sink
pub Runs-evaluation : {K A : Type 0} (x : A) (t : Answering) (p : Proto K A) (place : ℕ) (k l : K) (m n : ℕ) (c : List Exchange) (a : A) → EndsOnSinkFault x p → a ≢ x → AnsweredBy t place c → n ≤ m → m < 2 ^ 64 - 1 → Runs p k m c n l a → evaluation t p place k ≡ record { place = place + length c; kept = l; answer = a }
unfolding EndsOnSinkFault Runs evaluation
Runs-evaluation x t (Done y) place k l m n [] a spilt other h le lt r = let here : place ≡ place + 0 = omega arith in λ i. record { place = here i; kept = r.1 i; answer = r.2 i }
Runs-evaluation x t (Done y) place k l m n (e ∷ c) a spilt other h le lt r = absurd r
Runs-evaluation x t (Ask request reading next) place k l m n [] a spilt other h le lt r = absurd r
Runs-evaluation x t (Ask request reading next) place k l m n (e ∷ c) a spilt other h le lt r =
    let count : r.0 ≤ n = Runs-count (next r.1) k l r.0 n c a r.3 in
    let first : m ≤ r.0 = r.2.count in
    let same : e.faults ≡ m = r.2.faults_is in
    let sink : r.1 ≢ SinkFailed = λ is. other (Runs-ends (λ b. b ≡ x) (next r.1) k l r.0 n c a (subst (λ (reply : Reply). Ends (λ b. b ≡ x) (next reply)) (sym is) spilt.0) r.3) in
    let reply : r.1 ≡ reply_to reading (t.answer place request) =
    one_reply reading e r.0 r.1 (omega arith) (omega arith) sink r.2.reply_is ∙ ap (reply_to reading) (h.0 ∙ ap (t.answer place) r.2.request_is) in
    let here : suc place + length c ≡ place + length (e ∷ c) = omega arith in
    ap (λ reply. evaluation t (next reply) (suc place) k) (sym reply) ∙ Runs-evaluation x t (next r.1) (suc place) k l r.0 n c a (spilt.1 r.1) other h.1 (omega arith) (omega arith) r.3 ∙ (λ i. record { place = here i; kept = l; answer = a })
Runs-evaluation x t (Recall next) place k l m n c a spilt other h le lt r = Runs-evaluation x t (next k) place k l m n c a (spilt k) other h le lt r
Runs-evaluation x t (Keep kept rest) place k l m n c a spilt other h le lt r = Runs-evaluation x t rest place kept l m n c a spilt other h le lt r
Runs-evaluation x t (Consult next) place k l m n c a spilt other h le lt r = absurd spilt

-- one part, and then what its result leads to
pub evaluation-bind : {K A B : Type 0} (t : Answering) (p : Proto K A) (f : A → Proto K B) (place : ℕ) (k : K) → evaluation t (bind p f) place k ≡ evaluation t (f (evaluation t p place k).answer) (evaluation t p place k).place (evaluation t p place k).kept
unfolding evaluation bind
evaluation-bind t (Done a) f place k = refl
evaluation-bind t (Ask request reading next) f place k = evaluation-bind t (next (reply_to reading (t.answer place request))) f (suc place) k
evaluation-bind t (Recall next) f place k = evaluation-bind t (next k) f place k
evaluation-bind t (Keep kept rest) f place k = evaluation-bind t rest f place kept
evaluation-bind t (Consult next) f place k = evaluation-bind t (next None) f place k

pub Evaluates-done : {K A E : Type 0} {t : Answering} {place : ℕ} {k : K} {a : A} → Evaluates {E = E} t (Done (Ok a)) place place k k a
unfolding evaluation
Evaluates-done = record { drives = refl }

pub Evaluates-next : {K A B E : Type 0} {t : Answering} {p : Proto K (Result A E)} (f : A → Proto K (Result B E)) {place mid after : ℕ} {k l j : K} {a : A} {b : B} → Evaluates t p place mid k l a → Evaluates t (f a) mid after l j b → Evaluates t (p >>= f) place after k j b
Evaluates-next {t = t} {p = p} f {place = place} {k = k} first second = record { drives = evaluation-bind t p (unless_refused f) place k ∙ (rw first.drives second.drives) }

-- a part whose error is inspected, if there is none
pub Evaluates-caught : {K A B E F : Type 0} {t : Answering} {p : Proto K (Result A E)} (f : Result A E → Proto K (Result B F)) {place mid after : ℕ} {k l j : K} {a : A} {b : B} → Evaluates t p place mid k l a → Evaluates t (f (Ok a)) mid after l j b → Evaluates t (bind p f) place after k j b
Evaluates-caught {t = t} {p = p} f {place = place} {k = k} first second = record { drives = evaluation-bind t p f place k ∙ (rw first.drives second.drives) }

pub Evaluates-recall : {K A E : Type 0} {t : Answering} (next : K → Proto K (Result A E)) {place after : ℕ} {k l : K} {a : A} → Evaluates t (next k) place after k l a → Evaluates t (Recall next) place after k l a
unfolding evaluation
Evaluates-recall next h = record { drives = h.drives }

pub Evaluates-keep : {K A E : Type 0} {t : Answering} (kept : K) (rest : Proto K (Result A E)) {place after : ℕ} {k l : K} {a : A} → Evaluates t rest place after kept l a → Evaluates t (Keep kept rest) place after k l a
unfolding evaluation
Evaluates-keep kept rest h = record { drives = h.drives }

-- the response is not a redirect, or no further redirect is followed
abbrev pub Stands : ℕ → Request → Answer → Type 0
Stands zero request answer = Unit {0}
Stands (suc n) request answer = redirected request (head_part answer) ≡ None

turn_stands : {K A : Type 0} (request : Request) (go : Request → Proto K A) (next : Reply → Proto K A) (answer : Answer) (reading : Reading) → redirected request (head_part answer) ≡ None → turn request go next (reply_of reading answer) ≡ next (reply_of reading answer)
turn_stands {K} {A} request go next answer reading none = by_reading reading where
  by_length : (b : Bool) → turn request go next (if b then TooLong else Answered answer) ≡ next (if b then TooLong else Answered answer)
  by_length true = refl
  by_length false = refl

  by_reading : (r : Reading) → turn request go next (reply_of r answer) ≡ next (reply_of r answer)
  by_reading Unread = ap (λ (o : Option Request). go_if o go (next (Headed (head_part answer)))) none
  by_reading (Within limit) = by_length (nat_lt limit (length answer.body))
  by_reading (Piped limit) = by_length (nat_lt limit (length answer.body))

-- a request whose response is not a redirect that is followed
pub Evaluates-follow : {K A E : Type 0} {t : Answering} (n : ℕ) (request : Request) (reading : AnswerHead → Reading) (next : Request → Reply → Proto K (Result A E)) (answer : Answer) {place after : ℕ} {k l : K} {a : A}
    → t.answer place request ≡ Some answer → Stands n request answer → Evaluates t (next request (reply_of (reading (head_part answer)) answer)) (suc place) after k l a → Evaluates t (follow n request reading next) place after k l a
unfolding evaluation follow turned
Evaluates-follow {t = t} zero request reading next answer {place = place} {k = k} is stands h = record { drives = ap (λ o. evaluation t (next request (reply_to reading o)) (suc place) k) is ∙ h.drives }
Evaluates-follow {t = t} (suc n) request reading next answer {place = place} {k = k} is none h = record {
  drives = ap (λ o. evaluation t (turn request (λ r. follow n r reading next) (next request) (reply_to (turned request reading) o)) (suc place) k) is
      ∙ ap (λ (o : Option Request). evaluation t (turn request (λ r. follow n r reading next) (next request) (reply_of (unread_if o (reading (head_part answer))) answer)) (suc place) k) none
      ∙ ap (λ p. evaluation t p (suc place) k) (turn_stands request (λ r. follow n r reading next) (next request) answer (reading (head_part answer)) none) ∙ h.drives;
}

-- a request whose response redirects to another
pub Evaluates-redirected : {K A E : Type 0} {t : Answering} (n : ℕ) (request : Request) (reading : AnswerHead → Reading) (next : Request → Reply → Proto K (Result A E)) (answer : Answer) (to : Request) {place after : ℕ} {k l : K} {a : A}
    → t.answer place request ≡ Some answer → redirected request (head_part answer) ≡ Some to → Evaluates t (follow n to reading next) (suc place) after k l a → Evaluates t (follow (suc n) request reading next) place after k l a
unfolding evaluation follow turned
Evaluates-redirected {t = t} n request reading next answer to {place = place} {k = k} is leads h = record {
  drives = ap (λ o. evaluation t (turn request (λ r. follow n r reading next) (next request) (reply_to (turned request reading) o)) (suc place) k) is
      ∙ ap (λ (o : Option Request). evaluation t (turn request (λ r. follow n r reading next) (next request) (reply_of (unread_if o (reading (head_part answer))) answer)) (suc place) k) leads
      ∙ ap (λ (o : Option Request). evaluation t (go_if o (λ r. follow n r reading next) (next request (Headed (head_part answer)))) (suc place) k) leads ∙ h.drives;
}
