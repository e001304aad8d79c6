-- Each run of a request that is followed is a trail of redirects and a run of what follows the last reply.
use Rattle.std.proofs.Common.{◌≡◌, inl, inr, ℕ, suc, zero, List, [], ◌∷◌, Option, Some, None, refl, sym, ap, ◌∙◌}
use Rattle.oci_transport.specs.Redirects.{redirected}
use Rattle.oci_transport.specs.declared.message.Request.{Request}
use Rattle.oci_transport.specs.declared.message.Answer.{Answer}
use Rattle.oci_transport.specs.declared.message.AnswerHead.{AnswerHead}
use Rattle.oci_transport.specs.declared.message.Exchange.{Exchange}
use Rattle.oci_protocol.specs.Proto.{Reading, Unread, Piped, limit_of, read_none, Reply, Headed, Answered, Failed, TooLong, SinkFailed, Proto}
use Rattle.oci_protocol.specs.Runs.{head_part, Replies, Runs}
use Rattle.oci_protocol.specs.Follow.{unread_if, turned, go_if, turn, follow, Trail, IsFinal}
use Rattle.oci_protocol.specs.Trails.{Settles, Trailed}

-- what is read is not a redirect
read_settled : (to : Option Request) (reading : Reading) (limit : ℕ) → limit_of (unread_if to reading) ≡ Some limit → (to ≡ None) × (limit_of reading ≡ Some limit)
read_settled None reading limit h = (refl, h)
read_settled (Some s) reading limit h = absurd (cc h)

pipe_settled : (to : Option Request) (reading : Reading) (limit : ℕ) → unread_if to reading ≡ Piped limit → reading ≡ Piped limit
pipe_settled None reading limit h = h
pipe_settled (Some s) reading limit h = absurd (cc h)

unread_settled : (to : Option Request) (reading : Reading) → reading ≡ Unread → unread_if to reading ≡ Unread
unread_settled None reading h = h
unread_settled (Some s) reading h = refl

-- the reply to the last request, as the row parses it
last_reply : (request : Request) (reading : AnswerHead → Reading) (n m : ℕ) (e : Exchange) (after : ℕ) (reply : Reply) → Settles (suc n) request reply → Replies request (turned request reading) m e after reply → Replies request reading m e after reply
unfolding turned
last_reply request reading n m e after (Headed head) (inl none) r = absurd (cc none)
last_reply request reading n m e after (Headed head) (inr none) r = record { request_is = r.request_is; faults_is = r.faults_is; count = r.count; reply_is = (r.reply_is.0, r.reply_is.1, ap (λ (o : Option Request). unread_if o (reading head)) (sym none) ∙ r.reply_is.2); fails_as = tt }
last_reply request reading n m e after (Answered answer) settles r = record { request_is = r.request_is; faults_is = r.faults_is; count = r.count; reply_is = (r.reply_is.0, r.reply_is.1, (read_settled (redirected request (head_part answer)) (reading (head_part answer)) r.reply_is.0 r.reply_is.2).1, r.reply_is.3); fails_as = tt }
last_reply request reading n m e after Failed settles r = record { request_is = r.request_is; faults_is = r.faults_is; count = r.count; reply_is = r.reply_is; fails_as = λ answer is unread. r.fails_as answer is (unread_settled (redirected request (head_part answer)) (reading (head_part answer)) unread) }
last_reply request reading n m e after TooLong settles r = record { request_is = r.request_is; faults_is = r.faults_is; count = r.count; reply_is = (r.reply_is.0, r.reply_is.1, r.reply_is.2, (read_settled (redirected request (head_part r.reply_is.0)) (reading (head_part r.reply_is.0)) r.reply_is.1 r.reply_is.3).1, r.reply_is.4); fails_as = tt }
last_reply request reading n m e after SinkFailed settles r = record { request_is = r.request_is; faults_is = r.faults_is; count = r.count; reply_is = (r.reply_is.0, r.reply_is.1, r.reply_is.2, pipe_settled (redirected request (head_part r.reply_is.0)) (reading (head_part r.reply_is.0)) r.reply_is.1 r.reply_is.3); fails_as = tt }

-- the first exchange is the last
trailed_last : {K A : Type 0} (n : ℕ) (request : Request) (reading : AnswerHead → Reading) (next : Request → Reply → Proto K A) (k : K) (m : ℕ) (e : Exchange) (c : List Exchange) (count : ℕ) (reply : Reply) (after : ℕ) (l : K) (a : A)
    → Settles n request reply → Replies request reading m e count reply → Runs (next request reply) k count c after l a → Trailed n request reading next k m (e ∷ c) after l a
unfolding Trail
trailed_last n request reading next k m e c count reply after l a settles replies runs = record {
  redirects = [];
  exchange = e;
  rest = c;
  split = refl;
  left = n;
  last = request;
  before = m;
  trail = (refl, refl, refl);
  count = count;
  reply = reply;
  replies = replies;
  settles = settles;
  runs = runs;
}

-- the first exchange is a redirect
trailed_more : {K A : Type 0} (n : ℕ) (request to : Request) (reading : AnswerHead → Reading) (next : Request → Reply → Proto K A) (k : K) (m : ℕ) (e : Exchange) (c : List Exchange) (count : ℕ) (head : AnswerHead) (after : ℕ) (l : K) (a : A)
    → redirected request head ≡ Some to → Replies request (turned request reading) m e count (Headed head) → Trailed n to reading next k count c after l a → Trailed (suc n) request reading next k m (e ∷ c) after l a
unfolding Trail read_none
trailed_more n request to reading next k m e c count head after l a leads r t = record {
  redirects = e ∷ t.redirects;
  exchange = t.exchange;
  rest = t.rest;
  split = ap (λ c. e ∷ c) t.split;
  left = t.left;
  last = t.last;
  before = t.before;
  trail = (count, head, to, leads, record { request_is = r.request_is; faults_is = r.faults_is; count = r.count; reply_is = (r.reply_is.0, r.reply_is.1, refl); fails_as = tt }, t.trail);
  count = t.count;
  reply = t.reply;
  replies = t.replies;
  settles = t.settles;
  runs = t.runs;
}

settles_zero : (request : Request) (reply : Reply) → Settles zero request reply
settles_zero request (Headed head) = inl refl
settles_zero request (Answered answer) = inl refl
settles_zero request Failed = tt
settles_zero request TooLong = tt
settles_zero request SinkFailed = tt

-- a response whose body was read is not a redirect
answered : (n : ℕ) (request : Request) (reading : AnswerHead → Reading) (m : ℕ) (e : Exchange) (after : ℕ) (answer : Answer) → Replies request (turned request reading) m e after (Answered answer) → IsFinal (suc n) request (head_part answer)
unfolding turned
answered n request reading m e after answer r = inr (read_settled (redirected request (head_part answer)) (reading (head_part answer)) r.reply_is.0 r.reply_is.2).0

-- each run of a request whose redirects are followed
pub Runs-trailed : {K A : Type 0} (n : ℕ) (request : Request) (reading : AnswerHead → Reading) (next : Request → Reply → Proto K A) (k : K) (m : ℕ) (c : List Exchange) (after : ℕ) (l : K) (a : A) → Runs (follow n request reading next) k m c after l a → Trailed n request reading next k m c after l a
unfolding Runs follow
Runs-trailed zero request reading next k m [] after l a r = absurd r
Runs-trailed zero request reading next k m (e ∷ c) after l a r = trailed_last zero request reading next k m e c r.0 r.1 after l a (settles_zero request r.1) r.2 r.3
Runs-trailed (suc n) request reading next k m [] after l a r = absurd r
Runs-trailed {K} {A} (suc n) request reading next k m (e ∷ c) after l a r = by_reply r.1 r.2 r.3 (λ s. Runs-trailed n s reading next k r.0 c after l a) where
  settled : (reply : Reply) → Settles (suc n) request reply → Replies request (turned request reading) m e r.0 reply → Runs (next request reply) k r.0 c after l a → Trailed (suc n) request reading next k m (e ∷ c) after l a
  settled reply settles replies runs = trailed_last (suc n) request reading next k m e c r.0 reply after l a settles (last_reply request reading n m e r.0 reply settles replies) runs

  by_head : (head : AnswerHead) (to : Option Request) → redirected request head ≡ to → Replies request (turned request reading) m e r.0 (Headed head) → Runs (go_if to (λ s. follow n s reading next) (next request (Headed head))) k r.0 c after l a → ((s : Request) → Runs (follow n s reading next) k r.0 c after l a → Trailed n s reading next k r.0 c after l a) → Trailed (suc n) request reading next k m (e ∷ c) after l a
  by_head head (Some s) is replies runs again = trailed_more n request s reading next k m e c r.0 head after l a is replies (again s runs)
  by_head head None is replies runs again = settled (Headed head) (inr is) replies runs

  by_reply : (reply : Reply) → Replies request (turned request reading) m e r.0 reply → Runs (turn request (λ s. follow n s reading next) (next request) reply) k r.0 c after l a → ((s : Request) → Runs (follow n s reading next) k r.0 c after l a → Trailed n s reading next k r.0 c after l a) → Trailed (suc n) request reading next k m (e ∷ c) after l a
  by_reply (Headed head) replies runs again = by_head head (redirected request head) refl replies runs again
  by_reply (Answered answer) replies runs again = settled (Answered answer) (answered n request reading m e r.0 answer replies) replies runs
  by_reply Failed replies runs again = settled Failed tt replies runs
  by_reply TooLong replies runs again = settled TooLong tt replies runs
  by_reply SinkFailed replies runs again = settled SinkFailed tt replies runs
