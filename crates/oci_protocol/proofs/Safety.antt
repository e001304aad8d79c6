use Rattle.std.proofs.Common.{◌≡◌, inl, inr, ℕ, suc, zero, Bool, true, false, List, [], ◌∷◌, ◌++◌, Option, Some, None, Result, Ok, Err, refl, append_assoc, append-nil}
use Rattle.std.specs.Prelude.{MatchBool}
use Rattle.oci_transport.specs.Link.{Link}
use Rattle.oci_transport.specs.Redirects.{redirected}
use Rattle.oci_transport.specs.declared.message.Request.{Request}
use Rattle.oci_transport.specs.declared.message.AnswerHead.{AnswerHead}
use Rattle.oci_transport.specs.declared.message.Exchange.{Exchange}
use Rattle.oci_protocol.specs.Proto.{Reading, Reply, Headed, Answered, Failed, TooLong, SinkFailed, Proto, Done, Ask, Recall, Keep, Consult, bind, unless_refused, ◌>>=◌}
use Rattle.oci_protocol.specs.Runs.{Replies, Runs, RunPrefix, Performs, PerformsPrefix, Outcome, Meets, Told}
use Rattle.oci_protocol.specs.Follow.{go_if, turn, turned, follow}
use Rattle.oci_protocol.specs.Safe.{Safe, EachAfter}

-- `bind`: a safe protocol, and then what its results make safe
pub Safe-bind : {K A B : Type 0} (P : K → List Exchange → Request → Type 0) (I : K → List Exchange → Type 0) (R : K → List Exchange → A → Type 0) (Q : K → List Exchange → B → Type 0) (p : Proto K A) (f : A → Proto K B) (k : K) (seen : List Exchange)
    → Safe P I R k seen p → ((l : K) (c : List Exchange) (a : A) → R l c a → Safe P I Q l c (f a)) → Safe P I Q k seen (bind p f)
unfolding Safe bind
Safe-bind P I R Q (Done a) f k seen h each = each k seen a h
Safe-bind P I R Q (Ask request reading next) f k seen h each = (h.0, λ e before after reply r. Safe-bind P I R Q (next reply) f k (seen ++ e ∷ []) (h.1 e before after reply r) each)
Safe-bind P I R Q (Recall next) f k seen h each = Safe-bind P I R Q (next k) f k seen h each
Safe-bind P I R Q (Keep kept rest) f k seen h each = (h.0, Safe-bind P I R Q rest f kept seen h.1 each)
Safe-bind P I R Q (Consult next) f k seen h each = λ said. Safe-bind P I R Q (next said) f k seen (h said) each

-- what holds after a step, or after its error
abbrev pub Either : {K A E : Type 0} → (K → List Exchange → A → Type 0) → (K → List Exchange → Type 0) → K → List Exchange → Result A E → Type 0
Either R I k c (Ok a) = R k c a
Either R I k c (Err e) = I k c

unless_safe : {K A B E : Type 0} (P : K → List Exchange → Request → Type 0) (I : K → List Exchange → Type 0) (R : K → List Exchange → A → Type 0) (Q : K → List Exchange → B → Type 0) (f : A → Proto K (Result B E))
    → ((l : K) (c : List Exchange) (a : A) → R l c a → Safe P I (Either Q I) l c (f a)) → (l : K) (c : List Exchange) (r : Result A E) → Either R I l c r → Safe P I (Either Q I) l c (unless_refused f r)
unfolding Safe
unless_safe P I R Q f each l c (Ok a) h = each l c a h
unless_safe P I R Q f each l c (Err e) h = h

pub Safe-next : {K A B E : Type 0} (P : K → List Exchange → Request → Type 0) (I : K → List Exchange → Type 0) (R : K → List Exchange → A → Type 0) (Q : K → List Exchange → B → Type 0) (p : Proto K (Result A E)) (f : A → Proto K (Result B E)) (k : K) (seen : List Exchange)
    → Safe P I (Either R I) k seen p → ((l : K) (c : List Exchange) (a : A) → R l c a → Safe P I (Either Q I) l c (f a)) → Safe P I (Either Q I) k seen (p >>= f)
Safe-next P I R Q p f k seen h each = Safe-bind P I (Either R I) (Either Q I) p (unless_refused f) k seen h (unless_safe P I R Q f each)

abbrev pub Moves : {K : Type 0} → (K → List Exchange → Request → Type 0) → K → Type 0
Moves P k = (c : List Exchange) (e : Exchange) (r s : Request) (head : AnswerHead) → redirected r head ≡ Some s → P k c r → P k (c ++ e ∷ []) s

-- a request with S may be sent, and what follows each of its replies is safe
abbrev pub EndsWell : {K A : Type 0} → (K → List Exchange → Request → Type 0) → (K → List Exchange → Request → Type 0) → (K → List Exchange → Type 0) → (K → List Exchange → A → Type 0) → (Request → Reply → Proto K A) → K → Type 0
EndsWell S P I Q next k = (last : Request) (c : List Exchange) (e : Exchange) (before after : ℕ) (other : AnswerHead → Reading) (reply : Reply) → S k c last → Replies last other before e after reply → Safe P I Q k (c ++ e ∷ []) (next last reply)

turn_safe : {K A : Type 0} (S P : K → List Exchange → Request → Type 0) (I : K → List Exchange → Type 0) (Q : K → List Exchange → A → Type 0) (n : ℕ) (request : Request) (reading : AnswerHead → Reading) (next : Request → Reply → Proto K A) (k : K) (seen : List Exchange)
    → S k seen request → Moves S k → EndsWell S P I Q next k → ((s : Request) (c : List Exchange) → S k c s → Safe P I Q k c (follow n s reading next))
    → (e : Exchange) (before after : ℕ) (reply : Reply) → Replies request (turned request reading) before e after reply → Safe P I Q k (seen ++ e ∷ []) (turn request (λ s. follow n s reading next) (next request) reply)
turn_safe {K} {A} S P I Q n request reading next k seen may moves each again e before after (Headed head) r = by_head (redirected request head) refl where
  by_head : (to : Option Request) → redirected request head ≡ to → Safe P I Q k (seen ++ e ∷ []) (go_if to (λ s. follow n s reading next) (next request (Headed head)))
  by_head (Some s) is = again s (seen ++ e ∷ []) (moves seen e request s head is may)
  by_head None is = each request seen e before after (turned request reading) (Headed head) may r
turn_safe S P I Q n request reading next k seen may moves each again e before after (Answered answer) r = each request seen e before after (turned request reading) (Answered answer) may r
turn_safe S P I Q n request reading next k seen may moves each again e before after Failed r = each request seen e before after (turned request reading) Failed may r
turn_safe S P I Q n request reading next k seen may moves each again e before after TooLong r = each request seen e before after (turned request reading) TooLong may r
turn_safe S P I Q n request reading next k seen may moves each again e before after SinkFailed r = each request seen e before after (turned request reading) SinkFailed may r

-- A request whose redirects are followed: S holds for it and for each request that a redirect from one with S leads to,
-- and S allows it to be sent.
pub Safe-follow : {K A : Type 0} (S P : K → List Exchange → Request → Type 0) (I : K → List Exchange → Type 0) (Q : K → List Exchange → A → Type 0) (n : ℕ) (request : Request) (reading : AnswerHead → Reading) (next : Request → Reply → Proto K A) (k : K) (seen : List Exchange)
    → S k seen request → ((c : List Exchange) (r : Request) → S k c r → P k c r) → Moves S k → EndsWell S P I Q next k
    → Safe P I Q k seen (follow n request reading next)
unfolding Safe follow
Safe-follow S P I Q zero request reading next k seen may asks moves each = (asks seen request may, λ e before after reply r. each request seen e before after reading reply may r)
Safe-follow S P I Q (suc n) request reading next k seen may asks moves each = (asks seen request may, λ e before after reply r. turn_safe S P I Q n request reading next k seen may moves each (λ s c h. Safe-follow S P I Q n s reading next k c h asks moves each) e before after reply r)

-- a request whose redirects are not followed
pub Safe-once : {K A : Type 0} (P : K → List Exchange → Request → Type 0) (I : K → List Exchange → Type 0) (Q : K → List Exchange → A → Type 0) (request : Request) (reading : AnswerHead → Reading) (next : Request → Reply → Proto K A) (k : K) (seen : List Exchange)
    → P k seen request → ((e : Exchange) (before after : ℕ) (reply : Reply) → Replies request reading before e after reply → Safe P I Q k (seen ++ e ∷ []) (next request reply))
    → Safe P I Q k seen (follow 0 request reading next)
unfolding Safe follow
Safe-once P I Q request reading next k seen may each = (may, each)

-- a run of a safe protocol
pub record Ended {K A : Type 0} (P : List Exchange → Request → Type 0) (Q : K → List Exchange → A → Type 0) (seen c : List Exchange) (l : K) (a : A) : Type 0 where
  pub each : EachAfter P seen c
  pub after : Q l (seen ++ c) a

pub Runs-safe : {K A : Type 0} (P : List Exchange → Request → Type 0) (I : K → List Exchange → Type 0) (Q : K → List Exchange → A → Type 0) (p : Proto K A) (k l : K) (m n : ℕ) (seen c : List Exchange) (a : A) → Safe (λ k. P) I Q k seen p → Runs p k m c n l a → Ended P Q seen c l a
unfolding Safe Runs
Runs-safe P I Q (Done x) k l m n seen [] a h r = record { each = tt; after = rw (append-nil seen, ← r.1, ← r.2) h }
Runs-safe P I Q (Done x) k l m n seen (e ∷ c) a h r = absurd r
Runs-safe P I Q (Ask request reading next) k l m n seen [] a h r = absurd r
Runs-safe P I Q (Ask request reading next) k l m n seen (e ∷ c) a h r =
    let rest = Runs-safe P I Q (next r.1) k l r.0 n (seen ++ e ∷ []) c a (h.1 e m r.0 r.1 r.2) r.3 in
    record { each = (rw r.2.request_is h.0, rest.each); after = rw append_assoc at rest.after }
Runs-safe P I Q (Recall next) k l m n seen c a h r = Runs-safe P I Q (next k) k l m n seen c a h r
Runs-safe P I Q (Keep kept rest) k l m n seen c a h r = Runs-safe P I Q rest kept l m n seen c a h.1 r
Runs-safe P I Q (Consult next) k l m n seen c a h r = Runs-safe P I Q (next r.0) k l m n seen c a (h r.0) r.1

pub RunPrefix-safe : {K A : Type 0} (P : List Exchange → Request → Type 0) (I : K → List Exchange → Type 0) (Q : K → List Exchange → A → Type 0) (p : Proto K A) (k l : K) (m : ℕ) (seen c : List Exchange) → Safe (λ k. P) I Q k seen p → RunPrefix p k m c l → EachAfter P seen c
unfolding Safe RunPrefix
RunPrefix-safe P I Q (Done x) k l m seen [] h s = tt
RunPrefix-safe P I Q (Done x) k l m seen (e ∷ c) h s = absurd s
RunPrefix-safe P I Q (Ask request reading next) k l m seen [] h s = tt
RunPrefix-safe P I Q (Ask request reading next) k l m seen (e ∷ c) h (inl s) = (rw s.0 h.0, rw s.2 tt)
RunPrefix-safe P I Q (Ask request reading next) k l m seen (e ∷ c) h (inr s) = (rw s.2.request_is h.0, RunPrefix-safe P I Q (next s.1) k l s.0 (seen ++ e ∷ []) c (h.1 e m s.0 s.1 s.2) s.3)
RunPrefix-safe P I Q (Recall next) k l m seen c h s = RunPrefix-safe P I Q (next k) k l m seen c h s
RunPrefix-safe P I Q (Consult next) k l m seen c h s = RunPrefix-safe P I Q (next s.0) k l m seen c (h s.0) s.1
RunPrefix-safe P I Q (Keep kept rest) k l m seen [] h s = tt
RunPrefix-safe P I Q (Keep kept rest) k l m seen (e ∷ c) h (inl s) = absurd (cc (s.0))
RunPrefix-safe P I Q (Keep kept rest) k l m seen (e ∷ c) h (inr s) = RunPrefix-safe P I Q rest kept l m seen (e ∷ c) h.1 s

-- each request of a call may be sent after the exchanges before it
pub Meets-safe : {K A E : Type 0} {of_memory : E → Bool} (P : List Exchange → Request → Type 0) (I : K → List Exchange → Type 0) (Q : K → List Exchange → Result A E → Type 0) {p : Proto K (Result A E)} {old new : Link} {k l : K} {r : Result A E} → Safe (λ k. P) I Q k [] p → Meets of_memory p old new k l r → Told (EachAfter P []) old new
Meets-safe {K} {A} {E} {of_memory} P I Q {p} {old} {new} {k} {l} {r} h met = by_result r met.outcome where
  performed : (r : Result A E) → Performs p old new k l r → Told (EachAfter P []) old new
  performed r done = record { conversation = done.conversation; told = done.told; holds = (Runs-safe P I Q p k l old.faults new.faults [] done.conversation r h done.runs).each }

  by_memory : (b : Bool) (e : E) → MatchBool b (PerformsPrefix p old new k l) (Performs p old new k l (Err e)) → Told (EachAfter P []) old new
  by_memory true e broken = record { conversation = broken.conversation; told = broken.told; holds = RunPrefix-safe P I Q p k l old.faults [] broken.conversation h broken.stops }
  by_memory false e done = performed (Err e) done

  by_result : (r : Result A E) → Outcome of_memory p old new k l r → Told (EachAfter P []) old new
  by_result (Ok a) done = performed (Ok a) done
  by_result (Err e) outcome = by_memory (of_memory e) e outcome
