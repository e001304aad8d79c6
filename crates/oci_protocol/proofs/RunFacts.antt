-- Which property every complete run of a protocol has, from its parts.
use Rattle.std.proofs.Common.{◌≡◌, ℕ, Bool, true, false, List, [], ◌∷◌, ◌++◌, Option, Result, Ok, Err, IfOk, refl, sym, subst, ◌∙◌, append_assoc, append-nil}
use Rattle.std.specs.Prelude.{MatchBool}
use Rattle.oci_transport.specs.Link.{Link}
use Rattle.oci_transport.specs.declared.message.Request.{Request}
use Rattle.oci_transport.specs.declared.message.AnswerHead.{AnswerHead}
use Rattle.oci_transport.specs.declared.message.Exchange.{Exchange}
use Rattle.oci_protocol.specs.Proto.{Reading, Reply, Proto, Done, Recall, Keep, Consult, bind, unless_refused, ◌>>=◌}
use Rattle.oci_protocol.specs.Runs.{Runs, Performs, PerformsPrefix, Outcome, Meets, Told}
use Rattle.oci_protocol.specs.Ends.{UnlessMemory}
use Rattle.oci_protocol.specs.Follow.{follow}
use Rattle.oci_protocol.specs.Trails.{Trailed}
use Rattle.oci_protocol.specs.EveryRun.{EveryRun, ByResult, WhenOk, Heard}
use Rattle.oci_protocol.proofs.Parts.{Runs-parts}
use Rattle.oci_protocol.proofs.RedirectTrails.{Runs-trailed}

-- `Done x` makes no request and returns x
pub done_run : {K A : Type 0} (Q : ℕ → List Exchange → ℕ → A → Type 0) (x : A) (k l : K) (m n : ℕ) (c : List Exchange) (a : A) → Q m [] m x → Runs (Done x) k m c n l a → Q m c n a
unfolding Runs
done_run Q x k l m n [] a h r = rw (← r.0, ← r.2) h
done_run Q x k l m n (e ∷ c) a h r = absurd r

pub EveryRun-done : {K A : Type 0} (Q : ℕ → List Exchange → ℕ → A → Type 0) (x : A) → ((m : ℕ) → Q m [] m x) → EveryRun {K = K} Q (Done x)
EveryRun-done Q x h = record { shows = λ k l m n c a r. done_run Q x k l m n c a (h m) r }

-- `EveryRun` is monotone: P implies Q
pub EveryRun-more : {K A : Type 0} (P Q : ℕ → List Exchange → ℕ → A → Type 0) (p : Proto K A) → EveryRun P p → ((m n : ℕ) (c : List Exchange) (a : A) → P m c n a → Q m c n a) → EveryRun Q p
EveryRun-more P Q p h more = record { shows = λ k l m n c a r. more m n c a (h.shows k l m n c a r) }

-- two parts: P holds for the first
pub EveryRun-bind : {K A B : Type 0} (P : ℕ → List Exchange → ℕ → A → Type 0) (Q : ℕ → List Exchange → ℕ → B → Type 0) (p : Proto K A) (f : A → Proto K B)
    → EveryRun P p → ((m n : ℕ) (c : List Exchange) (a : A) → P m c n a → EveryRun (λ s d o b. Q m (c ++ d) o b) (f a)) → EveryRun Q (bind p f)
EveryRun-bind P Q p f h each = record {
  shows = λ k l m n c b r.
      let t = Runs-parts p f k m c n l b r in
      subst (λ c. Q m c n b) (sym t.joined) ((each m t.count t.first t.answer (h.shows k t.between m t.count t.first t.answer t.runs_first)).shows t.between l t.count n t.second b t.runs_second);
}

second_part : {K A B E : Type 0} (P : ℕ → List Exchange → ℕ → A → Type 0) (Q : ℕ → List Exchange → ℕ → B → Type 0) (R : ℕ → List Exchange → ℕ → E → Type 0) (f : A → Proto K (Result B E)) (k l : K) (m n o : ℕ) (c d : List Exchange) (a : Result A E) (b : Result B E)
    → ((m n : ℕ) (c : List Exchange) (a : A) → P m c n a → EveryRun (λ s d o b. ByResult Q R m (c ++ d) o b) (f a)) → ByResult P R m c n a → Runs (unless_refused f a) k n d o l b → ByResult Q R m (c ++ d) o b
second_part P Q R f k l m n o c d (Ok a) b each h r = (each m n c a h).shows k l n o d b r
second_part P Q R f k l m n o c d (Err e) b each h r = done_run (λ s d o b. ByResult Q R m (c ++ d) o b) (Err e) k l n o d b (rw append-nil h) r

-- a step that may fail, and what it leads to; its error is passed on
pub EveryRun-each : {K A B E : Type 0} (P : ℕ → List Exchange → ℕ → A → Type 0) (Q : ℕ → List Exchange → ℕ → B → Type 0) (R : ℕ → List Exchange → ℕ → E → Type 0) (p : Proto K (Result A E)) (f : A → Proto K (Result B E))
    → EveryRun (ByResult P R) p → ((m n : ℕ) (c : List Exchange) (a : A) → P m c n a → EveryRun (λ s d o b. ByResult Q R m (c ++ d) o b) (f a)) → EveryRun (ByResult Q R) (p >>= f)
EveryRun-each P Q R p f h each = record {
  shows = λ k l m n c b r.
      let t = Runs-parts p (unless_refused f) k m c n l b r in
      subst (λ c. ByResult Q R m c n b) (sym t.joined) (second_part P Q R f t.between l m t.count n t.first t.second t.answer b each (h.shows k t.between m t.count t.first t.answer t.runs_first) t.runs_second);
}

-- the same, with errors unspecified
pub EveryRun-next : {K A B E : Type 0} (P : ℕ → List Exchange → ℕ → A → Type 0) (Q : ℕ → List Exchange → ℕ → B → Type 0) (p : Proto K (Result A E)) (f : A → Proto K (Result B E))
    → EveryRun (WhenOk P) p → ((m n : ℕ) (c : List Exchange) (a : A) → P m c n a → EveryRun (λ s d o b. WhenOk Q m (c ++ d) o b) (f a)) → EveryRun (WhenOk Q) (p >>= f)
EveryRun-next P Q p f h each = EveryRun-each P Q (λ m c n e. Unit {0}) p f h each

-- a step without a request, and what it leads to
pub EveryRun-step : {K A B E : Type 0} (Q : ℕ → List Exchange → ℕ → Result B E → Type 0) (r : Result A E) (f : A → Proto K (Result B E))
    → ((a : A) → r ≡ Ok a → EveryRun Q (f a)) → ((e : E) → r ≡ Err e → (m : ℕ) → Q m [] m (Err e)) → EveryRun Q (Done r >>= f)
unfolding bind
EveryRun-step Q (Ok a) f each refused = each a refl
EveryRun-step Q (Err e) f each refused = EveryRun-done Q (Err e) (refused e refl)

-- the last step, without a request
pub EveryRun-last : {K A E : Type 0} (P : ℕ → List Exchange → ℕ → A → Type 0) (R : ℕ → List Exchange → ℕ → E → Type 0) (r : Result A E) → ((a : A) → r ≡ Ok a → (m : ℕ) → P m [] m a) → ((e : E) → r ≡ Err e → (m : ℕ) → R m [] m e) → EveryRun {K = K} (ByResult P R) (Done r)
EveryRun-last P R (Ok a) answered refused = EveryRun-done (ByResult P R) (Ok a) (answered a refl)
EveryRun-last P R (Err e) answered refused = EveryRun-done (ByResult P R) (Err e) (refused e refl)

pub EveryRun-recall : {K A : Type 0} (Q : ℕ → List Exchange → ℕ → A → Type 0) (next : K → Proto K A) → ((k : K) → EveryRun Q (next k)) → EveryRun Q (Recall next)
unfolding Runs
EveryRun-recall Q next each = record { shows = λ k l m n c a r. (each k).shows k l m n c a r }

pub EveryRun-keep : {K A : Type 0} (Q : ℕ → List Exchange → ℕ → A → Type 0) (kept : K) (rest : Proto K A) → EveryRun Q rest → EveryRun Q (Keep kept rest)
unfolding Runs
EveryRun-keep Q kept rest h = record { shows = λ k l m n c a r. h.shows kept l m n c a r }

-- for any external input
pub EveryRun-consult : {K A : Type 0} (Q : ℕ → List Exchange → ℕ → A → Type 0) (next : Option (List ℕ) → Proto K A) → ((said : Option (List ℕ)) → EveryRun Q (next said)) → EveryRun Q (Consult next)
unfolding Runs
EveryRun-consult Q next each = record { shows = λ k l m n c a r. (each r.0).shows k l m n c a r.1 }

heard_of : {K A : Type 0} {n : ℕ} {request : Request} {reading : AnswerHead → Reading} {next : Request → Reply → Proto K A} {k : K} {m : ℕ} {c : List Exchange} {after : ℕ} {l : K} {a : A} (t : Trailed n request reading next k m c after l a) → Heard n request reading m (t.redirects ++ t.exchange ∷ []) t.count t.last t.reply
heard_of t = record { redirects = t.redirects; exchange = t.exchange; split = refl; left = t.left; before = t.before; trail = t.trail; replies = t.replies; settles = t.settles }

-- a request whose redirects are followed: what its last reply leads to
pub EveryRun-follow : {K A : Type 0} (Q : ℕ → List Exchange → ℕ → A → Type 0) (n : ℕ) (request : Request) (reading : AnswerHead → Reading) (next : Request → Reply → Proto K A)
    → ((k l : K) (m after o : ℕ) (c d : List Exchange) (last : Request) (reply : Reply) (a : A) → Heard n request reading m c after last reply → Runs (next last reply) k after d o l a → Q m (c ++ d) o a) → EveryRun Q (follow n request reading next)
EveryRun-follow Q n request reading next each = record {
  shows = λ k l m o c a r.
      let t = Runs-trailed n request reading next k m c o l a r in
      subst (λ c. Q m c o a) (append_assoc t.redirects (t.exchange ∷ []) t.rest ∙ sym t.split) (each k l m t.count o (t.redirects ++ t.exchange ∷ []) t.rest t.last t.reply a (heard_of t) t.runs);
}

-- Q holds for the result of a call and the exposed exchanges.
pub Meets-shows : {K A E : Type 0} {of_memory : E → Bool} (Q : ℕ → List Exchange → ℕ → Result A E → Type 0) {p : Proto K (Result A E)} {old new : Link} {k l : K} {r : Result A E} → EveryRun Q p → Meets of_memory p old new k l r → UnlessMemory of_memory (λ r. Told (λ c. Q old.faults c new.faults r) old new) r
Meets-shows {K} {A} {E} {of_memory} Q {p} {old} {new} {k} {l} {r} h met = by_result r met.outcome where
  performed : (r : Result A E) → Performs p old new k l r → Told (λ c. Q old.faults c new.faults r) old new
  performed r run = record { conversation = run.conversation; told = run.told; holds = h.shows k l old.faults new.faults run.conversation r run.runs }

  by_memory : (b : Bool) (e : E) → MatchBool b (PerformsPrefix p old new k l) (Performs p old new k l (Err e)) → MatchBool b (Unit {0}) (Told (λ c. Q old.faults c new.faults (Err e)) old new)
  by_memory true e run = tt
  by_memory false e run = performed (Err e) run

  by_result : (r : Result A E) → Outcome of_memory p old new k l r → UnlessMemory of_memory (λ r. Told (λ c. Q old.faults c new.faults r) old new) r
  by_result (Ok a) run = performed (Ok a) run
  by_result (Err e) run = by_memory (of_memory e) e run

-- the same for `Ok`
pub Meets-shows-ok : {K A E : Type 0} {of_memory : E → Bool} (P : ℕ → List Exchange → ℕ → A → Type 0) {p : Proto K (Result A E)} {old new : Link} {k l : K} {r : Result A E} → EveryRun (WhenOk P) p → Meets of_memory p old new k l r → IfOk r (λ a. Told (λ c. P old.faults c new.faults a) old new)
Meets-shows-ok {K} {A} {E} {of_memory} P {p} {old} {new} {k} {l} {r} h met = by_result r (Meets-shows (WhenOk P) h met) where
  by_result : (r : Result A E) → UnlessMemory of_memory (λ r. Told (λ c. WhenOk P old.faults c new.faults r) old new) r → IfOk r (λ a. Told (λ c. P old.faults c new.faults a) old new)
  by_result (Ok a) told = told
  by_result (Err e) told = tt

-- the same for an error other than out of memory
pub Meets-shows-err : {K A E : Type 0} {of_memory : E → Bool} (Q : ℕ → List Exchange → ℕ → Result A E → Type 0) {p : Proto K (Result A E)} {old new : Link} {k l : K} {e : E} → of_memory e ≡ false → EveryRun Q p → Meets of_memory p old new k l (Err e) → Told (λ c. Q old.faults c new.faults (Err e)) old new
Meets-shows-err Q is h met = rw is at (Meets-shows Q h met)
