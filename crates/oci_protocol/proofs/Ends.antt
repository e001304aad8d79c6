use Rattle.std.proofs.Common.{ℕ, Bool, true, false, List, [], ◌∷◌, Result, Ok, Err, subst}
use Rattle.std.specs.Prelude.{MatchBool}
use Rattle.oci_transport.specs.Link.{Link}
use Rattle.oci_transport.specs.declared.message.Exchange.{Exchange}
use Rattle.oci_protocol.specs.Proto.{Proto, Done, Ask, Recall, Keep, Consult, bind, unless_refused, ◌>>=◌}
use Rattle.oci_protocol.specs.Runs.{Runs, Performs, PerformsPrefix, Outcome, Meets}
use Rattle.oci_protocol.specs.Ends.{Ends, OnAnswer, UnlessMemory}

-- if Q holds for every result, each protocol ends with Q
pub Ends-any : {K A : Type 0} (Q : A → Type 0) (p : Proto K A) → ((a : A) → Q a) → Ends Q p
unfolding Ends
Ends-any Q (Done a) all = all a
Ends-any Q (Ask request reading next) all = λ reply. Ends-any Q (next reply) all
Ends-any Q (Recall next) all = λ k. Ends-any Q (next k) all
Ends-any Q (Keep kept rest) all = Ends-any Q rest all
Ends-any Q (Consult next) all = λ said. Ends-any Q (next said) all

pub Ends-bind : {K A B : Type 0} (P : A → Type 0) (Q : B → Type 0) (p : Proto K A) (f : A → Proto K B) → Ends P p → ((a : A) → P a → Ends Q (f a)) → Ends Q (bind p f)
unfolding Ends bind
Ends-bind P Q (Done a) f h each = each a h
Ends-bind P Q (Ask request reading next) f h each = λ reply. Ends-bind P Q (next reply) f (h reply) each
Ends-bind P Q (Recall next) f h each = λ k. Ends-bind P Q (next k) f (h k) each
Ends-bind P Q (Keep kept rest) f h each = Ends-bind P Q rest f h each
Ends-bind P Q (Consult next) f h each = λ said. Ends-bind P Q (next said) f (h said) each

unless : {K A B E : Type 0} (P : A → Type 0) (Q : B → Type 0) (f : A → Proto K (Result B E)) → ((a : A) → P a → Ends (OnAnswer Q) (f a)) → (r : Result A E) → OnAnswer P r → Ends (OnAnswer Q) (unless_refused f r)
unfolding Ends
unless P Q f each (Ok a) h = each a h
unless P Q f each (Err e) h = tt

-- P holds for the first result; given that, Q holds for the second
pub Ends-next : {K A B E : Type 0} (P : A → Type 0) (Q : B → Type 0) (p : Proto K (Result A E)) (f : A → Proto K (Result B E)) → Ends (OnAnswer P) p → ((a : A) → P a → Ends (OnAnswer Q) (f a)) → Ends (OnAnswer Q) (p >>= f)
Ends-next P Q p f h each = Ends-bind (OnAnswer P) (OnAnswer Q) p (unless_refused f) h (unless P Q f each)

pub Runs-ends : {K A : Type 0} (Q : A → Type 0) (p : Proto K A) (k l : K) (m n : ℕ) (c : List Exchange) (a : A) → Ends Q p → Runs p k m c n l a → Q a
unfolding Ends Runs
Runs-ends Q (Done x) k l m n [] a h r = subst Q r.2 h
Runs-ends Q (Done x) k l m n (e ∷ c) a h r = absurd r
Runs-ends Q (Ask request reading next) k l m n [] a h r = absurd r
Runs-ends Q (Ask request reading next) k l m n (e ∷ c) a h r = Runs-ends Q (next r.1) k l r.0 n c a (h r.1) r.3
Runs-ends Q (Recall next) k l m n c a h r = Runs-ends Q (next k) k l m n c a (h k) r
Runs-ends Q (Keep kept rest) k l m n c a h r = Runs-ends Q rest kept l m n c a h r
Runs-ends Q (Consult next) k l m n c a h r = Runs-ends Q (next r.0) k l m n c a (h r.0) r.1

-- Q holds for the result of the call
pub Meets-ends : {K A E : Type 0} {of_memory : E → Bool} (Q : Result A E → Type 0) {p : Proto K (Result A E)} {old new : Link} {k l : K} {r : Result A E} → Ends Q p → Meets of_memory p old new k l r → UnlessMemory of_memory Q r
Meets-ends {K} {A} {E} {of_memory} Q {p} {old} {new} {k} {l} {r} h met = by_result r met.outcome where
  performed : (r : Result A E) → Performs p old new k l r → Q r
  performed r run = Runs-ends Q p k l old.faults new.faults run.conversation r h run.runs

  by_memory : (b : Bool) (e : E) → MatchBool b (PerformsPrefix p old new k l) (Performs p old new k l (Err e)) → MatchBool b (Unit {0}) (Q (Err e))
  by_memory true e run = tt
  by_memory false e run = performed (Err e) run

  by_result : (r : Result A E) → Outcome of_memory p old new k l r → UnlessMemory of_memory Q r
  by_result (Ok a) run = performed (Ok a) run
  by_result (Err e) run = by_memory (of_memory e) e run

-- `Ends` is monotone: P of each result implies Q
pub Ends-more : {K A : Type 0} (P Q : A → Type 0) (p : Proto K A) → Ends P p → ((a : A) → P a → Q a) → Ends Q p
unfolding Ends
Ends-more P Q (Done a) h each = each a h
Ends-more P Q (Ask request reading next) h each = λ reply. Ends-more P Q (next reply) (h reply) each
Ends-more P Q (Recall next) h each = λ k. Ends-more P Q (next k) (h k) each
Ends-more P Q (Keep kept rest) h each = Ends-more P Q rest h each
Ends-more P Q (Consult next) h each = λ said. Ends-more P Q (next said) (h said) each
