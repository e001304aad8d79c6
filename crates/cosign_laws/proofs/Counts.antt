-- The fault counts at the beginning and the end of a run.
use Rattle.std.proofs.Common.{◌≡◌, ◌≤◌, ℕ, Bool, true, false, List, [], ◌∷◌, Option, Some, None, Result, Ok, Err, refl}
use Rattle.std.specs.Prelude.{MatchBool}
use Rattle.oci_transport.specs.Link.{Link, Steady, Extends}
use Rattle.oci_transport.specs.declared.message.Exchange.{Exchange}
use Rattle.oci_protocol.specs.Proto.{Proto, Done, bind}
use Rattle.oci_protocol.specs.Lift.{lifted}
use Rattle.oci_protocol.specs.Ends.{UnlessMemory}
use Rattle.oci_protocol.specs.Runs.{Runs, Performs, PerformsPrefix, Outcome, Meets}
use Rattle.oci_protocol.proofs.Laws.{Runs-count}
use Rattle.oci_protocol.proofs.WiderMemory.{Runs-unlifted}
use Rattle.oci_protocol.proofs.Parts.{Runs-parts}

-- the property holds for the counts before and after each complete run, and for its result
pub record Counts {K A : Type 0} (Q : ℕ → ℕ → A → Type 0) (p : Proto K A) : Type 0 where
  pub counts : (k l : K) (m n : ℕ) (c : List Exchange) (a : A) → Runs p k m c n l a → Q m n a

-- the fault count never decreases
pub Counts-any : {K A : Type 0} (p : Proto K A) → Counts (λ m n a. m ≤ n) p
Counts-any p = record { counts = λ k l m n c a run. Runs-count p k l m n c a run }

done_run : {K A : Type 0} (Q : ℕ → ℕ → A → Type 0) (x : A) (k l : K) (m n : ℕ) (c : List Exchange) (a : A) → Q m m x → Runs (Done x) k m c n l a → Q m n a
unfolding Runs
done_run Q x k l m n [] a h r = rw (← r.0, ← r.2) h
done_run Q x k l m n (e ∷ c) a h r = absurd r

pub Counts-done : {K A : Type 0} (Q : ℕ → ℕ → A → Type 0) (x : A) → ((m : ℕ) → Q m m x) → Counts {K = K} Q (Done x)
Counts-done Q x h = record { counts = λ k l m n c a r. done_run Q x k l m n c a (h m) r }

pub Counts-more : {K A : Type 0} (P Q : ℕ → ℕ → A → Type 0) (p : Proto K A) → Counts P p → ((m n : ℕ) (a : A) → P m n a → Q m n a) → Counts Q p
Counts-more P Q p h more = record { counts = λ k l m n c a r. more m n a (h.counts k l m n c a r) }

-- two parts: the second begins at the count at which the first ends
pub Counts-bind : {K A B : Type 0} (P : ℕ → ℕ → A → Type 0) (Q : ℕ → ℕ → B → Type 0) (p : Proto K A) (f : A → Proto K B) → Counts P p → ((m n : ℕ) (a : A) → P m n a → Counts (λ start o b. start ≡ n → Q m o b) (f a)) → Counts Q (bind p f)
Counts-bind P Q p f h each = record {
  counts = λ k l m n c b r.
      let t = Runs-parts p f k m c n l b r in
      (each m t.count t.answer (h.counts k t.between m t.count t.first t.answer t.runs_first)).counts t.between l t.count n t.second b t.runs_second refl;
}

-- with an unchanged second component
pub Counts-lifted : {K C A : Type 0} (Q : ℕ → ℕ → A → Type 0) (p : Proto K A) → Counts Q p → Counts {K = K × C} Q (lifted p)
Counts-lifted Q p h = record { counts = λ k l m n c a r. h.counts k.0 l.0 m n c a (Runs-unlifted p k l m n c a r).0 }

-- the same for a call, unless memory ran out
pub Meets-counts : {K A E : Type 0} {of_memory : E → Bool} (Q : ℕ → ℕ → Result A E → Type 0) {p : Proto K (Result A E)} {old new : Link} {k l : K} {r : Result A E} → Counts Q p → Meets of_memory p old new k l r → UnlessMemory of_memory (λ r. Q old.faults new.faults r) r
Meets-counts {K} {A} {E} {of_memory} Q {p} {old} {new} {k} {l} {r} h met = by_result r met.outcome where
  performed : (r : Result A E) → Performs p old new k l r → Q old.faults new.faults r
  performed r run = h.counts k l old.faults new.faults run.conversation r run.runs

  by_memory : (b : Bool) (e : E) → MatchBool b (PerformsPrefix p old new k l) (Performs p old new k l (Err e)) → MatchBool b (Unit {0}) (Q old.faults new.faults (Err e))
  by_memory true e run = tt
  by_memory false e run = performed (Err e) run

  by_result : (r : Result A E) → Outcome of_memory p old new k l r → UnlessMemory of_memory (λ r. Q old.faults new.faults r) r
  by_result (Ok a) run = performed (Ok a) run
  by_result (Err e) run = by_memory (of_memory e) e run

-- ---- a run, as over a transport that exposes nothing

abbrev pub silent : ℕ → Link
silent faults = record { told = None; rest = None; pieces = None; faults = faults; exact = false; answers = None }

none_some : {A P : Type 0} (a : A) → (let o : Option A = None in o) ≡ Some a → P
none_some a is = absurd (cc is)

steady : (m n : ℕ) → Steady (silent m) (silent n)
steady m n = record { steady = λ a is. none_some a is; quiet = λ a is never. none_some a is; exact = refl }

untold : (m n : ℕ) (c : List Exchange) → Extends (silent m) (silent n) c
untold m n c = record { told = λ before is. none_some before is; table = λ a before is told. none_some a is; stays = steady m n }

-- a run is what a call does over a transport that exposes nothing
pub Runs-meets : {K A E : Type 0} (of_memory : E → Bool) (p : Proto K (Result A E)) (k l : K) (m n : ℕ) (c : List Exchange) (e : E) → of_memory e ≡ false → Runs p k m c n l (Err e) → Meets of_memory p (silent m) (silent n) k l (Err e)
Runs-meets of_memory p k l m n c e other run = record { outcome = rw other (record { conversation = c; told = untold m n c; runs = run; runs_by = λ t before by. none_some t by }) }
