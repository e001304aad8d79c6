-- Which property every complete run has of the client state before and after it, from its parts.
use Rattle.std.proofs.Common.{◌≡◌, ℕ, Bool, true, false, List, [], ◌∷◌, ◌++◌, Result, Ok, Err, refl, sym, subst}
use Rattle.std.specs.Prelude.{MatchBool}
use Rattle.oci_transport.specs.Link.{Link}
use Rattle.oci_transport.specs.declared.message.Exchange.{Exchange}
use Rattle.oci_protocol.specs.Proto.{Proto, Done, bind, unless_refused, ◌>>=◌}
use Rattle.oci_protocol.specs.Runs.{Runs, Performs, PerformsPrefix, Outcome, Meets, Told}
use Rattle.oci_protocol.specs.Ends.{UnlessMemory}
use Rattle.oci_protocol.specs.EveryRun.{EveryRun, EveryRunKept}
use Rattle.oci_protocol.proofs.Parts.{Runs-parts}

-- a property that does not mention the client state
pub EveryRun-kept : {K A : Type 0} (Q : ℕ → List Exchange → ℕ → A → Type 0) (p : Proto K A) → EveryRun Q p → EveryRunKept (λ k m c n l a. Q m c n a) p
EveryRun-kept Q p h = record { shows = λ k l m n c a r. h.shows k l m n c a r }

-- every run is a run
pub EveryRunKept-run : {K A : Type 0} (p : Proto K A) → EveryRunKept (λ k m c n l a. Runs p k m c n l a) p
EveryRunKept-run p = record { shows = λ k l m n c a r. r }

done_kept : {K A : Type 0} (Q : K → ℕ → List Exchange → ℕ → K → A → Type 0) (x : A) (k l : K) (m n : ℕ) (c : List Exchange) (a : A) → Q k m [] m k x → Runs (Done x) k m c n l a → Q k m c n l a
unfolding Runs
done_kept Q x k l m n [] a h r = rw (← r.0, ← r.1, ← r.2) h
done_kept Q x k l m n (e ∷ c) a h r = absurd r

pub EveryRunKept-done : {K A : Type 0} (Q : K → ℕ → List Exchange → ℕ → K → A → Type 0) (x : A) → ((k : K) (m : ℕ) → Q k m [] m k x) → EveryRunKept Q (Done x)
EveryRunKept-done Q x h = record { shows = λ k l m n c a r. done_kept Q x k l m n c a (h k m) r }

-- `EveryRunKept` is monotone: P implies Q
pub EveryRunKept-more : {K A : Type 0} (P Q : K → ℕ → List Exchange → ℕ → K → A → Type 0) (p : Proto K A) → EveryRunKept P p → ((k l : K) (m n : ℕ) (c : List Exchange) (a : A) → P k m c n l a → Q k m c n l a) → EveryRunKept Q p
EveryRunKept-more P Q p h more = record { shows = λ k l m n c a r. more k l m n c a (h.shows k l m n c a r) }

-- P and Q together
pub EveryRunKept-both : {K A : Type 0} (P Q : K → ℕ → List Exchange → ℕ → K → A → Type 0) (p : Proto K A) → EveryRunKept P p → EveryRunKept Q p → EveryRunKept (λ k m c n l a. P k m c n l a × Q k m c n l a) p
EveryRunKept-both P Q p h g = record { shows = λ k l m n c a r. (h.shows k l m n c a r, g.shows k l m n c a r) }

-- two parts: P holds for the first; the second begins with the client state and the fault count after the first
pub EveryRunKept-bind : {K A B : Type 0} (P : K → ℕ → List Exchange → ℕ → K → A → Type 0) (Q : K → ℕ → List Exchange → ℕ → K → B → Type 0) (p : Proto K A) (f : A → Proto K B)
    → EveryRunKept P p → ((k j : K) (m n : ℕ) (c : List Exchange) (a : A) → P k m c n j a → EveryRunKept (λ j' n' d o l b. (j' ≡ j) → (n' ≡ n) → Q k m (c ++ d) o l b) (f a)) → EveryRunKept Q (bind p f)
EveryRunKept-bind P Q p f h each = record {
  shows = λ k l m n c b r.
      let t = Runs-parts p f k m c n l b r in
      subst (λ c. Q k m c n l b) (sym t.joined) ((each k t.between m t.count t.first t.answer (h.shows k t.between m t.count t.first t.answer t.runs_first)).shows t.between l t.count n t.second b t.runs_second refl refl);
}

-- a step without a request, and what follows it
pub EveryRunKept-step : {K A B E : Type 0} (Q : K → ℕ → List Exchange → ℕ → K → Result B E → Type 0) (r : Result A E) (f : A → Proto K (Result B E))
    → ((a : A) → r ≡ Ok a → EveryRunKept Q (f a)) → ((e : E) → r ≡ Err e → (k : K) (m : ℕ) → Q k m [] m k (Err e)) → EveryRunKept Q (Done r >>= f)
unfolding bind
EveryRunKept-step Q (Ok a) f each refused = each a refl
EveryRunKept-step Q (Err e) f each refused = EveryRunKept-done Q (Err e) (refused e refl)

-- Q holds for the result of the call, the exposed exchanges, and the client states and fault counts before and after it
pub Meets-shows-kept : {K A E : Type 0} {of_memory : E → Bool} (Q : K → ℕ → List Exchange → ℕ → K → Result A E → Type 0) {p : Proto K (Result A E)} {old new : Link} {k l : K} {r : Result A E} → EveryRunKept Q p → Meets of_memory p old new k l r → UnlessMemory of_memory (λ r. Told (λ c. Q k old.faults c new.faults l r) old new) r
Meets-shows-kept {K} {A} {E} {of_memory} Q {p} {old} {new} {k} {l} {r} h met = by_result r met.outcome where
  performed : (r : Result A E) → Performs p old new k l r → Told (λ c. Q k old.faults c new.faults l r) old new
  performed r run = record { conversation = run.conversation; told = run.told; holds = h.shows k l old.faults new.faults run.conversation r run.runs }

  by_memory : (b : Bool) (e : E) → MatchBool b (PerformsPrefix p old new k l) (Performs p old new k l (Err e)) → MatchBool b (Unit {0}) (Told (λ c. Q k old.faults c new.faults l (Err e)) old new)
  by_memory true e run = tt
  by_memory false e run = performed (Err e) run

  by_result : (r : Result A E) → Outcome of_memory p old new k l r → UnlessMemory of_memory (λ r. Told (λ c. Q k old.faults c new.faults l r) old new) r
  by_result (Ok a) run = performed (Ok a) run
  by_result (Err e) run = by_memory (of_memory e) e run
