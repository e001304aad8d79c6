-- Properties of all complete runs that begin with this client state.
use Rattle.std.proofs.Common.{◌≡◌, ℕ, Bool, List, [], ◌++◌, Result, Ok, Err, IfOk, refl, sym, subst, append-nil}
use Rattle.oci_transport.specs.Link.{Link}
use Rattle.oci_transport.specs.declared.message.Exchange.{Exchange}
use Rattle.oci_protocol.specs.Proto.{Proto, Done, bind, unless_refused, ◌>>=◌}
use Rattle.oci_protocol.specs.Runs.{Runs, Meets, Told}
use Rattle.oci_protocol.specs.EveryRun.{EveryRun}
use Rattle.oci_protocol.proofs.Parts.{Runs-parts, Runs-done}
use Rattle.registry_calls.specs.declared.error.SigstoreError.{SigstoreError}
use Rattle.registry_calls.specs.Clients.{Kept, Row}
use Rattle.cosign_rows.specs.Verified.{as_whole, part_of}
use Rattle.cosign_laws.proofs.Images.{Seen}

pub record SeenFrom {A E : Type 0} (k : Kept) (P : List Exchange → A → Type 0) (p : Proto Kept (Result A E)) : Type 0 where
  pub seen : (l : Kept) (m n : ℕ) (c : List Exchange) (r : Result A E) → Runs p k m c n l r → Seen P m c n r

-- a part that is complete
seen_done : {A E : Type 0} (P : List Exchange → A → Type 0) (x r : Result A E) (k l : Kept) (m n o : ℕ) (c d : List Exchange) → Seen P m c n x → Runs (Done x) k n d o l r → Seen P m (c ++ d) o r
seen_done {A} {E} P x r k l m n o c d h run = let parts = Runs-done x k n d o l r run in subst (λ r. Seen P m (c ++ d) o r) parts.2 (subst (λ d. Seen P m (c ++ d) o x) (sym parts.0) (later x h)) where
  later : (x : Result A E) → Seen P m c n x → Seen P m (c ++ []) o x
  later (Ok a) h = rw append-nil h
  later (Err e) h = tt

second_seen : {A B E : Type 0} (P : List Exchange → A → Type 0) (Q : List Exchange → B → Type 0) (f : A → Proto Kept (Result B E)) (x : Result A E) (r : Result B E) (k l : Kept) (m n o : ℕ) (c d : List Exchange)
    → ((c : List Exchange) (a : A) → P c a → EveryRun (Seen (λ d b. Q (c ++ d) b)) (f a)) → Seen P m c n x → Runs (unless_refused f x) k n d o l r → Seen Q m (c ++ d) o r
second_seen P Q f (Err e) r k l m n o c d each h run = seen_done Q (Err e) r k l m n o c d tt run
second_seen {B = B} {E = E} P Q f (Ok a) r k l m n o c d each h run = moved r ((each c a h).shows k l n o d r run) where
  moved : (r : Result B E) → Seen (λ d b. Q (c ++ d) b) n d o r → Seen Q m (c ++ d) o r
  moved (Ok b) h = h
  moved (Err e) h = tt

-- a step, and what it leads to
pub next_from : {A B E : Type 0} (k : Kept) (P : List Exchange → A → Type 0) (Q : List Exchange → B → Type 0) (p : Proto Kept (Result A E)) (f : A → Proto Kept (Result B E)) → SeenFrom k P p → ((c : List Exchange) (a : A) → P c a → EveryRun (Seen (λ d b. Q (c ++ d) b)) (f a)) → SeenFrom k Q (p >>= f)
next_from k P Q p f h each = record {
  seen = λ l m n c r run.
      let t = Runs-parts p (unless_refused f) k m c n l r run in
      subst (λ c. Seen Q m c n r) (sym t.joined) (second_seen P Q f t.answer r t.between l m t.count n t.first t.second each (h.seen t.between m t.count t.first t.answer t.runs_first) t.runs_second);
}

refused_from : {A E : Type 0} (k : Kept) (P : List Exchange → A → Type 0) (e : E) → SeenFrom k P (Done (Err e))
refused_from k P e = record { seen = λ l m n c r run. seen_done P (Err e) r k l m m n [] c tt run }

-- a step without a request
pub step_from : {A B E : Type 0} (k : Kept) (Q : List Exchange → B → Type 0) (r : Result A E) (f : A → Proto Kept (Result B E)) → ((a : A) → r ≡ Ok a → SeenFrom k Q (f a)) → SeenFrom k Q (Done r >>= f)
unfolding bind
step_from k Q (Ok a) f each = each a refl
step_from k Q (Err e) f each = refused_from k Q e

-- as a part of the whole pull
pub part_from : {A : Type 0} (k : Kept) (P : List Exchange → A → Type 0) (p : Row A) → SeenFrom k P p → SeenFrom k P (part_of p)
unfolding part_of
part_from {A} k P p h = record {
  seen = λ l m n c r run.
      let t = Runs-parts p (λ x. Done (as_whole x)) k m c n l r run in
      subst (λ c. Seen P m c n r) (sym t.joined) (seen_done P (as_whole t.answer) r t.between l m t.count n t.first t.second (whole t.answer m t.count t.first (h.seen t.between m t.count t.first t.answer t.runs_first)) t.runs_second);
} where
  whole : (x : Result A SigstoreError) (m n : ℕ) (c : List Exchange) → Seen P m c n x → Seen P m c n (as_whole x)
  whole (Ok a) m n c h = h
  whole (Err e) m n c h = tt

-- the same for the result of a call
pub told_from : {A E : Type 0} {of_memory : E → Bool} (P : List Exchange → A → Type 0) {p : Proto Kept (Result A E)} {old new : Link} {k l : Kept} (r : Result A E) → SeenFrom k P p → Meets of_memory p old new k l r → IfOk r (λ a. Told (λ c. P c a) old new)
told_from P {old = old} {new = new} {l = l} (Ok a) h met = let run = met.outcome in record { conversation = run.conversation; told = run.told; holds = h.seen l old.faults new.faults run.conversation (Ok a) run.runs }
told_from P (Err e) h met = tt
