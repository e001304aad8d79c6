-- What holds when a `Safe` protocol has ended or was cut off.
use Rattle.std.proofs.Common.{◌≡◌, inl, inr, ℕ, Bool, false, List, [], ◌∷◌, ◌++◌, Result, Ok, Err, sym, ap, subst, ◌∙◌, append_assoc, append-nil}
use Rattle.oci_transport.specs.Link.{Link}
use Rattle.oci_transport.specs.declared.message.Request.{Request}
use Rattle.oci_transport.specs.declared.message.Exchange.{Exchange}
use Rattle.oci_protocol.specs.Proto.{Proto, Done, Ask, Recall, Keep, Consult}
use Rattle.oci_protocol.specs.Runs.{Runs, RunPrefix, Performs, Meets, Told}
use Rattle.oci_protocol.specs.Safe.{Safe}

-- Q holds for the result of a run, after the exchanges before it and its own
pub Runs-ends-safe : {K A : Type 0} (P : K → List Exchange → Request → Type 0) (I : K → List Exchange → Type 0) (Q : K → List Exchange → A → Type 0) (p : Proto K A) (k l : K) (m n : ℕ) (seen c : List Exchange) (a : A) → Safe P I Q k seen p → Runs p k m c n l a → Q l (seen ++ c) a
unfolding Safe Runs
Runs-ends-safe P I Q (Done x) k l m n seen [] a h r = rw (append-nil seen, ← r.1, ← r.2) h
Runs-ends-safe P I Q (Done x) k l m n seen (e ∷ c) a h r = absurd r
Runs-ends-safe P I Q (Ask request reading next) k l m n seen [] a h r = absurd r
Runs-ends-safe P I Q (Ask request reading next) k l m n seen (e ∷ c) a h r = subst (λ s. Q l s a) (append_assoc seen (e ∷ []) c) (Runs-ends-safe P I Q (next r.1) k l r.0 n (seen ++ e ∷ []) c a (h.1 e m r.0 r.1 r.2) r.3)
Runs-ends-safe P I Q (Recall next) k l m n seen c a h r = Runs-ends-safe P I Q (next k) k l m n seen c a h r
Runs-ends-safe P I Q (Keep kept rest) k l m n seen c a h r = Runs-ends-safe P I Q rest kept l m n seen c a h.1 r
Runs-ends-safe P I Q (Consult next) k l m n seen c a h r = Runs-ends-safe P I Q (next r.0) k l m n seen c a (h r.0) r.1

-- Q holds for the `Ok` result of a call
pub Meets-ends-safe : {K A E : Type 0} {of_memory : E → Bool} (P : K → List Exchange → Request → Type 0) (I : K → List Exchange → Type 0) (Q : K → List Exchange → Result A E → Type 0) {p : Proto K (Result A E)} {old new : Link} {k l : K} {a : A}
    → Safe P I Q k [] p → Meets of_memory p old new k l (Ok a) → Told (λ c. Q l c (Ok a)) old new
Meets-ends-safe P I Q {p} {old} {new} {k} {l} {a} h met = record {
  conversation = met.outcome.conversation;
  told = met.outcome.told;
  holds = Runs-ends-safe P I Q p k l old.faults new.faults [] met.outcome.conversation (Ok a) h met.outcome.runs;
}

-- the same for an error other than out of memory
pub Meets-refusal-safe : {K A E : Type 0} {of_memory : E → Bool} (P : K → List Exchange → Request → Type 0) (I : K → List Exchange → Type 0) (Q : K → List Exchange → Result A E → Type 0) {p : Proto K (Result A E)} {old new : Link} {k l : K} {e : E}
    → of_memory e ≡ false → Safe P I Q k [] p → Meets of_memory p old new k l (Err e) → Told (λ c. Q l c (Err e)) old new
Meets-refusal-safe P I Q {p} {old} {new} {k} {l} {e} is h met = performed (rw is at met.outcome) where
  performed : Performs p old new k l (Err e) → Told (λ c. Q l c (Err e)) old new
  performed done = record { conversation = done.conversation; told = done.told; holds = Runs-ends-safe P I Q p k l old.faults new.faults [] done.conversation (Err e) h done.runs }

-- the client state that was stored last, after a prefix of the exchanges
pub record KeptAfter {K : Type 0} (I : K → List Exchange → Type 0) (l : K) (c : List Exchange) : Type 0 where
  pub front : List Exchange
  pub rest : List Exchange
  pub split : c ≡ front ++ rest
  pub holds : I l front

-- if a run was cut off, the client state had I when it was stored
pub RunPrefix-kept : {K A : Type 0} (P : K → List Exchange → Request → Type 0) (I : K → List Exchange → Type 0) (Q : K → List Exchange → A → Type 0) (p : Proto K A) (k l : K) (m : ℕ) (before since c : List Exchange) → I k before → Safe P I Q k (before ++ since) p → RunPrefix p k m c l → KeptAfter I l (before ++ since ++ c)
unfolding Safe RunPrefix
RunPrefix-kept P I Q (Done x) k l m before since [] i h s = record { front = before; rest = since; split = append-nil (before ++ since); holds = rw (← s) i }
RunPrefix-kept P I Q (Done x) k l m before since (e ∷ c) i h s = absurd s
RunPrefix-kept P I Q (Ask request reading next) k l m before since [] i h s = record { front = before; rest = since; split = append-nil (before ++ since); holds = rw (← s) i }
RunPrefix-kept P I Q (Ask request reading next) k l m before since (e ∷ c) i h (inl s) = record { front = before; rest = since ++ e ∷ c; split = append_assoc before since (e ∷ c); holds = rw (← s.3) i }
RunPrefix-kept P I Q (Ask request reading next) k l m before since (e ∷ c) i h (inr s) =
    let safe : Safe P I Q k (before ++ (since ++ e ∷ [])) (next s.1) = subst (λ seen. Safe P I Q k seen (next s.1)) (append_assoc before since (e ∷ [])) (h.1 e m s.0 s.1 s.2) in
    subst (KeptAfter I l) (ap (λ x. x ++ c) (sym (append_assoc before since (e ∷ []))) ∙ append_assoc (before ++ since) (e ∷ []) c) (RunPrefix-kept P I Q (next s.1) k l s.0 before (since ++ e ∷ []) c i safe s.3)
RunPrefix-kept P I Q (Recall next) k l m before since c i h s = RunPrefix-kept P I Q (next k) k l m before since c i h s
RunPrefix-kept P I Q (Consult next) k l m before since c i h s = RunPrefix-kept P I Q (next s.0) k l m before since c i (h s.0) s.1
RunPrefix-kept P I Q (Keep kept rest) k l m before since c i h (inl s) = record { front = before; rest = since ++ c; split = append_assoc before since c; holds = rw (← s.1) i }
RunPrefix-kept P I Q (Keep kept rest) k l m before since c i h (inr s) =
    let safe : Safe P I Q kept ((before ++ since) ++ []) rest = subst (λ seen. Safe P I Q kept seen rest) (sym (append-nil (before ++ since))) h.1 in
    subst (KeptAfter I l) (ap (λ x. x ++ c) (append-nil (before ++ since))) (RunPrefix-kept P I Q rest kept l m (before ++ since) [] c h.0 safe s)
