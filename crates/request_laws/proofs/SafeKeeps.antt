-- The invariant of a safe protocol holds at its end, if it is preserved by further exchanges.
use Rattle.std.proofs.Common.{◌≡◌, inl, inr, ℕ, Bool, true, false, List, [], ◌∷◌, ◌++◌, Result, Ok, Err, sym, subst, append_assoc, append-nil}
use Rattle.std.specs.Prelude.{MatchBool}
use Rattle.oci_transport.specs.Link.{Link}
use Rattle.oci_transport.specs.declared.message.Request.{Request}
use Rattle.oci_transport.specs.declared.message.Exchange.{Exchange}
use Rattle.oci_protocol.specs.Proto.{Proto, Done, Ask, Recall, Keep, Consult}
use Rattle.oci_protocol.specs.Runs.{Runs, RunPrefix, Performs, PerformsPrefix, Outcome, Meets, Told}
use Rattle.oci_protocol.specs.Safe.{Safe, EachAfter}
use Rattle.oci_protocol.proofs.Safety.{Runs-safe, RunPrefix-safe}

-- the invariant is preserved
abbrev pub Lasts : {K : Type 0} → (K → List Exchange → Type 0) → Type 0
Lasts {K} I = (k : K) (c d : List Exchange) → I k c → I k (c ++ d)

ends_here : {K : Type 0} (I : K → List Exchange → Type 0) (k l : K) (seen : List Exchange) → k ≡ l → I k seen → I l (seen ++ [])
ends_here I k l seen same i = subst (I l) (sym (append-nil seen)) (subst (λ k. I k seen) same i)

pub Runs-keeps : {K A : Type 0} (P : K → List Exchange → Request → Type 0) (I : K → List Exchange → Type 0) (Q : K → List Exchange → A → Type 0) (p : Proto K A) (k l : K) (m n : ℕ) (seen c : List Exchange) (a : A) → Lasts I → I k seen → Safe P I Q k seen p → Runs p k m c n l a → I l (seen ++ c)
unfolding Safe Runs
Runs-keeps P I Q (Done x) k l m n seen [] a lasts i h r = ends_here I k l seen r.1 i
Runs-keeps P I Q (Done x) k l m n seen (e ∷ c) a lasts i h r = absurd r
Runs-keeps P I Q (Ask request reading next) k l m n seen [] a lasts i h r = absurd r
Runs-keeps P I Q (Ask request reading next) k l m n seen (e ∷ c) a lasts i h r = subst (I l) (append_assoc seen (e ∷ []) c) (Runs-keeps P I Q (next r.1) k l r.0 n (seen ++ e ∷ []) c a lasts (lasts k seen (e ∷ []) i) (h.1 e m r.0 r.1 r.2) r.3)
Runs-keeps P I Q (Recall next) k l m n seen c a lasts i h r = Runs-keeps P I Q (next k) k l m n seen c a lasts i h r
Runs-keeps P I Q (Keep kept rest) k l m n seen c a lasts i h r = Runs-keeps P I Q rest kept l m n seen c a lasts h.0 h.1 r
Runs-keeps P I Q (Consult next) k l m n seen c a lasts i h r = Runs-keeps P I Q (next r.0) k l m n seen c a lasts i (h r.0) r.1

pub RunPrefix-keeps : {K A : Type 0} (P : K → List Exchange → Request → Type 0) (I : K → List Exchange → Type 0) (Q : K → List Exchange → A → Type 0) (p : Proto K A) (k l : K) (m : ℕ) (seen c : List Exchange) → Lasts I → I k seen → Safe P I Q k seen p → RunPrefix p k m c l → I l (seen ++ c)
unfolding Safe RunPrefix
RunPrefix-keeps P I Q (Done x) k l m seen [] lasts i h s = ends_here I k l seen s i
RunPrefix-keeps P I Q (Done x) k l m seen (e ∷ c) lasts i h s = absurd s
RunPrefix-keeps P I Q (Ask request reading next) k l m seen [] lasts i h s = ends_here I k l seen s i
RunPrefix-keeps P I Q (Ask request reading next) k l m seen (e ∷ c) lasts i h (inl s) = lasts l seen (e ∷ c) (subst (λ k. I k seen) s.3 i)
RunPrefix-keeps P I Q (Ask request reading next) k l m seen (e ∷ c) lasts i h (inr s) = subst (I l) (append_assoc seen (e ∷ []) c) (RunPrefix-keeps P I Q (next s.1) k l s.0 (seen ++ e ∷ []) c lasts (lasts k seen (e ∷ []) i) (h.1 e m s.0 s.1 s.2) s.3)
RunPrefix-keeps P I Q (Recall next) k l m seen c lasts i h s = RunPrefix-keeps P I Q (next k) k l m seen c lasts i h s
RunPrefix-keeps P I Q (Consult next) k l m seen c lasts i h s = RunPrefix-keeps P I Q (next s.0) k l m seen c lasts i (h s.0) s.1
RunPrefix-keeps P I Q (Keep kept rest) k l m seen c lasts i h (inl s) = lasts l seen c (subst (λ k. I k seen) s.1 i)
RunPrefix-keeps P I Q (Keep kept rest) k l m seen c lasts i h (inr s) = RunPrefix-keeps P I Q rest kept l m seen c lasts h.0 h.1 s

-- and it holds for each result
pub Safe-keeps : {K A : Type 0} (P : K → List Exchange → Request → Type 0) (I : K → List Exchange → Type 0) (Q : K → List Exchange → A → Type 0) (p : Proto K A) (k : K) (seen : List Exchange) → Lasts I → I k seen → Safe P I Q k seen p → Safe P I (λ l c a. I l c × Q l c a) k seen p
unfolding Safe
Safe-keeps P I Q (Done x) k seen lasts i h = (i, h)
Safe-keeps P I Q (Ask request reading next) k seen lasts i h = (h.0, λ e before after reply r. Safe-keeps P I Q (next reply) k (seen ++ e ∷ []) lasts (lasts k seen (e ∷ []) i) (h.1 e before after reply r))
Safe-keeps P I Q (Recall next) k seen lasts i h = Safe-keeps P I Q (next k) k seen lasts i h
Safe-keeps P I Q (Keep kept rest) k seen lasts i h = (h.0, Safe-keeps P I Q rest kept seen lasts h.0 h.1)
Safe-keeps P I Q (Consult next) k seen lasts i h = λ said. Safe-keeps P I Q (next said) k seen lasts i (h said)

-- it holds for a call's requests and for the client state after it, whatever it returned
pub Meets-within : {K A E : Type 0} {of_memory : E → Bool} (P : List Exchange → Request → Type 0) (I : K → List Exchange → Type 0) (Q : K → List Exchange → Result A E → Type 0) (R : List Exchange → Type 0) {p : Proto K (Result A E)} {old new : Link} {k l : K} {r : Result A E} → Lasts I → I k []
    → ((c : List Exchange) → EachAfter P [] c → I l c → R c) → Safe (λ k. P) I Q k [] p → Meets of_memory p old new k l r → Told R old new
Meets-within {K} {A} {E} {of_memory} P I Q R {p} {old} {new} {k} {l} {r} lasts first gives h met = by_result r met.outcome where
  performed : (r : Result A E) → Performs p old new k l r → Told R old new
  performed r done = record { conversation = done.conversation; told = done.told; holds = gives done.conversation (Runs-safe P I Q p k l old.faults new.faults [] done.conversation r h done.runs).each (Runs-keeps (λ k. P) I Q p k l old.faults new.faults [] done.conversation r lasts first h done.runs) }

  broken : PerformsPrefix p old new k l → Told R old new
  broken cut = record { conversation = cut.conversation; told = cut.told; holds = gives cut.conversation (RunPrefix-safe P I Q p k l old.faults [] cut.conversation h cut.stops) (RunPrefix-keeps (λ k. P) I Q p k l old.faults [] cut.conversation lasts first h cut.stops) }

  by_memory : (b : Bool) (e : E) → MatchBool b (PerformsPrefix p old new k l) (Performs p old new k l (Err e)) → Told R old new
  by_memory true e run = broken run
  by_memory false e run = performed (Err e) run

  by_result : (r : Result A E) → Outcome of_memory p old new k l r → Told R old new
  by_result (Ok a) run = performed (Ok a) run
  by_result (Err e) run = by_memory (of_memory e) e run
