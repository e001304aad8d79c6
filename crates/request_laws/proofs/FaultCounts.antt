-- The fault counts at which the exchanges of a run were sent.
use Rattle.std.proofs.Common.{◌≡◌, ◌≤◌, ℕ, Bool, true, false, List, [], ◌∷◌, ◌++◌, Result, Ok, Err, IfErr, refl, sym, ap, subst, ◌∙◌, append_assoc, arith}
use Rattle.std.specs.Prelude.{MatchBool}
use Rattle.json_values.specs.Counts.{Increased}
use Rattle.oci_transport.specs.Link.{Link}
use Rattle.oci_transport.specs.declared.message.Request.{Request}
use Rattle.oci_transport.specs.declared.message.Exchange.{Exchange}
use Rattle.oci_protocol.specs.Proto.{Proto, Done, Ask, Recall, Keep, Consult}
use Rattle.oci_protocol.specs.Runs.{Runs, Performs, PerformsPrefix, Outcome, Meets, Told}
use Rattle.oci_protocol.specs.Safe.{Safe}
use Rattle.oci_protocol.specs.EveryRun.{EveryRun, ByResult}
use Rattle.oci_protocol.proofs.SafeEnds.{Runs-ends-safe}
use Rattle.engine_rows.specs.Causes.{Act, LastFailed}
use Rattle.engine_rows.specs.TokenCauses.{LastIs}

-- each exchange was sent at this fault count or a higher one
abbrev SentFrom : ℕ → List Exchange → Type 0
SentFrom m [] = Unit {0}
SentFrom m (e ∷ c) = (m ≤ e.faults) × SentFrom m c

sent_lower : (m n : ℕ) (c : List Exchange) → m ≤ n → SentFrom n c → SentFrom m c
sent_lower m n [] le h = tt
sent_lower m n (e ∷ c) le h = (omega (arith, h.0), sent_lower m n c le h.1)

runs_sent : {K A : Type 0} (p : Proto K A) (k l : K) (m n : ℕ) (c : List Exchange) (a : A) → Runs p k m c n l a → SentFrom m c
unfolding Runs
runs_sent (Done x) k l m n [] a r = tt
runs_sent (Done x) k l m n (e ∷ c) a r = absurd r
runs_sent (Ask request reading next) k l m n [] a r = tt
runs_sent (Ask request reading next) k l m n (e ∷ c) a r = (omega (arith, r.2.faults_is), sent_lower m r.0 c r.2.count (runs_sent (next r.1) k l r.0 n c a r.3))
runs_sent (Recall next) k l m n c a r = runs_sent (next k) k l m n c a r
runs_sent (Keep kept rest) k l m n c a r = runs_sent rest kept l m n c a r
runs_sent (Consult next) k l m n c a r = runs_sent (next r.0) k l m n c a r.1

sent_last : (m : ℕ) (c : List Exchange) (last : Exchange) → SentFrom m (c ++ last ∷ []) → m ≤ last.faults
sent_last m [] last h = h.0
sent_last m (e ∷ c) last h = sent_last m c last h.1

-- its last exchange failed
pub failed_last : {Own : Act → Type 0} {c : List Exchange} {n : ℕ} → LastFailed Own c n → LastIs (λ e. Increased e.faults n) c
failed_last f = record { before = f.asked.front ++ f.asked.redirects; last = f.last; split = f.asked.split ∙ sym (append_assoc f.asked.front f.asked.redirects (f.last ∷ [])); holds = f.rose }

pub last_after : {P : Exchange → Type 0} (c : List Exchange) {d : List Exchange} → LastIs P d → LastIs P (c ++ d)
last_after c h = record { before = c ++ h.before; last = h.last; split = ap (λ x. c ++ x) h.split ∙ sym (append_assoc c h.before (h.last ∷ [])); holds = h.holds }

-- the fault count increased during the call
last_rose : (m n : ℕ) (c : List Exchange) → SentFrom m c → LastIs (λ e. Increased e.faults n) c → Increased m n
last_rose m n c sent f =
    let first : m ≤ f.last.faults = sent_last m f.before f.last (subst (SentFrom m) f.split sent) in
    omega (arith, first, f.holds)

-- the call returns the error e only if the fault count increased
fault_by : {K A E : Type 0} {of_memory : E → Bool} (P : ℕ → List Exchange → ℕ → A → Type 0) (R : ℕ → List Exchange → ℕ → E → Type 0) (p : Proto K (Result A E)) (e : E) {old new : Link} {k l : K} → of_memory e ≡ false → ((m n : ℕ) (c : List Exchange) → SentFrom m c → R m c n e → Increased m n) → EveryRun (ByResult P R) p → Meets of_memory p old new k l (Err e) → Increased old.faults new.faults
fault_by {K} {A} {E} {of_memory} P R p e {old} {new} {k} {l} other rises h met = performed (rw other at met.outcome) where
  performed : Performs p old new k l (Err e) → Increased old.faults new.faults
  performed run = rises old.faults new.faults run.conversation (runs_sent p k l old.faults new.faults run.conversation (Err e) run.runs) (h.shows k l old.faults new.faults run.conversation (Err e) run.runs)

-- if its last exchange failed
pub fault_last : {K A E : Type 0} {of_memory : E → Bool} (P : ℕ → List Exchange → ℕ → A → Type 0) (R : ℕ → List Exchange → ℕ → E → Type 0) (p : Proto K (Result A E)) (e : E) {old new : Link} {k l : K} → of_memory e ≡ false → ((m n : ℕ) (c : List Exchange) → R m c n e → LastIs (λ x. Increased x.faults n) c) → EveryRun (ByResult P R) p → Meets of_memory p old new k l (Err e) → Increased old.faults new.faults
fault_last P R p e other fails h met = fault_by P R p e other (λ m n c sent r. last_rose m n c sent (fails m n c r)) h met

-- the exposed exchanges have the cause of the refusal; out of memory has none
pub refusal_told : {K A E : Type 0} {of_memory : E → Bool} (P : ℕ → List Exchange → ℕ → A → Type 0) (R : ℕ → List Exchange → ℕ → E → Type 0) (p : Proto K (Result A E)) {old new : Link} {k l : K} {r : Result A E} → ((m n : ℕ) (c : List Exchange) (e : E) → of_memory e ≡ true → R m c n e) → EveryRun (ByResult P R) p → Meets of_memory p old new k l r → IfErr r (λ e. Told (λ c. R old.faults c new.faults e) old new)
refusal_told {K} {A} {E} {of_memory} P R p {old} {new} {k} {l} {r} free h met = by_result r met.outcome where
  by_memory : (b : Bool) (e : E) → of_memory e ≡ b → MatchBool b (PerformsPrefix p old new k l) (Performs p old new k l (Err e)) → Told (λ c. R old.faults c new.faults e) old new
  by_memory true e is run = record { conversation = run.conversation; told = run.told; holds = free old.faults new.faults run.conversation e is }
  by_memory false e is run = record { conversation = run.conversation; told = run.told; holds = h.shows k l old.faults new.faults run.conversation (Err e) run.runs }

  by_result : (r : Result A E) → Outcome of_memory p old new k l r → IfErr r (λ e. Told (λ c. R old.faults c new.faults e) old new)
  by_result (Ok a) run = tt
  by_result (Err e) run = by_memory (of_memory e) e refl run

-- the same if the cause follows from the runs of the protocol and from its safety
pub refusal_both : {K A E : Type 0} {of_memory : E → Bool} (W : K → List Exchange → Request → Type 0) (P : ℕ → List Exchange → ℕ → A → Type 0) (R : ℕ → List Exchange → ℕ → E → Type 0) (I : K → List Exchange → Type 0) (Q : K → List Exchange → Result A E → Type 0) (T : List Exchange → ℕ → E → Type 0) (p : Proto K (Result A E)) {old new : Link} {k l : K} {r : Result A E}
    → ((n : ℕ) (c : List Exchange) (e : E) → of_memory e ≡ true → T c n e) → ((m n : ℕ) (c : List Exchange) (e : E) → R m c n e → Q l c (Err e) → T c n e) → EveryRun (ByResult P R) p → Safe W I Q k [] p → Meets of_memory p old new k l r → IfErr r (λ e. Told (λ c. T c new.faults e) old new)
refusal_both {K} {A} {E} {of_memory} W P R I Q T p {old} {new} {k} {l} {r} free both h safe met = by_result r met.outcome where
  by_memory : (b : Bool) (e : E) → of_memory e ≡ b → MatchBool b (PerformsPrefix p old new k l) (Performs p old new k l (Err e)) → Told (λ c. T c new.faults e) old new
  by_memory true e is run = record { conversation = run.conversation; told = run.told; holds = free new.faults run.conversation e is }
  by_memory false e is run = record {
    conversation = run.conversation;
    told = run.told;
    holds = both old.faults new.faults run.conversation e (h.shows k l old.faults new.faults run.conversation (Err e) run.runs) (Runs-ends-safe W I Q p k l old.faults new.faults [] run.conversation (Err e) safe run.runs);
  }

  by_result : (r : Result A E) → Outcome of_memory p old new k l r → IfErr r (λ e. Told (λ c. T c new.faults e) old new)
  by_result (Ok a) run = tt
  by_result (Err e) run = by_memory (of_memory e) e refl run
