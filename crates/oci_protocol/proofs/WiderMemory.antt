-- What holds for a protocol holds for it over a larger client state.
use Rattle.std.proofs.Common.{◌≡◌, inl, inr, ℕ, suc, Bool, true, false, List, [], None, ◌∷◌, ◌++◌, Result, Ok, Err, ap}
use Rattle.std.specs.Prelude.{MatchBool}
use Rattle.oci_transport.specs.Link.{Link, Answering}
use Rattle.oci_transport.specs.declared.message.Request.{Request}
use Rattle.oci_transport.specs.declared.message.Exchange.{Exchange}
use Rattle.oci_protocol.specs.Proto.{SinkFailed, Proto, Done, Ask, Recall, Keep, Consult}
use Rattle.oci_protocol.specs.Runs.{Runs, RunsBy, RunPrefix, Performs, PerformsPrefix, Outcome, Meets}
use Rattle.oci_protocol.specs.Evaluation.{reply_to, Evaluation, evaluation, Evaluates, EndsOnSinkFault}
use Rattle.oci_protocol.specs.Ends.{Ends}
use Rattle.oci_protocol.specs.Lift.{lifted}
use Rattle.oci_protocol.specs.Safe.{Safe}
use Rattle.oci_protocol.specs.EveryRun.{EveryRun, EveryRunKept}

-- ---- runs

-- a run is a run over the larger client state, whose other part is unchanged
pub Runs-lifted : {K C A : Type 0} (p : Proto K A) (x : C) (k l : K) (m n : ℕ) (c : List Exchange) (a : A) → Runs p k m c n l a → Runs (lifted p) (k, x) m c n (l, x) a
unfolding Runs lifted
Runs-lifted (Done y) x k l m n [] a r = (r.0, ap (λ k. (k, x)) r.1, r.2)
Runs-lifted (Done y) x k l m n (e ∷ c) a r = absurd r
Runs-lifted (Ask request reading next) x k l m n [] a r = absurd r
Runs-lifted (Ask request reading next) x k l m n (e ∷ c) a r = (r.0, r.1, r.2, Runs-lifted (next r.1) x k l r.0 n c a r.3)
Runs-lifted (Recall next) x k l m n c a r = Runs-lifted (next k) x k l m n c a r
Runs-lifted (Keep kept rest) x k l m n c a r = Runs-lifted rest x kept l m n c a r
Runs-lifted (Consult next) x k l m n c a r = (r.0, Runs-lifted (next r.0) x k l m n c a r.1)

RunsBy-lifted : {K C A : Type 0} (t : Answering) (place : ℕ) (p : Proto K A) (x : C) (k l : K) (m n : ℕ) (c : List Exchange) (a : A) → RunsBy t place p k m c n l a → RunsBy t place (lifted p) (k, x) m c n (l, x) a
unfolding RunsBy lifted
RunsBy-lifted t place (Done y) x k l m n [] a r = (r.0, ap (λ k. (k, x)) r.1, r.2)
RunsBy-lifted t place (Done y) x k l m n (e ∷ c) a r = absurd r
RunsBy-lifted t place (Ask request reading next) x k l m n [] a r = absurd r
RunsBy-lifted t place (Ask request reading next) x k l m n (e ∷ c) a r = (r.0, r.1, r.2, r.3, RunsBy-lifted t (suc place) (next r.1) x k l r.0 n c a r.4)
RunsBy-lifted t place (Recall next) x k l m n c a r = RunsBy-lifted t place (next k) x k l m n c a r
RunsBy-lifted t place (Keep kept rest) x k l m n c a r = RunsBy-lifted t place rest x kept l m n c a r
RunsBy-lifted t place (Consult next) x k l m n c a r = (r.0, RunsBy-lifted t place (next r.0) x k l m n c a r.1)

-- a run over the larger client state is a run
pub Runs-unlifted : {K C A : Type 0} (p : Proto K A) (k l : K × C) (m n : ℕ) (c : List Exchange) (a : A) → Runs (lifted p) k m c n l a → Runs p k.0 m c n l.0 a × (k.1 ≡ l.1)
unfolding Runs lifted
Runs-unlifted (Done y) k l m n [] a r = ((r.0, ap (λ k. k.0) r.1, r.2), ap (λ k. k.1) r.1)
Runs-unlifted (Done y) k l m n (e ∷ c) a r = absurd r
Runs-unlifted (Ask request reading next) k l m n [] a r = absurd r
Runs-unlifted (Ask request reading next) k l m n (e ∷ c) a r = let rest = Runs-unlifted (next r.1) k l r.0 n c a r.3 in ((r.0, r.1, r.2, rest.0), rest.1)
Runs-unlifted (Recall next) k l m n c a r = Runs-unlifted (next k.0) k l m n c a r
Runs-unlifted (Keep kept rest) k l m n c a r = Runs-unlifted rest (kept, k.1) l m n c a r
Runs-unlifted (Consult next) k l m n c a r = let rest = Runs-unlifted (next r.0) k l m n c a r.1 in ((r.0, rest.0), rest.1)

RunPrefix-lifted : {K C A : Type 0} (p : Proto K A) (x : C) (k l : K) (m : ℕ) (c : List Exchange) → RunPrefix p k m c l → RunPrefix (lifted p) (k, x) m c (l, x)
unfolding RunPrefix lifted
RunPrefix-lifted (Done y) x k l m [] s = ap (λ k. (k, x)) s
RunPrefix-lifted (Done y) x k l m (e ∷ c) s = absurd s
RunPrefix-lifted (Ask request reading next) x k l m [] s = ap (λ k. (k, x)) s
RunPrefix-lifted (Ask request reading next) x k l m (e ∷ c) (inl s) = inl (s.0, s.1, s.2, ap (λ k. (k, x)) s.3)
RunPrefix-lifted (Ask request reading next) x k l m (e ∷ c) (inr s) = inr (s.0, s.1, s.2, RunPrefix-lifted (next s.1) x k l s.0 c s.3)
RunPrefix-lifted (Recall next) x k l m c s = RunPrefix-lifted (next k) x k l m c s
RunPrefix-lifted (Keep kept rest) x k l m c (inl s) = inl (s.0, ap (λ k. (k, x)) s.1)
RunPrefix-lifted (Keep kept rest) x k l m c (inr s) = inr (RunPrefix-lifted rest x kept l m c s)
RunPrefix-lifted (Consult next) x k l m c s = (s.0, RunPrefix-lifted (next s.0) x k l m c s.1)

performs : {K C A : Type 0} (p : Proto K A) (x : C) {old new : Link} {k l : K} {a : A} → Performs p old new k l a → Performs (lifted p) old new (k, x) (l, x) a
performs p x {old} {new} {k} {l} {a} h = record { conversation = h.conversation; told = h.told; runs = Runs-lifted p x k l old.faults new.faults h.conversation a h.runs; runs_by = λ t before by told. RunsBy-lifted t _ p x k l old.faults new.faults h.conversation a (h.runs_by t before by told) }

breaks : {K C A : Type 0} (p : Proto K A) (x : C) {old new : Link} {k l : K} → PerformsPrefix p old new k l → PerformsPrefix (lifted p) old new (k, x) (l, x)
breaks p x {old} {new} {k} {l} h = record { conversation = h.conversation; told = h.told; stops = RunPrefix-lifted p x k l old.faults h.conversation h.stops; count = h.count }

-- a call that knows only the first part leaves the second unchanged
pub Meets-lifted : {K C A E : Type 0} {of_memory : E → Bool} {p : Proto K (Result A E)} (x : C) {old new : Link} {k l : K} {r : Result A E} → Meets of_memory p old new k l r → Meets of_memory (lifted p) old new (k, x) (l, x) r
Meets-lifted {K} {C} {A} {E} {of_memory} {p} x {old} {new} {k} {l} {r} met = record { outcome = by_result r met.outcome } where
  by_memory : (b : Bool) (e : E) → MatchBool b (PerformsPrefix p old new k l) (Performs p old new k l (Err e)) → MatchBool b (PerformsPrefix (lifted p) old new (k, x) (l, x)) (Performs (lifted p) old new (k, x) (l, x) (Err e))
  by_memory true e h = breaks p x h
  by_memory false e h = performs p x h

  by_result : (r : Result A E) → Outcome of_memory p old new k l r → Outcome of_memory (lifted p) old new (k, x) (l, x) r
  by_result (Ok a) h = performs p x h
  by_result (Err e) h = by_memory (of_memory e) e h

-- ---- what every run has

pub EveryRun-lifted : {K C A : Type 0} (Q : ℕ → List Exchange → ℕ → A → Type 0) (p : Proto K A) → EveryRun Q p → EveryRun {K = K × C} Q (lifted p)
EveryRun-lifted Q p h = record { shows = λ k l m n c a r. h.shows k.0 l.0 m n c a (Runs-unlifted p k l m n c a r).0 }

-- the same with the client state; its other part is unchanged
pub EveryRunKept-lifted : {K C A : Type 0} (Q : K → ℕ → List Exchange → ℕ → K → A → Type 0) (p : Proto K A) → EveryRunKept Q p → EveryRunKept {K = K × C} (λ k m c n l a. Q k.0 m c n l.0 a × (k.1 ≡ l.1)) (lifted p)
EveryRunKept-lifted Q p h = record { shows = λ k l m n c a r. let parts = Runs-unlifted p k l m n c a r in (h.shows k.0 l.0 m n c a parts.0, parts.1) }

-- what may be requested, stored and returned
pub Safe-lifted : {K C A : Type 0} (P : K → List Exchange → Request → Type 0) (I : K → List Exchange → Type 0) (Q : K → List Exchange → A → Type 0) (p : Proto K A) (k : K) (x : C) (seen : List Exchange) → Safe P I Q k seen p → Safe (λ (k : K × C). P k.0) (λ (k : K × C). I k.0) (λ (k : K × C). Q k.0) (k, x) seen (lifted p)
unfolding Safe lifted
Safe-lifted P I Q (Done a) k x seen h = h
Safe-lifted P I Q (Ask request reading next) k x seen h = (h.0, λ e before after reply r. Safe-lifted P I Q (next reply) k x (seen ++ e ∷ []) (h.1 e before after reply r))
Safe-lifted P I Q (Recall next) k x seen h = Safe-lifted P I Q (next k) k x seen h
Safe-lifted P I Q (Keep kept rest) k x seen h = (h.0, Safe-lifted P I Q rest kept x seen h.1)
Safe-lifted P I Q (Consult next) k x seen h = λ said. Safe-lifted P I Q (next said) k x seen (h said)

pub Ends-lifted : {K A : Type 0} (C : Type 0) (Q : A → Type 0) (p : Proto K A) → Ends Q p → Ends Q (lifted {C = C} p)
unfolding Ends lifted
Ends-lifted C Q (Done a) h = h
Ends-lifted C Q (Ask request reading next) h = λ reply. Ends-lifted C Q (next reply) (h reply)
Ends-lifted C Q (Recall next) h = λ k. Ends-lifted C Q (next k.0) (h k.0)
Ends-lifted C Q (Keep kept rest) h = λ k. Ends-lifted C Q rest h
Ends-lifted C Q (Consult next) h = λ said. Ends-lifted C Q (next said) (h said)

pub EndsOnSinkFault-lifted : {K A : Type 0} (C : Type 0) (x : A) (p : Proto K A) → EndsOnSinkFault x p → EndsOnSinkFault x (lifted {C = C} p)
unfolding EndsOnSinkFault lifted
EndsOnSinkFault-lifted C x (Done a) h = h
EndsOnSinkFault-lifted C x (Ask request reading next) h = (Ends-lifted C (λ a. a ≡ x) (next SinkFailed) h.0, λ reply. EndsOnSinkFault-lifted C x (next reply) (h.1 reply))
EndsOnSinkFault-lifted C x (Recall next) h = λ k. EndsOnSinkFault-lifted C x (next k.0) (h k.0)
EndsOnSinkFault-lifted C x (Keep kept rest) h = λ k. EndsOnSinkFault-lifted C x rest h
EndsOnSinkFault-lifted C x (Consult next) h = absurd h

-- ---- the evaluation over a table

pub evaluation-lifted : {K C A : Type 0} (t : Answering) (p : Proto K A) (x : C) (place after : ℕ) (k l : K) (a : A) → evaluation t p place k ≡ record { place = after; kept = l; answer = a } → evaluation t (lifted p) place (k, x) ≡ record { place = after; kept = (l, x); answer = a }
unfolding evaluation lifted
evaluation-lifted {K} {C} {A} t (Done y) x place after k l a h = ap (λ (end : Evaluation K A). record { place = end.place; kept = (end.kept, x); answer = end.answer }) h
evaluation-lifted t (Ask request reading next) x place after k l a h = evaluation-lifted t (next (reply_to reading (t.answer place request))) x (suc place) after k l a h
evaluation-lifted t (Recall next) x place after k l a h = evaluation-lifted t (next k) x place after k l a h
evaluation-lifted t (Keep kept rest) x place after k l a h = evaluation-lifted t rest x place after kept l a h
evaluation-lifted t (Consult next) x place after k l a h = evaluation-lifted t (next None) x place after k l a h

pub Evaluates-lifted : {K C A E : Type 0} {t : Answering} {p : Proto K (Result A E)} (x : C) {place after : ℕ} {k l : K} {a : A} → Evaluates t p place after k l a → Evaluates t (lifted p) place after (k, x) (l, x) a
Evaluates-lifted {t = t} {p = p} x {place = place} {after = after} {k = k} {l = l} {a = a} h = record { drives = evaluation-lifted t p x place after k l (Ok a) h.drives }
