-- Runs of two protocols in sequence, whole or cut off.
use Rattle.std.proofs.Common.{◌≡◌, ◌⊎◌, inl, inr, ℕ, Bool, true, false, List, [], ◌∷◌, ◌++◌, Result, Ok, Err, refl, sym, ap, subst, ◌∙◌, append_assoc, append-nil}
use Rattle.std.specs.Prelude.{MatchBool}
use Rattle.oci_transport.specs.Link.{Link}
use Rattle.oci_transport.specs.declared.message.Request.{Request}
use Rattle.oci_transport.specs.declared.message.Exchange.{Exchange}
use Rattle.oci_protocol.specs.Proto.{Proto, Done, Ask, Recall, Keep, Consult, bind}
use Rattle.oci_protocol.specs.Runs.{Runs, RunPrefix, Performs, PerformsPrefix, Outcome, Meets, Told}
use Rattle.oci_protocol.specs.Safe.{Safe, EachAfter}
use Rattle.oci_protocol.proofs.Parts.{Runs-parts}
use Rattle.oci_protocol.proofs.Safety.{Runs-safe, RunPrefix-safe}
use Rattle.request_laws.proofs.SafeKeeps.{Lasts, Runs-keeps, RunPrefix-keeps}

-- a prefix of a run, or a whole one
abbrev pub Behind : {K A : Type 0} → Proto K A → K → ℕ → List Exchange → K → Type 0
Behind {K} {A} p k m c l = RunPrefix p k m c l ⊎ ((n : ℕ) × (a : A) × Runs p k m c n l a)

-- it is a whole run of the first, and one of these of the second
pub record Parted {K A B : Type 0} (p : Proto K A) (f : A → Proto K B) (k : K) (m : ℕ) (c : List Exchange) (l : K) : Type 0 where
  pub first : List Exchange
  pub second : List Exchange
  pub joined : c ≡ first ++ second
  pub between : K
  pub count : ℕ
  pub answer : A
  pub runs : Runs p k m first count between answer
  pub behind : Behind (f answer) between count second l

later : {K A B : Type 0} (p : Proto K A) (q : Proto K A) (f : A → Proto K B) (k : K) (m n : ℕ) (c d : List Exchange) (e : List Exchange) (j l : K) → c ≡ e ++ d → ((first : List Exchange) (count : ℕ) (between : K) (a : A) → Runs q j n first count between a → Runs p k m (e ++ first) count between a) → RunPrefix q j n d l ⊎ Parted q f j n d l → (RunPrefix q j n d l → RunPrefix p k m c l) → RunPrefix p k m c l ⊎ Parted p f k m c l
later p q f k m n c d e j l is runs (inl s) stops = inl (stops s)
later p q f k m n c d e j l is runs (inr h) stops = inr (record {
  first = e ++ h.first;
  second = h.second;
  joined = is ∙ ap (λ x. e ++ x) h.joined ∙ sym (append_assoc e h.first h.second);
  between = h.between;
  count = h.count;
  answer = h.answer;
  runs = runs h.first h.count h.between h.answer h.runs;
  behind = h.behind;
})

RunPrefix-parts : {K A B : Type 0} (p : Proto K A) (f : A → Proto K B) (k : K) (m : ℕ) (c : List Exchange) (l : K) → RunPrefix (bind p f) k m c l → RunPrefix p k m c l ⊎ Parted p f k m c l
unfolding RunPrefix Runs bind
RunPrefix-parts (Done x) f k m c l s = inr (record { first = []; second = c; joined = refl; between = k; count = m; answer = x; runs = (refl, refl, refl); behind = inl s })
RunPrefix-parts (Ask request reading next) f k m [] l s = inl s
RunPrefix-parts (Ask request reading next) f k m (e ∷ c) l (inl s) = inl (inl s)
RunPrefix-parts (Ask request reading next) f k m (e ∷ c) l (inr s) = later (Ask request reading next) (next s.1) f k m s.0 (e ∷ c) c (e ∷ []) k l refl (λ first count between a r. (s.0, s.1, s.2, r)) (RunPrefix-parts (next s.1) f k s.0 c l s.3) (λ h. inr (s.0, s.1, s.2, h))
RunPrefix-parts (Recall next) f k m c l s = later (Recall next) (next k) f k m m c c [] k l refl (λ first count between a r. r) (RunPrefix-parts (next k) f k m c l s) (λ h. h)
RunPrefix-parts (Consult next) f k m c l s = later (Consult next) (next s.0) f k m m c c [] k l refl (λ first count between a r. (s.0, r)) (RunPrefix-parts (next s.0) f k m c l s.1) (λ h. (s.0, h))
RunPrefix-parts (Keep kept rest) f k m c l (inl s) = inl (inl s)
RunPrefix-parts (Keep kept rest) f k m c l (inr s) = later (Keep kept rest) rest f k m m c c [] kept l refl (λ first count between a r. r) (RunPrefix-parts rest f kept m c l s) (λ h. inr h)

cut_parts : {K A B : Type 0} (p : Proto K A) (f : A → Proto K B) (k : K) (m : ℕ) (c : List Exchange) (l : K) → RunPrefix p k m c l ⊎ Parted p f k m c l → Behind p k m c l ⊎ Parted p f k m c l
cut_parts p f k m c l (inl s) = inl (inl s)
cut_parts p f k m c l (inr h) = inr h

pub behind_parts : {K A B : Type 0} (p : Proto K A) (f : A → Proto K B) (k : K) (m : ℕ) (c : List Exchange) (l : K) → Behind (bind p f) k m c l → Behind p k m c l ⊎ Parted p f k m c l
behind_parts p f k m c l (inl s) = cut_parts p f k m c l (RunPrefix-parts p f k m c l s)
behind_parts p f k m c l (inr (n, b, r)) =
    let parts = Runs-parts p f k m c n l b r in
    inr (record { first = parts.first; second = parts.second; joined = parts.joined; between = parts.between; count = parts.count; answer = parts.answer; runs = parts.runs_first; behind = inr (n, b, parts.runs_second) })

-- a protocol that is done has made no request
pub behind_done : {K A : Type 0} (x : A) (k : K) (m : ℕ) (c : List Exchange) (l : K) → Behind (Done x) k m c l → (c ≡ []) × (k ≡ l)
unfolding Runs RunPrefix
behind_done x k m [] l (inl s) = (refl, s)
behind_done x k m (e ∷ c) l (inl s) = absurd s
behind_done x k m [] l (inr (n, a, r)) = (refl, r.1)
behind_done x k m (e ∷ c) l (inr (n, a, r)) = absurd r

-- a call that met the protocol has one of these
pub met_behind : {K A E : Type 0} {of_memory : E → Bool} {p : Proto K (Result A E)} {old new : Link} {k l : K} {r : Result A E} → Meets of_memory p old new k l r → Told (λ c. Behind p k old.faults c l) old new
met_behind {K} {A} {E} {of_memory} {p} {old} {new} {k} {l} {r} met = by_result r met.outcome where
  performed : (r : Result A E) → Performs p old new k l r → Told (λ c. Behind p k old.faults c l) old new
  performed r done = record { conversation = done.conversation; told = done.told; holds = inr (new.faults, r, done.runs) }

  by_memory : (b : Bool) (e : E) → MatchBool b (PerformsPrefix p old new k l) (Performs p old new k l (Err e)) → Told (λ c. Behind p k old.faults c l) old new
  by_memory true e cut = record { conversation = cut.conversation; told = cut.told; holds = inl cut.stops }
  by_memory false e done = performed (Err e) done

  by_result : (r : Result A E) → Outcome of_memory p old new k l r → Told (λ c. Behind p k old.faults c l) old new
  by_result (Ok a) done = performed (Ok a) done
  by_result (Err e) outcome = by_memory (of_memory e) e outcome

-- ---- safety

pub each_more : (P : List Exchange → Request → Type 0) (a c d : List Exchange) → EachAfter P a c → EachAfter P (a ++ c) d → EachAfter P a (c ++ d)
each_more P a [] d h g = subst (λ z. EachAfter P z d) (append-nil a) g
each_more P a (e ∷ c) d h g = (h.0, each_more P (a ++ e ∷ []) c d h.1 (subst (λ z. EachAfter P z d) (sym (append_assoc a (e ∷ []) c)) g))

pub behind_each : {K A : Type 0} (P : List Exchange → Request → Type 0) (I : K → List Exchange → Type 0) (Q : K → List Exchange → A → Type 0) (p : Proto K A) (k l : K) (m : ℕ) (seen c : List Exchange) → Safe (λ k. P) I Q k seen p → Behind p k m c l → EachAfter P seen c
behind_each P I Q p k l m seen c h (inl s) = RunPrefix-safe P I Q p k l m seen c h s
behind_each P I Q p k l m seen c h (inr (n, a, r)) = (Runs-safe P I Q p k l m n seen c a h r).each

pub behind_keeps : {K A : Type 0} (P : K → List Exchange → Request → Type 0) (I : K → List Exchange → Type 0) (Q : K → List Exchange → A → Type 0) (p : Proto K A) (k l : K) (m : ℕ) (seen c : List Exchange) → Lasts I → I k seen → Safe P I Q k seen p → Behind p k m c l → I l (seen ++ c)
behind_keeps P I Q p k l m seen c lasts i h (inl s) = RunPrefix-keeps P I Q p k l m seen c lasts i h s
behind_keeps P I Q p k l m seen c lasts i h (inr (n, a, r)) = Runs-keeps P I Q p k l m n seen c a lasts i h r
