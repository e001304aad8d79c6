-- The result of a protocol over a larger client state, and facts that hold besides it.
use Rattle.std.proofs.Common.{◌≡◌, Result, refl, sym, subst}
use Rattle.oci_transport.specs.declared.message.Request.{Request}
use Rattle.oci_transport.specs.declared.message.Answer.{Answer}
use Rattle.oci_protocol.specs.Proto.{Proto, Done, Ask, Recall, Keep, Consult}
use Rattle.oci_protocol.specs.Runs.{head_part}
use Rattle.oci_protocol.specs.Evaluation.{reply_of}
use Rattle.oci_protocol.specs.Lift.{lifted}
use Rattle.shelf_laws.specs.EvaluatesWith.{EvaluatesWith, EvaluatesTo, Yields, AlwaysOk, Preserves}
use Rattle.shelf_laws.proofs.TableSteps.{EvaluatesWith-more}

-- over a larger client state, whose other part is unchanged
pub EvaluatesWith-lifted : {K C A : Type 0} (table : Request → Answer) (Q : K → A → Type 0) (p : Proto K A) (k : K) (x : C) → EvaluatesWith table Q p k → EvaluatesWith table (λ (l : K × C) a. Q l.0 a × (l.1 ≡ x)) (lifted p) (k, x)
unfolding EvaluatesWith lifted
EvaluatesWith-lifted table Q (Done a) k x h = (h, refl)
EvaluatesWith-lifted table Q (Ask request reading next) k x h = (h.0, EvaluatesWith-lifted table Q (next (reply_of (reading (head_part (table request))) (table request))) k x h.1)
EvaluatesWith-lifted table Q (Recall next) k x h = EvaluatesWith-lifted table Q (next k) k x h
EvaluatesWith-lifted table Q (Keep kept rest) k x h = EvaluatesWith-lifted table Q rest kept x h
EvaluatesWith-lifted table Q (Consult next) k x h = absurd h

-- P and Q hold for the same result
pub EvaluatesWith-both : {K A : Type 0} (table : Request → Answer) (P Q : K → A → Type 0) (p : Proto K A) (k : K) → EvaluatesWith table P p k → EvaluatesWith table Q p k → EvaluatesWith table (λ l a. P l a × Q l a) p k
unfolding EvaluatesWith
EvaluatesWith-both table P Q (Done a) k g h = (g, h)
EvaluatesWith-both table P Q (Ask request reading next) k g h = (g.0, EvaluatesWith-both table P Q (next (reply_of (reading (head_part (table request))) (table request))) k g.1 h.1)
EvaluatesWith-both table P Q (Recall next) k g h = EvaluatesWith-both table P Q (next k) k g h
EvaluatesWith-both table P Q (Keep kept rest) k g h = EvaluatesWith-both table P Q rest kept g h
EvaluatesWith-both table P Q (Consult next) k g h = absurd g

-- P, which mentions neither the result nor the client state, holds
pub EvaluatesWith-always : {K A : Type 0} (table : Request → Answer) (P : Type 0) (p : Proto K A) (k : K) → EvaluatesWith table (λ l a. P) p k → P
unfolding EvaluatesWith
EvaluatesWith-always table P (Done a) k h = h
EvaluatesWith-always table P (Ask request reading next) k h = EvaluatesWith-always table P (next (reply_of (reading (head_part (table request))) (table request))) k h.1
EvaluatesWith-always table P (Recall next) k h = EvaluatesWith-always table P (next k) k h
EvaluatesWith-always table P (Keep kept rest) k h = EvaluatesWith-always table P rest kept h
EvaluatesWith-always table P (Consult next) k h = absurd h

-- the result for which P holds is the one that the protocol has by `EvaluatesTo`
pub EvaluatesWith-itself : {K A : Type 0} (table : Request → Answer) (P : K → A → Type 0) (p : Proto K A) (k : K) → EvaluatesWith table P p k → EvaluatesWith table (λ l a. P l a × EvaluatesTo table p k a) p k
unfolding EvaluatesWith
EvaluatesWith-itself table P (Done a) k h = (h, refl)
EvaluatesWith-itself {K} {A} table P (Ask request reading next) k h =
    let reply = reply_of (reading (head_part (table request))) (table request) in
    (h.0, EvaluatesWith-more table (λ l a. P l a × EvaluatesTo table (next reply) k a) (λ l a. P l a × EvaluatesTo table (Ask request reading next) k a) (next reply) k (EvaluatesWith-itself table P (next reply) k h.1) (λ l a is. (is.0, (h.0, is.1))))
EvaluatesWith-itself table P (Recall next) k h = EvaluatesWith-more table (λ l a. P l a × EvaluatesTo table (next k) k a) (λ l a. P l a × EvaluatesTo table (Recall next) k a) (next k) k (EvaluatesWith-itself table P (next k) k h) (λ l a is. is)
EvaluatesWith-itself table P (Keep kept rest) k h = EvaluatesWith-more table (λ l a. P l a × EvaluatesTo table rest kept a) (λ l a. P l a × EvaluatesTo table (Keep kept rest) k a) rest kept (EvaluatesWith-itself table P rest kept h) (λ l a is. is)
EvaluatesWith-itself table P (Consult next) k h = absurd h

-- what follows from P of the result holds for the result that is known by `EvaluatesTo`
pub EvaluatesTo-is : {K A : Type 0} (table : Request → Answer) (P : K → A → Type 0) (p : Proto K A) (k : K) (answer : A) (Q : A → Type 0) → ((l : K) (a : A) → P l a → Q a) → EvaluatesWith table P p k → EvaluatesTo table p k answer → Q answer
EvaluatesTo-is {K} {A} table P p k answer Q known h is =
    EvaluatesWith-always table (Q answer) p k (EvaluatesWith-more table (λ l a. P l a × (a ≡ answer)) (λ l a. Q answer) p k (EvaluatesWith-both table P (λ l a. a ≡ answer) p k h is) (λ l a both. subst Q both.1 (known l a both.0)))

-- ---- calls over a larger client state

module _ {K C : Type 0} {J : K → Type 0} (R : C → Type 0) {table : Request → Answer} where
  pub AlwaysOk-lifted : {A E : Type 0} {P : A → Type 0} {p : Proto K (Result A E)} → AlwaysOk J table P p → AlwaysOk (λ (k : K × C). J k.0 × R k.1) table P (lifted p)
  AlwaysOk-lifted {A} {E} {P} {p} h = record {
    gives = λ k is. EvaluatesWith-more table (λ (l : K × C) r. (J l.0 × Yields P r) × (l.1 ≡ k.1)) (λ (l : K × C) r. (J l.0 × R l.1) × Yields P r) (lifted p) k
        (EvaluatesWith-lifted table (λ l r. J l × Yields P r) p k.0 k.1 (h.gives k.0 is.0)) (λ l r found. ((found.0.0, subst R (sym found.1) is.1), found.0.1));
  }
