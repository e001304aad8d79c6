use Rattle.std.proofs.Common.{◌≡◌, ℕ, List, [], ◌∷◌, ◌++◌, Result, Ok, Err, refl, ap}
use Rattle.oci_transport.specs.declared.message.Exchange.{Exchange}
use Rattle.oci_protocol.specs.Proto.{Proto, Done, Ask, Recall, Keep, Consult, bind, unless_refused, ◌>>=◌}
use Rattle.oci_protocol.specs.Runs.{Runs}

-- a run of two parts in sequence
pub record Parts {K A B : Type 0} (p : Proto K A) (f : A → Proto K B) (k : K) (m : ℕ) (c : List Exchange) (n : ℕ) (j : K) (b : B) : Type 0 where
  pub first : List Exchange
  pub second : List Exchange
  pub joined : c ≡ first ++ second
  pub between : K
  pub count : ℕ
  pub answer : A
  pub runs_first : Runs p k m first count between answer
  pub runs_second : Runs (f answer) between count second n j b

-- each run of `bind p f` is a run of p and then one of f
pub Runs-parts : {K A B : Type 0} (p : Proto K A) (f : A → Proto K B) (k : K) (m : ℕ) (c : List Exchange) (n : ℕ) (j : K) (b : B) → Runs (bind p f) k m c n j b → Parts p f k m c n j b
unfolding Runs bind
Runs-parts (Done x) f k m c n j b r = record { first = []; second = c; joined = refl; between = k; count = m; answer = x; runs_first = (refl, refl, refl); runs_second = r }
Runs-parts (Ask request reading next) f k m [] n j b r = absurd r
Runs-parts (Ask request reading next) f k m (e ∷ c) n j b r =
    let parts = Runs-parts (next r.1) f k r.0 c n j b r.3 in
    record { first = e ∷ parts.first; second = parts.second; joined = ap (λ c. e ∷ c) parts.joined; between = parts.between; count = parts.count; answer = parts.answer; runs_first = (r.0, r.1, r.2, parts.runs_first); runs_second = parts.runs_second }
Runs-parts (Recall next) f k m c n j b r =
    let parts = Runs-parts (next k) f k m c n j b r in
    record { first = parts.first; second = parts.second; joined = parts.joined; between = parts.between; count = parts.count; answer = parts.answer; runs_first = parts.runs_first; runs_second = parts.runs_second }
Runs-parts (Keep kept rest) f k m c n j b r =
    let parts = Runs-parts rest f kept m c n j b r in
    record { first = parts.first; second = parts.second; joined = parts.joined; between = parts.between; count = parts.count; answer = parts.answer; runs_first = parts.runs_first; runs_second = parts.runs_second }
Runs-parts (Consult next) f k m c n j b r =
    let parts = Runs-parts (next r.0) f k m c n j b r.1 in
    record { first = parts.first; second = parts.second; joined = parts.joined; between = parts.between; count = parts.count; answer = parts.answer; runs_first = (r.0, parts.runs_first); runs_second = parts.runs_second }

-- a run of two parts in sequence, both of which return `Ok`
pub record OkParts {K A B E : Type 0} (p : Proto K (Result A E)) (f : A → Proto K (Result B E)) (k : K) (m : ℕ) (c : List Exchange) (n : ℕ) (j : K) (b : B) : Type 0 where
  pub first : List Exchange
  pub second : List Exchange
  pub joined : c ≡ first ++ second
  pub between : K
  pub count : ℕ
  pub answer : A
  pub runs_first : Runs p k m first count between (Ok answer)
  pub runs_second : Runs (f answer) between count second n j (Ok b)

-- `Done x` makes no request and returns x
pub Runs-done : {K A : Type 0} (x : A) (k : K) (m : ℕ) (c : List Exchange) (n : ℕ) (l : K) (a : A) → Runs (Done x) k m c n l a → (c ≡ []) × (k ≡ l) × (x ≡ a)
unfolding Runs
Runs-done x k m [] n l a r = (refl, r.1, r.2)
Runs-done x k m (e ∷ c) n l a r = absurd r

pub Runs-ok-parts : {K A B E : Type 0} (p : Proto K (Result A E)) (f : A → Proto K (Result B E)) (k : K) (m : ℕ) (c : List Exchange) (n : ℕ) (j : K) (b : B) → Runs (p >>= f) k m c n j (Ok b) → OkParts p f k m c n j b
Runs-ok-parts {K} {A} {B} {E} p f k m c n j b r = by_answer parts.answer parts.runs_first parts.runs_second where
  parts : Parts p (unless_refused f) k m c n j (Ok b)
  parts = Runs-parts p (unless_refused f) k m c n j (Ok b) r

  by_answer : (a : Result A E) → Runs p k m parts.first parts.count parts.between a → Runs (unless_refused f a) parts.between parts.count parts.second n j (Ok b) → OkParts p f k m c n j b
  by_answer (Ok a) first second = record { first = parts.first; second = parts.second; joined = parts.joined; between = parts.between; count = parts.count; answer = a; runs_first = first; runs_second = second }
  by_answer (Err e) first second = absurd (cc ((Runs-done (Err e) parts.between parts.count parts.second n j (Ok b) second).2))
