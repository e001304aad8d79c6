-- Consequences of results that are fixed up to running out of memory.
use Rattle.std.proofs.Common.{◌≡◌, Bool, true, false, true≢false, Result, Ok, Err, MatchBool, sym, ap, subst}
use Rattle.std.specs.Result.{IsErrAnd}
use Rattle.std.proofs.lemmas.Result.{err_from_is_err_and}
use Rattle.json_values.specs.Refusals.{Matches, ◌>>=◌}

-- an error propagated by `?`
pub says_on : {A E : Type 0} (is_memory : E → Bool) (r : Result A E) (e : E) (said : Result A E)
    → Matches {A = A} is_memory (Err e) said → IsErrAnd r (λ x. x ≡ e) → Matches is_memory r said
says_on is_memory r e said says is = let at = err_from_is_err_and r is in rw (at.1, at.2) says

-- an error other than out of memory is the stated one
pub said_by : {E : Type 0} (is_memory : E → Bool) (e : E) (P : Type 0)
    → MatchBool (is_memory e) (Unit {0}) P → is_memory e ≡ false → P
said_by is_memory e P said not_memory = by_test (is_memory e) said not_memory where
  by_test : (b : Bool) → MatchBool b (Unit {0}) P → b ≡ false → P
  by_test true said is = absurd (true≢false is)
  by_test false said is = said

-- a result other than out of memory is the stated one
pub says_exactly : {A E : Type 0} (is_memory : E → Bool) (e : E) (said : Result A E)
    → Matches {A = A} is_memory (Err e) said → is_memory e ≡ false → said ≡ Err e
says_exactly is_memory e said says not_memory = said_by is_memory e (said ≡ Err e) says not_memory

-- if the first step fails, both steps together fail with its error
pub says_first : {A B E : Type 0} (is_memory : E → Bool) (e : E) (first : Result A E) (next : A → Result B E)
    → Matches {A = A} is_memory (Err e) first → Matches {A = B} is_memory (Err e) (first >>= next)
says_first {A} {B} {E} is_memory e first next says = by_test (is_memory e) says where
  by_test : (b : Bool) → MatchBool b (Unit {0}) (first ≡ Err e) → MatchBool b (Unit {0}) ((first >>= next) ≡ Err e)
  by_test true said = tt
  by_test false said = ap (λ r. r >>= next) said

-- if the first step returned this value, the result of the next step is the result of both
pub says_next : {A B E : Type 0} (is_memory : E → Bool) (first : Result A E) (a : A) (next : A → Result B E) (r : Result B E)
    → first ≡ Ok a → Matches is_memory r (next a) → Matches is_memory r (first >>= next)
says_next is_memory first a next r gave says = subst (λ f. Matches is_memory r (f >>= next)) (sym gave) says
