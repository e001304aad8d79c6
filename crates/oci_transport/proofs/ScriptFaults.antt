-- A script satisfies `faults_only_where` if no recorded answer fails.
use Rattle.std.proofs.Common.{◌≡◌, ◌+◌, ℕ, suc, zero, Bool, true, false, List, [], ◌∷◌, ◌++◌, length, slice_get, Some, None, Option, if◌then◌else◌, refl, sym, ap, subst, ◌∙◌, length-append, arith}
use Rattle.std.specs.Prelude.{IsTrue, ◌||◌, ◌&&◌, nat_eq, is_some}
use Rattle.std.proofs.lemmas.Bool.Decides.{nat_tests}
use Rattle.std.specs.Option.{option_eq}
use Rattle.oci_transport.specs.FaultsOnlyWhere.{faults_only_where, next_count}
use Rattle.oci_transport.specs.Pieces.{joined}
use Rattle.oci_transport.specs.Recorded.{recorded_answer, stop_within, fails_before_of, may_fail, answering, last_stop}
use Rattle.oci_transport.specs.declared.recorded.Recorded.{Recorded}
use Rattle.oci_transport.specs.declared.message.Answer.{Answer}
use Rattle.oci_transport.specs.declared.message.Exchange.{Exchange}

nat_eq_self : (n : ℕ) → nat_eq n n ≡ true
nat_eq_self n = grind (arith, nat_tests)

both_parts : (a b : Bool) → (a && b) ≡ true → (a ≡ true) × (b ≡ true)
both_parts true b h = (refl, h)
both_parts false b h = cc h

either_true : (b : Bool) → (b || true) ≡ true
either_true true = refl
either_true false = refl

count_push : (c : List Exchange) (e : Exchange) (n : ℕ) → e.faults ≡ n → next_count (c ++ e ∷ []) n ≡ next_count c n
count_push [] e n is = is
count_push (x ∷ c) e n is = refl

-- one more exchange, sent at the last fault count
calm_more : (fails : ℕ → Bool) (place : ℕ) (c : List Exchange) (e : Exchange) (n : ℕ) → e.faults ≡ n → faults_only_where fails place (c ++ e ∷ []) n ≡ faults_only_where fails place c n
calm_more fails place [] e n is = ap (λ b. (fails place || b) && true) (ap (λ m. nat_eq n m) is ∙ nat_eq_self n) ∙ ap (λ b. b && true) (either_true (fails place))
calm_more fails place (x ∷ c) e n is = λ i. (fails place || nat_eq (count_push c e n is i) x.faults) && calm_more fails (suc place) c e n is i

pub calm_push : (fails : ℕ → Bool) (c : List Exchange) (e : Exchange) (n : ℕ) → e.faults ≡ n → IsTrue (faults_only_where fails 0 c n) → IsTrue (faults_only_where fails 0 (c ++ e ∷ []) n)
calm_push fails c e n is h = subst IsTrue (sym (calm_more fails 0 c e n is)) h

-- a fault at the last exchange, if something may fail there
calm_rose : (fails : ℕ → Bool) (place : ℕ) (c : List Exchange) (last n m : ℕ) → length c ≡ suc last → fails (place + last) ≡ true → faults_only_where fails place c n ≡ true → faults_only_where fails place c m ≡ true
calm_rose fails place [] last n m is f h = absurd (omega (arith, is))
calm_rose fails place (e ∷ []) zero n m is f h =
    let here : fails place ≡ true = ap fails (omega arith) ∙ f in
    ap (λ b. (b || nat_eq m e.faults) && true) here
calm_rose fails place (e ∷ []) (suc last) n m is f h = absurd (omega (arith, is))
calm_rose fails place (e ∷ x ∷ c) zero n m is f h = absurd (omega (arith, is))
calm_rose fails place (e ∷ x ∷ c) (suc last) n m is f h =
    let parts = both_parts (fails place || nat_eq x.faults e.faults) (faults_only_where fails (suc place) (x ∷ c) n) h in
    let here : fails (suc place + last) ≡ true = ap fails (omega arith) ∙ f in
    let rest : faults_only_where fails (suc place) (x ∷ c) m ≡ true = calm_rose fails (suc place) (x ∷ c) last n m (omega (arith, is)) here parts.1 in
    λ i. parts.0 i && rest i

stop_fails : (o : Option Recorded) (n : ℕ) → fails_before_of o ≡ Some n → may_fail o ≡ true
stop_fails None n h = refl
stop_fails (Some r) n h = by_fails r.fails h where
  by_fails : (b : Bool) → (if b then None else stop_within r.fails_before (length r.pieces)) ≡ Some n → (b || is_some (stop_within r.fails_before (length r.pieces))) ≡ true
  by_fails true h = refl
  by_fails false h = ap is_some h

whole : Recorded → Answer
whole r = record { status = r.status; headers = r.headers; body = joined r.pieces }

none_fails : (o : Option Recorded) → recorded_answer o ≡ None → may_fail o ≡ true
unfolding whole
none_fails None h = refl
none_fails (Some r) h = by_fails r.fails h where
  by_fails : (b : Bool) → (if b then None else Some (whole r)) ≡ None → (b || is_some (stop_within r.fails_before (length r.pieces))) ≡ true
  by_fails true h = refl
  by_fails false h = cc h

pub stop_given : (stopped : Bool) (stop last : Option ℕ) (given : ℕ) → stop ≡ (if stopped then None else last) → option_eq nat_eq stop (Some given) ≡ true → last ≡ Some given
stop_given true stop last given is same = absurd (cc (is, same))
stop_given false None last given is same = cc same
stop_given false (Some n) last given is same = let eq : n ≡ given = grind (arith, nat_tests, same) in sym is ∙ ap Some eq

pub calm_stop : (items : List Recorded) (c : List Exchange) (given n m : ℕ) → last_stop items (length c) ≡ Some given → IsTrue (faults_only_where (answering items).fails 0 c n) → IsTrue (faults_only_where (answering items).fails 0 c m)
unfolding answering
calm_stop items [] given n m stop h = h
calm_stop items (e ∷ c) given n m stop h =
    calm_rose (λ place. may_fail (slice_get items place)) 0 (e ∷ c) (length c) n m refl (ap (λ place. may_fail (slice_get items place)) (omega arith) ∙ stop_fails (slice_get items (length c)) given stop) h

-- a failed send, and its fault
pub calm_failed : (items : List Recorded) (c : List Exchange) (e : Exchange) (n m : ℕ) → e.faults ≡ n → recorded_answer (slice_get items (length c)) ≡ None → IsTrue (faults_only_where (answering items).fails 0 c n) → IsTrue (faults_only_where (answering items).fails 0 (c ++ e ∷ []) m)
unfolding answering
calm_failed items c e n m is none h =
    calm_rose (λ place. may_fail (slice_get items place)) 0 (c ++ e ∷ []) (length c) n m (omega (arith, length-append c (e ∷ []))) (ap (λ place. may_fail (slice_get items place)) (omega arith) ∙ none_fails (slice_get items (length c)) none) (calm_push (λ place. may_fail (slice_get items place)) c e n is h)
