-- Prefixes of texts.
use Rattle.std.proofs.Common.{◌≡◌, ◌≢◌, ℕ, zero, suc, ◌<◌, ◌≤◌, Bool, true, false, cond, List, [], ◌∷◌, ◌++◌, length, drop, Some, None, refl, ap, ◌∙◌, arith}
use Rattle.std.specs.Prelude.{codes, nat_eq}
use Rattle.std.specs.Option.{option_or}
use Rattle.std.proofs.lemmas.Bool.{eq-eqb}
use Rattle.std.proofs.lemmas.Bool.Decides.{nat_tests}
use Rattle.std.specs.Str.Pattern.{LacksTextAt}
use Rattle.oci_link.specs.Paths.{after, past_mark}

pub after-front : (front rest : List ℕ) → after front (front ++ rest) ≡ Some rest
unfolding after
after-front [] rest = refl
after-front (p ∷ front) rest = rw (eq-eqb p p refl) (after-front front rest)

pub after-none : (front text : List ℕ) → ((rest : List ℕ) → text ≢ front ++ rest) → after front text ≡ None
unfolding after
after-none [] text lacks = absurd (lacks text refl)
after-none (p ∷ front) [] lacks = refl
after-none (p ∷ front) (b ∷ text) lacks = by (nat_eq b p) refl (λ same. after-none front text (λ rest is. lacks rest (cc (same, is)))) where
  by : (v : Bool) → nat_eq b p ≡ v → (b ≡ p → after front text ≡ None) → cond v (after front text) None ≡ None
  by true is next = next (grind (arith, nat_tests, is))
  by false is next = refl

pub past_mark-none : (text : List ℕ) → ((i : ℕ) → i ≤ length text → LacksTextAt (codes "://") text i) → past_mark text ≡ None
unfolding past_mark
past_mark-none [] lacks = refl
past_mark-none (b ∷ text) lacks = ap (λ o. option_or o (past_mark text)) (after-none (codes "://") (b ∷ text) (lacks 0 (omega arith))) ∙ past_mark-none text (λ i le. lacks (suc i) (omega (arith, le)))

pub past_mark-some : (text rest : List ℕ) (i : ℕ) → ((k : ℕ) → k < i → LacksTextAt (codes "://") text k) → drop i text ≡ codes "://" ++ rest → past_mark text ≡ Some rest
unfolding past_mark
past_mark-some [] rest zero lacks is = cc is
past_mark-some [] rest (suc i) lacks is = cc is
past_mark-some (b ∷ text) rest zero lacks is = ap (λ o. option_or o (past_mark text)) (ap (after (codes "://")) is ∙ after-front (codes "://") rest)
past_mark-some (b ∷ text) rest (suc i) lacks is = ap (λ o. option_or o (past_mark text)) (after-none (codes "://") (b ∷ text) (lacks 0 (omega arith))) ∙ past_mark-some text rest i (λ k lt. lacks (suc k) (omega (arith, lt))) is
