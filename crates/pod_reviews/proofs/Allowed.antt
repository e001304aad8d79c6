-- All images are allowed if and only if each is.
use Rattle.std.proofs.Common.{◌≡◌, Bool, true, List, [], ◌∷◌, refl, sym, subst}
use Rattle.std.specs.Prelude.{◌↔◌, IsTrue, All}
use Rattle.std.proofs.lemmas.List.Elements.{All-nil, All-cons, All-head, All-tail}
use Rattle.pod_reviews.specs.Verdicts.{IsAllowed, all_allowed}
use Rattle.pod_reviews.specs.declared.verdict.Verdict.{Verdict}
use Rattle.pod_reviews.specs.declared.verdict.Verdict.TheVariants.{Allowed, Denied}

each_from : (ds : List Verdict) → all_allowed ds ≡ true → All IsAllowed ds
each_from [] h = All-nil IsAllowed
each_from (Allowed v ∷ ds) h = All-cons IsAllowed (Allowed v) ds tt (each_from ds h)
each_from (Denied cause ∷ ds) h = absurd (cc h)

all_from : (ds : List Verdict) → All IsAllowed ds → all_allowed ds ≡ true
all_from [] h = refl
all_from (Allowed v ∷ ds) h = all_from ds (All-tail IsAllowed (Allowed v) ds h)
all_from (Denied cause ∷ ds) h = absurd (All-head IsAllowed (Denied cause) ds h)

pub all_each : (ds : List Verdict) → (all_allowed ds ≡ true) ↔ All IsAllowed ds
all_each ds = (each_from ds, all_from ds)

-- the same of a value that is that of all verdicts
pub value_each : (b : Bool) (ds : List Verdict) → b ≡ all_allowed ds → IsTrue b ↔ All IsAllowed ds
value_each b ds is = subst (λ (x : Bool). IsTrue x ↔ All IsAllowed ds) (sym is) (all_each ds)
