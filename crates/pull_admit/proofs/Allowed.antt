-- All images are allowed if and only if each is.
use Rattle.std.proofs.Common.{◌≡◌, Bool, true, List, [], ◌∷◌, refl, sym, subst}
use Rattle.std.specs.Prelude.{◌↔◌, IsTrue, All}
use Rattle.std.proofs.lemmas.List.Elements.{All-nil, All-cons, All-head, All-tail}
use Rattle.pull_admit.specs.Responses.{IsAllowed, all_allowed}
use Rattle.pull_admit.specs.declared.decision.Decision.{Decision}
use Rattle.pull_admit.specs.declared.decision.Decision.TheVariants.{Allow, Deny}

each_from : (ds : List Decision) → all_allowed ds ≡ true → All IsAllowed ds
each_from [] h = All-nil IsAllowed
each_from (Allow v ∷ ds) h = All-cons IsAllowed (Allow v) ds tt (each_from ds h)
each_from (Deny cause ∷ ds) h = absurd (cc h)

all_from : (ds : List Decision) → All IsAllowed ds → all_allowed ds ≡ true
all_from [] h = refl
all_from (Allow v ∷ ds) h = all_from ds (All-tail IsAllowed (Allow v) ds h)
all_from (Deny cause ∷ ds) h = absurd (All-head IsAllowed (Deny cause) ds h)

pub all_each : (ds : List Decision) → (all_allowed ds ≡ true) ↔ All IsAllowed ds
all_each ds = (each_from ds, all_from ds)

-- the same of a value that is that of all decisions
pub value_each : (b : Bool) (ds : List Decision) → b ≡ all_allowed ds → IsTrue b ↔ All IsAllowed ds
value_each b ds is = subst (λ (x : Bool). IsTrue x ↔ All IsAllowed ds) (sym is) (all_each ds)
