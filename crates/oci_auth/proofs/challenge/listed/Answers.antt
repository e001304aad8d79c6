use Rattle.std.proofs.Common.{sym, ap, ◌∙◌, ◌∷◌, ◌++◌, refl}
use Rattle.std.specs.Option.{option_copied}
use Rattle.oci_auth.specs.Element.{challenges_of, whole}
use Rattle.oci_auth.proofs.Commas.{taken, elements_left}
use Rattle.oci_auth.proofs.challenge.listed.Goals as goal

pub returns-then-not-branch : goal.returns-then-not-branch
unfolding challenges_of
returns-then-not-branch c =
    let left = option_copied c.cut_element.result.1 in
    sym (taken c.args.text.now c.in-Some.rest.now c.cut_element.result.0.now (option_copied c.loop-left.left) left c.loop-left.found c.loop-left.last c.loop-left.invariant (ap option_copied c.in-Some.is) c.cut_element.ensures.split
    ∙ ap (λ element. c.loop-left.found ++ whole c.loop-left.last (element ∷ elements_left left)) (sym c.in_ok-element.ensures)
    ∙ c.in_ok-take.ensures (elements_left left)
    ∙ rw c.if-not-branch.true refl)
