use Rattle.std.proofs.Common.{sym, ap, ◌∙◌, ◌++◌}
use Rattle.oci_link.specs.Paths.{after}
use Rattle.oci_link.proofs.Fronts.{after-front, after-none}
use Rattle.oci_link.proofs.paths.after.Goals as goal

pub returns-in-Some : goal.returns-in-Some
returns-in-Some c =
    let cases = c.in-Some.ensures.cases in
    sym (ap (after c.args.front.now) (cases.1.1 ∙ ap (λ rest. c.args.front.now ++ rest) (sym cases.2)) ∙ after-front c.args.front.now c.in-Some.rest.now)

pub returns-in-None : goal.returns-in-None
returns-in-None c = sym (after-none c.args.front.now c.args.text.now c.in-None.ensures.cases)
