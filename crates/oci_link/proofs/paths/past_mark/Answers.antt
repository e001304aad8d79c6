use Rattle.std.proofs.Common.{sym, ap, ◌∙◌, ◌++◌}
use Rattle.std.specs.Prelude.{codes}
use Rattle.oci_link.proofs.Fronts.{past_mark-some, past_mark-none}
use Rattle.oci_link.proofs.paths.past_mark.Goals as goal

pub returns-in-Some : goal.returns-in-Some
returns-in-Some c =
    let cases = c.in-Some.ensures.cases in
    sym (past_mark-some c.args.text.now c.in-Some.rest.now cases.0 cases.2.0 (cases.2.1.split ∙ ap (λ rest. codes "://" ++ rest) (sym cases.4)))

pub returns-in-None : goal.returns-in-None
returns-in-None c = sym (past_mark-none c.args.text.now c.in-None.ensures.cases)
