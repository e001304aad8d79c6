use Rattle.std.proofs.Common.{sym, ap, ◌∙◌, ◌-◌, ◌+◌, arith}
use Rattle.oci_link.specs.Leads.{ends_within}
use Rattle.oci_link.proofs.RedirectEnds.{ends_here, ends_further}
use Rattle.oci_link.proofs.leads.ends_within.Goals as goal

pub returns-in-None : goal.returns-in-None
returns-in-None c = sym (c.loop-step.invariant.so ∙ ends_here _ _ _ (sym c.in-None.ensures))

pub loop-step-preserved : goal.loop-step-preserved
loop-step-preserved c =
    let rest = c.args.steps - (c.loop-step._step + 1) in
    record {
      so = c.loop-step.invariant.so ∙ ends_further (c.args.steps - c.loop-step._step) rest c.args.redirects.now c.loop-step.text.now c.in-Some.next.now (omega (arith, c.loop-step-test.true)) (sym c.in-Some.ensures) ∙ ap (ends_within rest c.args.redirects.now) (sym c.as_str-text.ensures);
      utf8 = c.as_str-text.utf8;
    }
