use Rattle.std.proofs.Common.{Some, length, IsTrue, sym, subst, ap, ◌∙◌}
use Rattle.oci_link.specs.Leads.{redirects_lead}
use Rattle.oci_link.specs.State.{answering}
use Rattle.pull_generated.proofs.Valid.{lead}
use Rattle.pull_run.proofs.GeneratedReports.{gives}
use Rattle.pull_run.proofs.generated.generated.Goals as goal

pub new-transport-requires : goal.new-transport-requires
new-transport-requires c = subst (λ s. IsTrue (redirects_lead s)) (sym c.in_ok-shelf.ensures.exact) (lead c.args.layers)

pub returns : goal.returns
returns c = gives c.args.layers _ _ _ c.conversation.result.now c.pull_generated-outcome.result _ (c.new-transport.ensures.table ∙ ap (λ s. Some (answering s)) c.in_ok-shelf.ensures.exact) c.new-transport.ensures.told c.conversation.ensures (ap length c.as_slice-requests.ensures) c.pull_generated-outcome.ensures.run c.written-report.ensures
