use Rattle.json_tables.proofs.Refusals.{passed_on}
use Rattle.oci_docs.specs.History.{history_members}
use Rattle.oci_docs.proofs.history.history_members.Goals as goal

pub returns-in_err-created : goal.returns-in_err-created
unfolding history_members
returns-in_err-created c = passed_on _ _ _ (c.in_err-created.ensures.refused _) c.from_residual.ensures
