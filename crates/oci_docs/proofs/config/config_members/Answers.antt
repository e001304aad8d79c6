use Rattle.json_tables.proofs.Refusals.{passed_on}
use Rattle.oci_docs.specs.Config.{config_members}
use Rattle.oci_docs.proofs.config.config_members.Goals as goal

pub returns-in_err-user : goal.returns-in_err-user
unfolding config_members
returns-in_err-user c = passed_on _ _ _ (c.in_err-user.ensures.refused _) c.from_residual.ensures
