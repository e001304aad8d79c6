use Rattle.json_tables.proofs.Refusals.{passed_on}
use Rattle.oci_docs.specs.Rootfs.{rootfs_of}
use Rattle.oci_docs.proofs.rootfs.RootfsReads.read_value.Goals as goal

pub returns-in_err-kind : goal.returns-in_err-kind
unfolding rootfs_of
returns-in_err-kind c = passed_on _ _ _ (c.in_err-kind.ensures.refused _) c.from_residual.ensures
