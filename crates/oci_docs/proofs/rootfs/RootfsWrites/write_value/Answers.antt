use Rattle.json_tables.specs.Reading.{text_of}
use Rattle.json_tables.proofs.Whole.{list_member}
use Rattle.oci_docs.proofs.Again.{rootfs_again}
use Rattle.oci_docs.proofs.rootfs.RootfsWrites.write_value.Goals as goal

pub returns-clause-again : goal.returns-clause-again
returns-clause-again c = rootfs_again c.args.self.now (list_member text_of c.args.self.now.diff_ids c.in_ok-value.ensures.each.1.0)
