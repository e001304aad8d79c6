use Rattle.json_tables.proofs.Refusals.{passed_on}
use Rattle.oci_docs.specs.File.{file_of}
use Rattle.oci_docs.proofs.file.ConfigFileReads.read_value.Goals as goal

pub returns-in_err-created : goal.returns-in_err-created
unfolding file_of
returns-in_err-created c = passed_on _ _ _ (c.in_err-created.ensures.refused _) c.from_residual.ensures
