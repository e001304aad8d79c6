use Rattle.json_tables.proofs.Refusals.{passed_on}
use Rattle.oci_manifests.specs.Index.{index_of}
use Rattle.oci_manifests.proofs.index.OciImageIndexReads.read_value.Goals as goal

pub returns-in_err-schema_version : goal.returns-in_err-schema_version
unfolding index_of
returns-in_err-schema_version c =
    passed_on _ _ _ (c.in_err-schema_version.ensures.refused _) c.from_residual.ensures
