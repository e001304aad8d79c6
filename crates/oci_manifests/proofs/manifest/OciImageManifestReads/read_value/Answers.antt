use Rattle.json_tables.proofs.Refusals.{passed_on}
use Rattle.oci_manifests.specs.Manifest.{manifest_of}
use Rattle.oci_manifests.proofs.manifest.OciImageManifestReads.read_value.Goals as goal

pub returns-in_err-schema_version : goal.returns-in_err-schema_version
unfolding manifest_of
returns-in_err-schema_version c =
    passed_on _ _ _ (c.in_err-schema_version.ensures.refused _) c.from_residual.ensures
