use Rattle.json_tables.proofs.Refusals.{passed_on}
use Rattle.oci_manifests.specs.Platform.{platform_of}
use Rattle.oci_manifests.proofs.platform.PlatformReads.read_value.Goals as goal

pub returns-in_err-architecture : goal.returns-in_err-architecture
unfolding platform_of
returns-in_err-architecture c =
    passed_on _ _ _ (c.in_err-architecture.ensures.refused _) c.from_residual.ensures
