use Rattle.json_tables.proofs.Refusals.{passed_on}
use Rattle.oci_manifests.specs.Descriptor.{descriptor_of}
use Rattle.oci_manifests.proofs.descriptor.OciDescriptorReads.read_value.Goals as goal

pub returns-in_err-media_type : goal.returns-in_err-media_type
unfolding descriptor_of
returns-in_err-media_type c =
    passed_on _ _ _ (c.in_err-media_type.ensures.refused _) c.from_residual.ensures
