use Rattle.std.proofs.Common.{refl}
use Rattle.json_tables.specs.Reading.{text_of, map_of}
use Rattle.json_tables.proofs.Whole.{list_member, option_member, document_again}
use Rattle.oci_manifests.specs.Descriptor.{descriptor_of}
use Rattle.oci_manifests.specs.Manifest.{manifest_of, manifest_written}
use Rattle.oci_manifests.proofs.Again.{manifest_again}
use Rattle.oci_manifests.proofs.manifest.OciImageManifestToValue.to_value.Goals as goal

pub returns-clause-reads_back : goal.returns-clause-reads_back
unfolding manifest_written
returns-clause-reads_back c =
    let x = c.args.self.now in
    let each = c.in_ok-value.ensures.each in
    document_again manifest_of _ _ x _
    (manifest_again x each.0 (option_member text_of x.media_type each.1.0) each.1.1.0 (list_member descriptor_of x.layers each.1.1.1.0) (option_member descriptor_of x.subject each.1.1.1.1.0) (option_member text_of x.artifact_type each.1.1.1.1.1.0) (option_member (map_of text_of) x.annotations each.1.1.1.1.1.1.0))
    refl c.in_ok-value.ensures.exact
