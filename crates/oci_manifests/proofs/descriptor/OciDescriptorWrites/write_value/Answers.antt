use Rattle.json_tables.specs.Reading.{text_of, map_of}
use Rattle.json_tables.proofs.Whole.{list_option, option_member}
use Rattle.oci_manifests.proofs.MembersAgain.{descriptor_again}
use Rattle.oci_manifests.proofs.descriptor.OciDescriptorWrites.write_value.Goals as goal

pub returns-clause-again : goal.returns-clause-again
returns-clause-again c =
    let x = c.args.self.now in
    let each = c.in_ok-value.ensures.each in
    descriptor_again x each.1.1.0 (list_option text_of x.urls each.1.1.1.0) (option_member (map_of text_of) x.annotations each.1.1.1.1.0) (option_member text_of x.artifact_type each.1.1.1.1.1.0)
