use Rattle.json_tables.specs.Reading.{text_of, map_of}
use Rattle.json_tables.proofs.Whole.{option_member}
use Rattle.oci_manifests.specs.Platform.{platform_of}
use Rattle.oci_manifests.proofs.MembersAgain.{entry_again}
use Rattle.oci_manifests.proofs.index_entry.ImageIndexEntryWrites.write_value.Goals as goal

pub returns-clause-again : goal.returns-clause-again
returns-clause-again c =
    let x = c.args.self.now in
    let each = c.in_ok-value.ensures.each in
    entry_again x each.1.1.0 (option_member platform_of x.platform each.1.1.1.0) (option_member (map_of text_of) x.annotations each.1.1.1.1.0) (option_member text_of x.artifact_type each.1.1.1.1.1.0)
