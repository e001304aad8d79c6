use Rattle.json_tables.specs.Reading.{text_of}
use Rattle.json_tables.proofs.Whole.{list_option, option_member}
use Rattle.oci_manifests.proofs.MembersAgain.{platform_again}
use Rattle.oci_manifests.proofs.platform.PlatformWrites.write_value.Goals as goal

pub returns-clause-again : goal.returns-clause-again
returns-clause-again c =
    let x = c.args.self.now in
    let each = c.in_ok-value.ensures.each in
    platform_again x (option_member text_of x.os_version each.1.1.0) (list_option text_of x.os_features each.1.1.1.0) (option_member text_of x.variant each.1.1.1.1.0) (list_option text_of x.features each.1.1.1.1.1.0)
