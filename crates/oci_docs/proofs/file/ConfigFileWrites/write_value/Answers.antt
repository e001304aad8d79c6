use Rattle.json_tables.specs.Reading.{text_of}
use Rattle.json_tables.proofs.Whole.{option_member}
use Rattle.oci_docs.specs.Reader.{time_of}
use Rattle.oci_docs.specs.Config.{config_of, normal_config, some_list}
use Rattle.oci_docs.specs.History.{history_of}
use Rattle.oci_docs.proofs.Again.{file_again}
use Rattle.oci_docs.proofs.Parts.{list_unless, option_normal}
use Rattle.oci_docs.proofs.file.ConfigFileWrites.write_value.Goals as goal

pub returns-clause-again : goal.returns-clause-again
returns-clause-again c =
    let x = c.args.self.now in
    let each = c.in_ok-value.ensures.each in
    file_again x (option_member time_of x.created each.0) (option_member text_of x.author each.1.0) (option_normal config_of normal_config x.config each.1.1.1.1.0) each.1.1.1.1.1.0 (list_unless history_of (some_list x.history) x.history each.1.1.1.1.1.1.0)
