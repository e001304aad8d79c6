use Rattle.json_tables.specs.Reading.{text_of, map_of}
use Rattle.json_tables.specs.Objects.{set_of}
use Rattle.json_tables.proofs.Whole.{option_member}
use Rattle.oci_docs.proofs.Parts.{list_unless, option_unless}
use Rattle.oci_docs.specs.Config.{some_list, some_map}
use Rattle.oci_docs.proofs.Again.{config_again}
use Rattle.oci_docs.proofs.config.ConfigWrites.write_value.Goals as goal

pub returns-clause-again : goal.returns-clause-again
returns-clause-again c =
    let x = c.args.self.now in
    let each = c.in_ok-value.ensures.each in
    config_again x
    (option_member text_of x.user each.0)
    (option_unless set_of (some_map x.exposed_ports) x.exposed_ports each.1.0)
    (list_unless text_of (some_list x.env) x.env each.1.1.0)
    (list_unless text_of (some_list x.cmd) x.cmd each.1.1.1.0)
    (list_unless text_of (some_list x.entrypoint) x.entrypoint each.1.1.1.1.0)
    (option_unless set_of (some_map x.volumes) x.volumes each.1.1.1.1.1.0)
    (option_member text_of x.working_dir each.1.1.1.1.1.1.0)
    (option_unless (map_of text_of) (some_map x.labels) x.labels each.1.1.1.1.1.1.1.0)
    (option_member text_of x.stop_signal each.1.1.1.1.1.1.1.1.0)
