use Rattle.json_tables.specs.Reading.{text_of, bool_of}
use Rattle.json_tables.proofs.Whole.{option_member}
use Rattle.oci_docs.specs.Reader.{time_of}
use Rattle.oci_docs.proofs.Again.{history_again}
use Rattle.oci_docs.proofs.history.HistoryWrites.write_value.Goals as goal

pub returns-clause-again : goal.returns-clause-again
returns-clause-again c =
    let x = c.args.self.now in
    let each = c.in_ok-value.ensures.each in
    history_again x (option_member time_of x.created each.0) (option_member text_of x.author each.1.0) (option_member text_of x.created_by each.1.1.0) (option_member text_of x.comment each.1.1.1.0) (option_member bool_of x.empty_layer each.1.1.1.1.0)
