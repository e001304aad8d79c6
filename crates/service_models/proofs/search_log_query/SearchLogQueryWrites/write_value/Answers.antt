use Rattle.json_tables.specs.Reading.{text_of, i32_of}
use Rattle.json_tables.proofs.Whole.{list_option}
use Rattle.service_models.specs.ProposedEntry.{proposed_entry_of, spec_has_float}
use Rattle.service_models.proofs.Again.{query_again, list_option_of}
use Rattle.service_models.proofs.search_log_query.SearchLogQueryWrites.write_value.Goals as goal

pub returns-clause-again : goal.returns-clause-again
returns-clause-again c =
    let x = c.args.self.now in
    let each = c.in_ok-value.ensures.each in
    query_again x (list_option text_of x.entry_uuids each.0) (list_option i32_of x.log_indexes (rw (← c.in_ok-log_indexes.ensures) each.1.0)) (list_option_of proposed_entry_of spec_has_float x.entries each.1.1.0)
