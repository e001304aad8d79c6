use Rattle.json_tables.specs.Reading.{text_of}
use Rattle.json_tables.proofs.Whole.{option_member}
use Rattle.service_models.specs.PublicKey.{public_key_of}
use Rattle.service_models.proofs.Again.{search_index_again}
use Rattle.service_models.proofs.search_index.SearchIndexWrites.write_value.Goals as goal

pub returns-clause-again : goal.returns-clause-again
returns-clause-again c =
    let x = c.args.self.now in
    let each = c.in_ok-value.ensures.each in
    search_index_again x (option_member text_of x.email each.0) (option_member public_key_of x.public_key each.1.0) (option_member text_of x.hash each.1.1.0)
