use Rattle.json_tables.specs.Reading.{text_of}
use Rattle.json_tables.proofs.Whole.{option_member}
use Rattle.service_models.proofs.Again.{public_key_again}
use Rattle.service_models.proofs.public_key.SearchIndexPublicKeyWrites.write_value.Goals as goal

pub returns-clause-again : goal.returns-clause-again
returns-clause-again c =
    let x = c.args.self.now in
    let each = c.in_ok-value.ensures.each in
    public_key_again x each.0 (option_member text_of x.content each.1.0) (option_member text_of x.url each.1.1.0)
