use Rattle.json_tables.specs.Reading.{text_of, i32_of}
use Rattle.json_tables.proofs.Whole.{option_member}
use Rattle.service_models.proofs.Again.{error_again}
use Rattle.service_models.proofs.error.ErrorWrites.write_value.Goals as goal

pub returns-clause-again : goal.returns-clause-again
returns-clause-again c =
    let x = c.args.self.now in
    let each = c.in_ok-value.ensures.each in
    error_again x (option_member i32_of x.code (rw (← c.whole.ensures) each.0)) (option_member text_of x.message each.1.0)
