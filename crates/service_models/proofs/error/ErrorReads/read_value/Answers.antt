use Rattle.json_tables.proofs.Refusals.{passed_on}
use Rattle.service_models.specs.Error.{error_of}
use Rattle.service_models.proofs.error.ErrorReads.read_value.Goals as goal

pub returns-in_err-code : goal.returns-in_err-code
unfolding error_of
returns-in_err-code c =
    passed_on _ _ _ (c.in_err-code.ensures.refused _) c.from_residual.ensures
