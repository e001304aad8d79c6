use Rattle.oci_errors.proofs.Errors.{code_again}
use Rattle.oci_errors.proofs.error_code.OciErrorCodeWrites.write_value.Goals as goal

pub returns-clause-again : goal.returns-clause-again
returns-clause-again c = code_again c.args.self.now
