use Rattle.oci_errors.proofs.Errors.{error_again}
use Rattle.oci_errors.proofs.envelope.OciErrorWrites.write_value.Goals as goal

pub returns-clause-again : goal.returns-clause-again
returns-clause-again c = error_again c.args.self.now c.in_ok-value.ensures.each.0
