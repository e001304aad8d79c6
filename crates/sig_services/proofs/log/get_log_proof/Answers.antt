use Rattle.std.proofs.Common.{refl, None, option_copied}
use Rattle.sig_services.specs.Body.{json_body}
use Rattle.sig_services.specs.Log.{proof_path}
use Rattle.oci_transport.specs.declared.message.Method.TheVariants.{Get}
use Rattle.sig_services.specs.Entities.{log_proof_error}
use Rattle.oci_protocol.proofs.Exits.{wanting}
use Rattle.sig_services.proofs.CallCauses.{caused}
use Rattle.sig_services.proofs.log.get_log_proof.Goals as goal

pub returns-in_err-path-clause-run : goal.returns-in_err-path-clause-run
returns-in_err-path-clause-run g c = λ k. wanting _ refl c.from_residual.ensures.1

pub returns-in_err-path-clause-causes : goal.returns-in_err-path-clause-causes
returns-in_err-path-clause-causes g c = caused json_body log_proof_error c.args.configuration.now (proof_path c.args.last_size (option_copied c.args.first_size) (option_copied c.args.tree_id)) Get None _ (λ k. wanting _ refl c.from_residual.ensures.1)

pub returns-clause-run : goal.returns-clause-run
returns-clause-run g c = λ k. rw (c.as_str.ensures, c.in_ok-path.ensures) at (c.call.ensures k)

pub returns-clause-causes : goal.returns-clause-causes
returns-clause-causes g c = caused json_body log_proof_error c.args.configuration.now (proof_path c.args.last_size (option_copied c.args.first_size) (option_copied c.args.tree_id)) Get None _ (λ k. rw (c.as_str.ensures, c.in_ok-path.ensures) at (c.call.ensures k))
