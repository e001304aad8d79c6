use Rattle.std.proofs.Common.{None, codes}
use Rattle.oci_transport.specs.declared.message.Method.TheVariants.{Get}
use Rattle.sig_services.specs.Body.{json_body}
use Rattle.sig_services.specs.Entities.{log_info_error}
use Rattle.sig_services.proofs.CallCauses.{caused}
use Rattle.sig_services.proofs.log.get_log_info.Goals as goal

pub returns-clause-run : goal.returns-clause-run
returns-clause-run g c = c.call.ensures

pub returns-clause-causes : goal.returns-clause-causes
returns-clause-causes g c = caused json_body log_info_error c.args.configuration.now (codes "/log") Get None _ c.call.ensures
