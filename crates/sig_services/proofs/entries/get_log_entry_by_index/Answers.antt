use Rattle.std.proofs.Common.{◌≡◌, refl, None, to_z-of_z, to_z, of_z, w32, arith}
use Rattle.json_tables.specs.Plain.{read_plain}
use Rattle.service_models.specs.LogEntry.{log_entry_of}
use Rattle.sig_services.specs.Entries.{index_path}
use Rattle.oci_transport.specs.declared.message.Method.TheVariants.{Get}
use Rattle.sig_services.specs.Entities.{by_index_error}
use Rattle.oci_protocol.proofs.Exits.{wanting}
use Rattle.sig_services.proofs.CallCauses.{caused}
use Rattle.sig_services.proofs.entries.get_log_entry_by_index.Goals as goal

pub returns-in_err-path-clause-run : goal.returns-in_err-path-clause-run
returns-in_err-path-clause-run g c = λ k. wanting _ refl c.from_residual.ensures.1

pub returns-in_err-path-clause-causes : goal.returns-in_err-path-clause-causes
returns-in_err-path-clause-causes g c = caused (read_plain log_entry_of) by_index_error c.args.configuration.now (index_path c.args.log_index) Get None _ (λ k. wanting _ refl c.from_residual.ensures.1)

pub returns-clause-run : goal.returns-clause-run
returns-clause-run g c = λ k.
    let same : to_z w32 (of_z w32 c.args.log_index) ≡ c.args.log_index = grind (arith, to_z-of_z) in
    rw same at (rw (c.as_str.ensures, c.in_ok-path.ensures) at (c.call.ensures k))

pub returns-clause-causes : goal.returns-clause-causes
returns-clause-causes g c = caused (read_plain log_entry_of) by_index_error c.args.configuration.now (index_path c.args.log_index) Get None _ (λ k.
    let same : to_z w32 (of_z w32 c.args.log_index) ≡ c.args.log_index = grind (arith, to_z-of_z) in
    rw same at (rw (c.as_str.ensures, c.in_ok-path.ensures) at (c.call.ensures k)))
