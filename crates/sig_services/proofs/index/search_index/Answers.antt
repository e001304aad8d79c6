use Rattle.std.proofs.Common.{refl, Some, None, codes}
use Rattle.json_tables.specs.Plain.{read_plain}
use Rattle.json_tables.specs.Reading.{list_of, text_of}
use Rattle.oci_transport.specs.declared.message.Method.TheVariants.{Post}
use Rattle.sig_services.specs.Entities.{search_index_error}
use Rattle.oci_protocol.proofs.Exits.{wanting}
use Rattle.sig_services.proofs.CallCauses.{caused}
use Rattle.sig_services.proofs.index.search_index.Goals as goal

pub returns-in_err-content-clause-run : goal.returns-in_err-content-clause-run
returns-in_err-content-clause-run g c = λ k. wanting _ refl c.from_residual.ensures.1

pub returns-in_err-content-clause-causes : goal.returns-in_err-content-clause-causes
returns-in_err-content-clause-causes g c = caused (read_plain (list_of text_of)) search_index_error c.args.configuration.now (codes "/index/retrieve") Post None _ (λ k. wanting _ refl c.from_residual.ensures.1)

pub returns-clause-run : goal.returns-clause-run
returns-clause-run g c = λ k. rw c.in_ok-content.ensures at (c.call.ensures k)

pub returns-clause-causes : goal.returns-clause-causes
returns-clause-causes g c = caused (read_plain (list_of text_of)) search_index_error c.args.configuration.now (codes "/index/retrieve") Post (Some _) _ c.call.ensures
