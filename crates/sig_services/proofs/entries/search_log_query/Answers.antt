use Rattle.std.proofs.Common.{refl, inl, inr, Some, None, codes}
use Rattle.sig_services.specs.Body.{text_body}
use Rattle.service_models.specs.SearchLogQuery.{query_written}
use Rattle.oci_transport.specs.declared.message.Method.TheVariants.{Post}
use Rattle.sig_services.specs.Entities.{search_log_error}
use Rattle.sig_services.specs.Error.{is_memory}
use Rattle.sig_services.specs.declared.error.Error.TheVariants.{WantOfMemory}
use Rattle.oci_protocol.proofs.Exits.{wanting, wanted}
use Rattle.sig_services.proofs.CallCauses.{caused}
use Rattle.sig_services.proofs.entries.search_log_query.Goals as goal

pub returns-in_err-value-clause-run : goal.returns-in_err-value-clause-run
returns-in_err-value-clause-run g c = inr (refl, wanted is_memory WantOfMemory c.from_residual.result refl c.from_residual.ensures.1)

pub returns-in_err-value-clause-causes : goal.returns-in_err-value-clause-causes
returns-in_err-value-clause-causes g c = caused text_body search_log_error c.args.configuration.now (codes "/log/entries/retrieve") Post None _ (λ k. wanting _ refl c.from_residual.ensures.1)

pub returns-in_err-content-clause-run : goal.returns-in_err-content-clause-run
returns-in_err-content-clause-run g c = inr (refl, wanted is_memory WantOfMemory c.from_residual-in_err-content.result refl c.from_residual-in_err-content.ensures.1)

pub returns-in_err-content-clause-causes : goal.returns-in_err-content-clause-causes
returns-in_err-content-clause-causes g c = caused text_body search_log_error c.args.configuration.now (codes "/log/entries/retrieve") Post None _ (λ k. wanting _ refl c.from_residual-in_err-content.ensures.1)

pub returns-clause-run : goal.returns-clause-run
returns-clause-run g c = inl (record { text = _; compact = rw c.in_ok-value.ensures.exact at c.in_ok-content.ensures; met = c.call.ensures })

pub returns-clause-causes : goal.returns-clause-causes
returns-clause-causes g c = caused text_body search_log_error c.args.configuration.now (codes "/log/entries/retrieve") Post (Some _) _ c.call.ensures
