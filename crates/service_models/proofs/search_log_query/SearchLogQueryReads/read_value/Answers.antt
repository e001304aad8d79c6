use Rattle.json_tables.proofs.Refusals.{passed_on}
use Rattle.service_models.specs.SearchLogQuery.{query_of}
use Rattle.service_models.proofs.search_log_query.SearchLogQueryReads.read_value.Goals as goal

pub returns-in_err-entry_uuids : goal.returns-in_err-entry_uuids
unfolding query_of
returns-in_err-entry_uuids c =
    passed_on _ _ _ (c.in_err-entry_uuids.ensures.refused _) c.from_residual.ensures
