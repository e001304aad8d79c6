use Rattle.json_tables.proofs.Refusals.{passed_on}
use Rattle.service_models.specs.SearchIndex.{search_index_of}
use Rattle.service_models.proofs.search_index.SearchIndexReads.read_value.Goals as goal

pub returns-in_err-email : goal.returns-in_err-email
unfolding search_index_of
returns-in_err-email c =
    passed_on _ _ _ (c.in_err-email.ensures.refused _) c.from_residual.ensures
