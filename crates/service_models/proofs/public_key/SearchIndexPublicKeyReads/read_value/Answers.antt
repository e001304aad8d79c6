use Rattle.json_tables.proofs.Refusals.{passed_on}
use Rattle.service_models.specs.PublicKey.{public_key_of}
use Rattle.service_models.proofs.public_key.SearchIndexPublicKeyReads.read_value.Goals as goal

pub returns-in_err-format : goal.returns-in_err-format
unfolding public_key_of
returns-in_err-format c =
    passed_on _ _ _ (c.in_err-format.ensures.refused _) c.from_residual.ensures
