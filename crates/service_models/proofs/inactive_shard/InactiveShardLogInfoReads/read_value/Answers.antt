use Rattle.json_tables.proofs.Refusals.{passed_on}
use Rattle.service_models.specs.InactiveShard.{shard_of}
use Rattle.service_models.proofs.inactive_shard.InactiveShardLogInfoReads.read_value.Goals as goal

pub returns-in_err-root_hash : goal.returns-in_err-root_hash
unfolding shard_of
returns-in_err-root_hash c =
    passed_on _ _ _ (c.in_err-root_hash.ensures.refused _) c.from_residual.ensures
