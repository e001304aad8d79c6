use Rattle.service_models.proofs.Again.{shard_again}
use Rattle.service_models.proofs.inactive_shard.InactiveShardLogInfoWrites.write_value.Goals as goal

pub returns-clause-again : goal.returns-clause-again
returns-clause-again c = shard_again c.args.self.now
