use Rattle.registry_cache.proofs.Tells.{manifest_keys_tell, pull_keys_tell, referrers_keys_tell}
use Rattle.registry_cache.proofs.key_laws.keys_tell_settings.Goals as goal

pub returns-clause-manifests : goal.returns-clause-manifests
returns-clause-manifests c = manifest_keys_tell

pub returns-clause-pulls : goal.returns-clause-pulls
returns-clause-pulls c = pull_keys_tell

pub returns-clause-referrers : goal.returns-clause-referrers
returns-clause-referrers c = referrers_keys_tell
