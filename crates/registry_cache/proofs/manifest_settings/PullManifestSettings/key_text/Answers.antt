use Rattle.registry_cache.proofs.KeyTexts.{manifest_plain, manifest_key_is}
use Rattle.registry_cache.proofs.manifest_settings.PullManifestSettings.key_text.Goals as goal

pub text_of-requires : goal.text_of-requires
text_of-requires c = manifest_plain c.args.self.now

pub returns-clause-key : goal.returns-clause-key
returns-clause-key c = manifest_key_is c.args.self.now c.text_of.result c.text_of.ensures
