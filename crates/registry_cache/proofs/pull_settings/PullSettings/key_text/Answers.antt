use Rattle.registry_cache.proofs.KeyTexts.{pull_plain, pull_key_is}
use Rattle.registry_cache.proofs.pull_settings.PullSettings.key_text.Goals as goal

pub text_of-requires : goal.text_of-requires
text_of-requires c = pull_plain c.args.self.now

pub returns-clause-key : goal.returns-clause-key
returns-clause-key c = pull_key_is c.args.self.now c.text_of.result c.text_of.ensures
