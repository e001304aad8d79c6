use Rattle.registry_cache.proofs.KeyTexts.{referrers_plain, referrers_key_is}
use Rattle.registry_cache.proofs.referrers_settings.PullReferrersSettings.key_text.Goals as goal

pub text_of-requires : goal.text_of-requires
text_of-requires c = referrers_plain c.args.self.now

pub returns-clause-key : goal.returns-clause-key
returns-clause-key c = referrers_key_is c.args.self.now c.text_of.result c.text_of.ensures
