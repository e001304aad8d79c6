use Rattle.std.specs.Prelude.{refl, option_copied}
use Rattle.registry_calls.specs.Log.{ReferrersCall}
use Rattle.registry_cache.specs.Answers.{entry}
use Rattle.registry_cache.specs.declared.answer.Answer.TheVariants.{Referrers}
use Rattle.sig_registry.proofs.Facts.{absent, uncached, recalls, refuses, cuts, keeps}
use Rattle.sig_registry.proofs.NamedImages.{kept_named}
use Rattle.sig_registry.proofs.caching.OciCachingClientClientCapabilities.pull_referrers.Goals as goal

pub returns-in_err-found : goal.returns-in_err-found
returns-in_err-found g c = absent (ReferrersCall c.args.image.now c.args.auth.now (option_copied c.args.artifact_type)) c.args.moment c.from_residual.ensures.1

pub returns-in_default : goal.returns-in_default
returns-in_default g c = uncached (ReferrersCall c.args.image.now c.args.auth.now (option_copied c.args.artifact_type)) c.args.moment c.in_ok-found.ensures c.in_default.is c.referrers_made.ensures

pub returns-in_err-known : goal.returns-in_err-known
returns-in_err-known g c = absent (ReferrersCall c.args.image.now c.args.auth.now (option_copied c.args.artifact_type)) c.args.moment c.from_residual-in_err-known.ensures.1

pub returns-in-Some-known : goal.returns-in-Some-known
returns-in-Some-known g c = recalls (ReferrersCall c.args.image.now c.args.auth.now (option_copied c.args.artifact_type)) c.args.moment c.in_ok-found.ensures c.in-Some.is c.in_ok-known.ensures c.in-Some-known.is

pub returns-in_err-index : goal.returns-in_err-index
returns-in_err-index g c = refuses (ReferrersCall c.args.image.now c.args.auth.now (option_copied c.args.artifact_type)) c.args.moment c.in_ok-found.ensures c.in-Some.is c.in_ok-known.ensures c.in_default-known.is c.in_err-index.ensures c.from_residual-in_err-index.ensures.1

pub returns-in_err-keep_referrers : goal.returns-in_err-keep_referrers
returns-in_err-keep_referrers g c = cuts (ReferrersCall c.args.image.now c.args.auth.now (option_copied c.args.artifact_type)) c.args.moment c.in_ok-found.ensures c.in-Some.is c.in_ok-known.ensures c.in_default-known.is c.in_ok-index.ensures c.from_residual-in_err-keep_referrers.ensures.1 c.in_err-keep_referrers.ensures.err

pub returns : goal.returns
returns g c = keeps (ReferrersCall c.args.image.now c.args.auth.now (option_copied c.args.artifact_type)) c.args.moment c.in_ok-found.ensures c.in-Some.is c.in_ok-known.ensures c.in_default-known.is c.in_ok-index.ensures c.in_ok-keep_referrers.ensures.ok

pub invariant_of-self-2 : goal.invariant_of-self-2
invariant_of-self-2 g c = record { named = kept_named (entry c.in-Some.key c.args.moment (Referrers c.in_ok-index.index)) c.keep_referrers.result c.args.self.now.answers c.keep_referrers.new.answers c.keep_referrers.ensures.ok c.keep_referrers.ensures.err refl c.args.self.now.named }
