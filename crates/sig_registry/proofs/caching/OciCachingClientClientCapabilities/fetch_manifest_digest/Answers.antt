use Rattle.std.specs.Prelude.{refl}
use Rattle.registry_calls.specs.Log.{DigestCall}
use Rattle.registry_cache.specs.Answers.{entry}
use Rattle.registry_cache.specs.declared.answer.Answer.TheVariants.{Digest}
use Rattle.sig_registry.proofs.Facts.{absent, uncached, recalls, refuses, cuts, keeps}
use Rattle.sig_registry.proofs.NamedImages.{kept_named}
use Rattle.sig_registry.proofs.caching.OciCachingClientClientCapabilities.fetch_manifest_digest.Goals as goal

pub returns-in_err-found : goal.returns-in_err-found
returns-in_err-found g c = absent (DigestCall c.args.image.now c.args.auth.now) c.args.moment c.from_residual.ensures.1

pub returns-in_default : goal.returns-in_default
returns-in_default g c = uncached (DigestCall c.args.image.now c.args.auth.now) c.args.moment c.in_ok-found.ensures c.in_default.is c.digest_made.ensures

pub returns-in_err-known : goal.returns-in_err-known
returns-in_err-known g c = absent (DigestCall c.args.image.now c.args.auth.now) c.args.moment c.from_residual-in_err-known.ensures.1

pub returns-in-Some-known : goal.returns-in-Some-known
returns-in-Some-known g c = recalls (DigestCall c.args.image.now c.args.auth.now) c.args.moment c.in_ok-found.ensures c.in-Some.is c.in_ok-known.ensures c.in-Some-known.is

pub returns-in_err-digest : goal.returns-in_err-digest
returns-in_err-digest g c = refuses (DigestCall c.args.image.now c.args.auth.now) c.args.moment c.in_ok-found.ensures c.in-Some.is c.in_ok-known.ensures c.in_default-known.is c.in_err-digest.ensures c.from_residual-in_err-digest.ensures.1

pub returns-in_err-keep_digest : goal.returns-in_err-keep_digest
returns-in_err-keep_digest g c = cuts (DigestCall c.args.image.now c.args.auth.now) c.args.moment c.in_ok-found.ensures c.in-Some.is c.in_ok-known.ensures c.in_default-known.is c.in_ok-digest.ensures c.from_residual-in_err-keep_digest.ensures.1 c.in_err-keep_digest.ensures.err

pub returns : goal.returns
returns g c = keeps (DigestCall c.args.image.now c.args.auth.now) c.args.moment c.in_ok-found.ensures c.in-Some.is c.in_ok-known.ensures c.in_default-known.is c.in_ok-digest.ensures c.in_ok-keep_digest.ensures.ok

pub invariant_of-self-2 : goal.invariant_of-self-2
invariant_of-self-2 g c = record { named = kept_named (entry c.in-Some.key c.args.moment (Digest c.in_ok-digest.digest)) c.keep_digest.result c.args.self.now.answers c.keep_digest.new.answers c.keep_digest.ensures.ok c.keep_digest.ensures.err refl c.args.self.now.named }
