use Rattle.std.specs.Prelude.{refl}
use Rattle.registry_calls.specs.Log.{ManifestCall}
use Rattle.registry_cache.specs.Answers.{entry}
use Rattle.registry_cache.specs.declared.answer.Answer.TheVariants.{Manifest}
use Rattle.sig_registry.proofs.Facts.{absent, uncached, recalls, refuses, cuts, keeps}
use Rattle.sig_registry.proofs.NamedImages.{kept_named}
use Rattle.sig_registry.proofs.caching.OciCachingClientClientCapabilities.pull_manifest.Goals as goal

pub returns-in_err-found : goal.returns-in_err-found
returns-in_err-found g c = absent (ManifestCall c.args.image.now c.args.auth.now) c.args.moment c.from_residual.ensures.1

pub returns-in_default : goal.returns-in_default
returns-in_default g c = uncached (ManifestCall c.args.image.now c.args.auth.now) c.args.moment c.in_ok-found.ensures c.in_default.is c.manifest_made.ensures

pub returns-in_err-known : goal.returns-in_err-known
returns-in_err-known g c = absent (ManifestCall c.args.image.now c.args.auth.now) c.args.moment c.from_residual-in_err-known.ensures.1

pub returns-in-Some-known : goal.returns-in-Some-known
returns-in-Some-known g c = recalls (ManifestCall c.args.image.now c.args.auth.now) c.args.moment c.in_ok-found.ensures c.in-Some.is c.in_ok-known.ensures c.in-Some-known.is

pub returns-in_err-manifest : goal.returns-in_err-manifest
returns-in_err-manifest g c = refuses (ManifestCall c.args.image.now c.args.auth.now) c.args.moment c.in_ok-found.ensures c.in-Some.is c.in_ok-known.ensures c.in_default-known.is c.in_err-manifest.ensures c.from_residual-in_err-manifest.ensures.1

pub returns-in_err-keep_manifest : goal.returns-in_err-keep_manifest
returns-in_err-keep_manifest g c = cuts (ManifestCall c.args.image.now c.args.auth.now) c.args.moment c.in_ok-found.ensures c.in-Some.is c.in_ok-known.ensures c.in_default-known.is c.in_ok-manifest.ensures c.from_residual-in_err-keep_manifest.ensures.1 c.in_err-keep_manifest.ensures.err

pub returns : goal.returns
returns g c = keeps (ManifestCall c.args.image.now c.args.auth.now) c.args.moment c.in_ok-found.ensures c.in-Some.is c.in_ok-known.ensures c.in_default-known.is c.in_ok-manifest.ensures c.in_ok-keep_manifest.ensures.ok

pub invariant_of-self-2 : goal.invariant_of-self-2
invariant_of-self-2 g c = record { named = kept_named (entry c.in-Some.key c.args.moment (Manifest c.in_ok-manifest.manifest.0 c.in_ok-manifest.manifest.1)) c.keep_manifest.result c.args.self.now.answers c.keep_manifest.new.answers c.keep_manifest.ensures.ok c.keep_manifest.ensures.err refl c.args.self.now.named }
