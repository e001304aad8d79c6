use Rattle.std.proofs.Common.{◌∙◌, sym}
use Rattle.registry_calls.specs.Log.{ImageCall}
use Rattle.registry_cache.specs.Answers.{entry}
use Rattle.registry_cache.specs.declared.answer.Answer.TheVariants.{Image}
use Rattle.sig_registry.proofs.Facts.{absent, uncached, recalls, refuses, cuts, keeps, unnamed, with_name}
use Rattle.sig_registry.proofs.NamedImages.{kept_named, known_named, refused_named}
use Rattle.sig_registry.proofs.caching.OciCachingClientClientCapabilities.pull.Goals as goal

pub returns-in_err-found : goal.returns-in_err-found
returns-in_err-found g c = with_name (absent (ImageCall c.args.image.now c.args.auth.now c.args.accepted_media_types.now) c.args.moment c.from_residual.ensures.1) (refused_named _ _ c.from_residual.ensures.1)

pub returns-in_default : goal.returns-in_default
returns-in_default g c = with_name (uncached (ImageCall c.args.image.now c.args.auth.now c.args.accepted_media_types.now) c.args.moment c.in_ok-found.ensures c.in_default.is (unnamed c.image_made.ensures)) c.image_made.ensures.named

pub returns-in_err-known : goal.returns-in_err-known
returns-in_err-known g c = with_name (absent (ImageCall c.args.image.now c.args.auth.now c.args.accepted_media_types.now) c.args.moment c.from_residual-in_err-known.ensures.1) (refused_named _ _ c.from_residual-in_err-known.ensures.1)

pub returns-in-Some-known : goal.returns-in-Some-known
returns-in-Some-known g c = with_name (recalls (ImageCall c.args.image.now c.args.auth.now c.args.accepted_media_types.now) c.args.moment c.in_ok-found.ensures c.in-Some.is c.in_ok-known.ensures c.in-Some-known.is) (known_named c.in-Some.key c.args.moment c.args.self.now.answers c.in-Some-known.data (sym c.in_ok-known.ensures ∙ c.in-Some-known.is) c.args.self.now.named)

pub returns-in_err-data : goal.returns-in_err-data
returns-in_err-data g c = with_name (refuses (ImageCall c.args.image.now c.args.auth.now c.args.accepted_media_types.now) c.args.moment c.in_ok-found.ensures c.in-Some.is c.in_ok-known.ensures c.in_default-known.is (unnamed c.in_err-data.ensures) c.from_residual-in_err-data.ensures.1) (refused_named _ _ c.from_residual-in_err-data.ensures.1)

pub returns-in_err-keep_image : goal.returns-in_err-keep_image
returns-in_err-keep_image g c = with_name (cuts (ImageCall c.args.image.now c.args.auth.now c.args.accepted_media_types.now) c.args.moment c.in_ok-found.ensures c.in-Some.is c.in_ok-known.ensures c.in_default-known.is (unnamed c.in_ok-data.ensures) c.from_residual-in_err-keep_image.ensures.1 c.in_err-keep_image.ensures.err) (refused_named _ _ c.from_residual-in_err-keep_image.ensures.1)

pub returns : goal.returns
returns g c = with_name (keeps (ImageCall c.args.image.now c.args.auth.now c.args.accepted_media_types.now) c.args.moment c.in_ok-found.ensures c.in-Some.is c.in_ok-known.ensures c.in_default-known.is (unnamed c.in_ok-data.ensures) c.in_ok-keep_image.ensures.ok) c.in_ok-data.ensures.named

pub invariant_of-self-2 : goal.invariant_of-self-2
invariant_of-self-2 g c = record { named = kept_named (entry c.in-Some.key c.args.moment (Image c.in_ok-data.data)) c.keep_image.result c.args.self.now.answers c.keep_image.new.answers c.keep_image.ensures.ok c.keep_image.ensures.err c.in_ok-data.ensures.named c.args.self.now.named }
