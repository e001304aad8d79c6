-- The calls whose answers are kept: the kind of each, and how its answers are kept and read.
use Rattle.std.specs.Prelude.{ℕ, List}
use Rattle.oci_manifests.specs.declared.document.OciManifest.{OciManifest}
use Rattle.oci_manifests.specs.declared.index.OciImageIndex.{OciImageIndex}
use Rattle.engine_rows.specs.declared.image.ImageData.{ImageData}
use Rattle.registry_cache.specs.Answers.{as_digest, as_manifest, as_image, as_referrers}
use Rattle.registry_cache.specs.declared.answer.Answer.TheVariants.{Digest, Manifest, Image, Referrers}
use Rattle.registry_cache.specs.declared.answer.Kind.TheVariants as kinds
use Rattle.registry_cache.specs.Caching.{Cache}

abbrev pub digests : Cache (List ℕ)
digests = record { kind = kinds.Digests; kept_as = Digest; read = as_digest }

abbrev pub manifests : Cache (OciManifest × List ℕ)
manifests = record { kind = kinds.Manifests; kept_as = λ pair. Manifest pair.0 pair.1; read = as_manifest }

abbrev pub images : Cache ImageData
images = record { kind = kinds.Images; kept_as = Image; read = as_image }

abbrev pub referrers : Cache OciImageIndex
referrers = record { kind = kinds.Referrers; kept_as = Referrers; read = as_referrers }
