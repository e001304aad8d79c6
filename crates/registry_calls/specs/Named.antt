-- Whether the layers of a pulled image are those that its manifest names.
use Rattle.std.specs.Prelude.{Bool, true, false, ◌&&◌, List, [], ◌∷◌, Option, Some, None}
use Rattle.oci_digests.specs.Names.{names}
use Rattle.oci_manifests.specs.declared.descriptor.OciDescriptor.{OciDescriptor}
use Rattle.oci_manifests.specs.declared.blob.ImageLayer.{ImageLayer}
use Rattle.oci_manifests.specs.declared.manifest.OciImageManifest.{OciImageManifest}
use Rattle.engine_rows.specs.declared.image.ImageData.{ImageData}
use Rattle.registry_cache.specs.declared.answer.Answer.{Answer}
use Rattle.registry_cache.specs.declared.answer.Answer.TheVariants.{Image}
use Rattle.registry_cache.specs.declared.answers.Entry.{Entry}

-- one layer for each descriptor, and the descriptor's digest names its content
abbrev pub names_each : List OciDescriptor → List ImageLayer → Bool
names_each [] [] = true
names_each (x ∷ xs) (layer ∷ layers) = names x.digest layer.content && names_each xs layers
names_each _ _ = false

abbrev pub named_by : Option OciImageManifest → List ImageLayer → Bool
named_by None layers = false
named_by (Some manifest) layers = names_each manifest.layers layers

-- the image has its manifest, whose descriptors name its layers, each at its index
abbrev pub is_named : ImageData → Bool
is_named image = named_by image.manifest image.layers

-- the same for a response, if it is an image
abbrev pub answer_named : Answer → Bool
answer_named (Image image) = is_named image
answer_named _ = true

-- the same for all cached responses
abbrev pub all_named : List Entry → Bool
all_named [] = true
all_named (e ∷ es) = answer_named e.answer && all_named es
