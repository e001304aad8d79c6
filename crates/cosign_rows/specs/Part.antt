-- The result of a source of signatures: layers that were read, and why others were not.
use Rattle.std.specs.Prelude.{ℕ, List, [], ◌∷◌, ◌++◌, find, Option, Some, None, Result, Ok, Err, unwrap_or}
use Rattle.std.specs.FinMap as map_of
use Rattle.oci_digests.specs.Names.{names, digest_text}
use Rattle.oci_names.specs.declared.algorithm.Algorithm.TheVariants.{Sha256}
use Rattle.oci_manifests.specs.declared.descriptor.OciDescriptor.{OciDescriptor}
use Rattle.oci_manifests.specs.declared.blob.ImageLayer.{ImageLayer}
use Rattle.cosign_layers.specs.Checks.{input, layer_read}
use Rattle.cosign_parts.specs.Trust.{Trust}
use Rattle.cosign_parts.specs.declared.layer.LayerKind.TheVariants as kinds
use Rattle.cosign_parts.specs.declared.layer.SignatureLayer.{SignatureLayer}
use Rattle.cosign_layers.specs.declared.rejection.LayerRejection.{LayerRejection}
use Rattle.cosign_layers.specs.declared.rejection.LayerRejection.TheVariants.{LayerNotPulled}
use Rattle.cosign_rows.specs.declared.found.Part.{Part}
use Rattle.cosign_rows.specs.declared.found.Skipped.{Skipped}
use Rattle.cosign_rows.specs.declared.found.Skipped.TheVariants.{Layer}
use Rattle.cosign_rows.specs.declared.found.SourceKind.{SourceKind}
use Rattle.cosign_rows.specs.declared.found.SourceKind.TheVariants.{Tag, Referrers}

abbrev pub nothing : Part
nothing = record { collected = []; skipped = [] }

abbrev pub skipping : Skipped → Part
skipping cause = record { collected = []; skipped = cause ∷ [] }

-- one part followed by another
abbrev pub appended : Part → Part → Part
appended p q = record { collected = p.collected ++ q.collected; skipped = p.skipped ++ q.skipped }

-- a layer that was read, or why it was not
abbrev pub layer_part : SourceKind → List ℕ → Result SignatureLayer LayerRejection → Part
layer_part kind digest (Ok layer) = record { collected = layer ∷ []; skipped = [] }
layer_part kind digest (Err cause) = skipping (Layer kind digest cause)

-- the first pulled layer that the digest names
abbrev pub named_layer : List ℕ → List ImageLayer → Option ImageLayer
named_layer digest layers = find (λ layer. names digest layer.content) layers

-- the signature layer of a pulled layer, with the digest and the annotations of its descriptor
abbrev pub read_layer : Trust → List ℕ → OciDescriptor → Option ImageLayer → Result SignatureLayer LayerRejection
read_layer trust d x None = Err LayerNotPulled
read_layer trust d x (Some layer) =
    layer_read trust d (input kinds.Payload layer.content x.digest (unwrap_or x.annotations map_of.empty))

-- the part of a descriptor under the signature tag, for the image of digest d
abbrev pub descriptor_part : Trust → List ℕ → List ImageLayer → OciDescriptor → Part
descriptor_part trust d layers x = layer_part Tag x.digest (read_layer trust d x (named_layer x.digest layers))

-- the parts of the descriptors, in order
abbrev pub descriptors_part : Trust → List ℕ → List ImageLayer → List OciDescriptor → Part
descriptors_part trust d layers [] = nothing
descriptors_part trust d layers (x ∷ xs) =
    appended (descriptor_part trust d layers x) (descriptors_part trust d layers xs)

-- the signature layer of a referrer's bundle, by its SHA-256 text and with its annotations
abbrev pub read_bundle : Trust → List ℕ → List ℕ → ImageLayer → Result SignatureLayer LayerRejection
read_bundle trust d text layer =
    layer_read trust d (input kinds.Bundle layer.content text (unwrap_or layer.annotations map_of.empty))

-- the part of a bundle, for the image of digest d
abbrev pub bundle_part : Trust → List ℕ → ImageLayer → Part
bundle_part trust d layer =
    let text = digest_text Sha256 layer.content in
    layer_part Referrers text (read_bundle trust d text layer)

-- the parts of the bundles, in order
abbrev pub bundles_part : Trust → List ℕ → List ImageLayer → Part
bundles_part trust d [] = nothing
bundles_part trust d (x ∷ xs) = appended (bundle_part trust d x) (bundles_part trust d xs)
