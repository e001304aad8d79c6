-- Layers that were found, read again from their bytes and annotations under another trust.
use Rattle.std.specs.Prelude.{ℕ, List, [], ◌∷◌, ◌++◌}
use Rattle.cosign_layers.specs.Checks.{layer_read}
use Rattle.cosign_layers.specs.Read.{input_of}
use Rattle.cosign_parts.specs.Trust.{Trust}
use Rattle.cosign_parts.specs.declared.layer.LayerKind.{LayerKind}
use Rattle.cosign_parts.specs.declared.layer.LayerKind.TheVariants.{Payload, Bundle}
use Rattle.cosign_parts.specs.declared.layer.SignatureLayer.{SignatureLayer}
use Rattle.cosign_rows.specs.Part.{nothing, appended, layer_part}
use Rattle.cosign_rows.specs.declared.found.Part.{Part}
use Rattle.cosign_rows.specs.declared.found.SourceKind.{SourceKind}
use Rattle.cosign_rows.specs.declared.found.SourceKind.TheVariants.{Tag, Referrers}
use Rattle.cosign_rows.specs.declared.found.TrustedLayers.{TrustedLayers}

-- where layers of this kind are found: payloads under the signature tag, bundles among the referrers
abbrev pub source_of : LayerKind → SourceKind
source_of Payload = Tag
source_of Bundle = Referrers

-- the layer as it is read for the image of digest d under this trust, or why it is not
abbrev pub again_part : Trust → List ℕ → SignatureLayer → Part
again_part trust d layer =
    layer_part (source_of layer.kind) layer.oci_digest (layer_read trust d (input_of layer))

-- the parts of the layers, in order
abbrev pub again_parts : Trust → List ℕ → List SignatureLayer → Part
again_parts trust d [] = nothing
again_parts trust d (layer ∷ layers) = appended (again_part trust d layer) (again_parts trust d layers)

-- layers that are rejected now are skipped after those that were skipped before
abbrev pub read_again : Trust → TrustedLayers → TrustedLayers
read_again trust found =
    let again = again_parts trust found.digest found.collected in
    record { digest = found.digest; collected = again.collected; skipped = found.skipped ++ again.skipped }
