-- The signature of a bundle about one image.
use Rattle.std.specs.Prelude.{ℕ, List, [], Option, Some, None, Result, Ok, Err, false, codes}
use Rattle.std.specs.FinMap.{empty}
use Rattle.oci_digests.specs.Names.{digest_text}
use Rattle.oci_names.specs.declared.algorithm.Algorithm.TheVariants.{Sha256}
use Rattle.cosign_layers.specs.Checks.{input, layer_read}
use Rattle.cosign_parts.specs.Trust.{trust}
use Rattle.cosign_parts.specs.Verifier.{valid_in}
use Rattle.cosign_parts.specs.declared.layer.LayerKind.TheVariants.{Bundle}
use Rattle.cosign_parts.specs.declared.layer.SignatureLayer.{SignatureLayer}
use Rattle.cosign_layers.specs.declared.rejection.LayerRejection.{LayerRejection}

-- the signature of the layer that was read
abbrev pub signature_in : Result SignatureLayer LayerRejection → Option (List ℕ)
signature_in (Ok layer) = Some layer.signature
signature_in (Err rejection) = None

-- the signature of the layer in the bytes, without any trust
abbrev pub bundle_signature : List ℕ → Option (List ℕ)
bundle_signature content =
    signature_in (layer_read (trust (valid_in (record { rows = [] })) (λ evidence. None) empty)
    (codes "sha256:b94d27b9934d3e08a52e52d7da7dabfac484efe37a5380ee9088f7ace2efcde9")
    (input Bundle content (digest_text Sha256 content) empty))
