-- The report of a pull.
use Rattle.std.specs.Prelude.{ℕ, List, [], ◌∷◌, ◌++◌, Result, Ok, Err, codes, decimal, flat_map}
use Rattle.oci_transport.specs.declared.message.Exchange.{Exchange}
use Rattle.oci_manifests.specs.declared.descriptor.OciDescriptor.{OciDescriptor}
use Rattle.cosign_parts.specs.declared.layer.SignatureLayer.{SignatureLayer}
use Rattle.cosign_rows.specs.declared.found.Skipped.{Skipped}
use Rattle.cosign_chain.specs.declared.image.VerifiedImage.{VerifiedImage}
use Rattle.cosign_rows.specs.declared.refusal.PullRefusal.{PullRefusal}
use Rattle.cosign_rows.specs.declared.refusal.PullRefusal.TheVariants.{Unsatisfied}
use Rattle.pull_report.specs.Words.{line}
use Rattle.pull_report.specs.Prints.{skipped_print, refusal_print}
use Rattle.pull_report.specs.Lines.{exchange_line}

abbrev pub layer_line : OciDescriptor → List ℕ
layer_line layer = line (codes "layer" ∷ layer.digest ∷ [])

abbrev pub collected_line : SignatureLayer → List ℕ
collected_line layer = line (codes "collected" ∷ layer.oci_digest ∷ [])

abbrev pub skipped_line : Skipped → List ℕ
skipped_line skipped = line (codes "skipped" ∷ skipped_print skipped ∷ [])

-- the digests of configuration and layers are those of the manifest's descriptors
abbrev pub image_lines : VerifiedImage → List ℕ
image_lines image =
    line (codes "ok" ∷ image.digest ∷ [])
    ++ line (codes "manifest" ∷ image.manifest_digest ∷ [])
    ++ line (codes "config" ∷ image.manifest.config.digest ∷ [])
    ++ flat_map layer_line image.manifest.layers
    ++ line (codes "signature" ∷ image.signature.oci_digest ∷ [])

-- the signature layers that do not stand for the digest, and why others were not read
abbrev pub search_lines : PullRefusal → List ℕ
search_lines (Unsatisfied digest collected skipped) = flat_map collected_line collected ++ flat_map skipped_line skipped
search_lines _ = []

abbrev pub refusal_lines : PullRefusal → List ℕ
refusal_lines refusal = line (codes "refused" ∷ refusal_print refusal ∷ []) ++ search_lines refusal

abbrev pub outcome_lines : Result VerifiedImage PullRefusal → List ℕ
outcome_lines (Ok image) = image_lines image
outcome_lines (Err refusal) = refusal_lines refusal

-- the report of a pull at a moment, in seconds since 1970, with its conversation and its result
abbrev pub report : ℕ → List Exchange → Result VerifiedImage PullRefusal → List ℕ
report moment conversation outcome =
    line (codes "moment" ∷ decimal moment ∷ []) ++ flat_map exchange_line conversation ++ outcome_lines outcome
