-- The parts of a referrer's bundles, one after another.
use Rattle.std.proofs.Common.{◌≡◌, ◌<◌, ℕ, ◌+◌, List, [], ◌∷◌, length, drop, get_or, sym, ap, ◌∙◌}
use Rattle.oci_manifests.specs.declared.blob.ImageLayer.{ImageLayer}
use Rattle.cosign_parts.specs.Trust.{Trust}
use Rattle.cosign_rows.specs.declared.found.Part.{Part}
use Rattle.cosign_rows.specs.Part.{appended, bundle_part, bundles_part, nothing}
use Rattle.cosign_rows.proofs.Descriptors.{at_next, joined_part, alone}

-- one more bundle
pub bundles_next : (trust : Trust) (d : List ℕ) (xs : List ImageLayer) (i : ℕ) (x : ImageLayer) (p q all : Part) → i < length xs → x ≡ get_or xs i x
    → q ≡ appended p (bundle_part trust d x) → appended p (bundles_part trust d (drop i xs)) ≡ all → appended q (bundles_part trust d (drop (i + 1) xs)) ≡ all
bundles_next trust d xs i x p q all lt is more rest =
    ap (λ q. appended q (bundles_part trust d (drop (i + 1) xs))) more
    ∙ joined_part p (bundle_part trust d x) (bundles_part trust d (drop (i + 1) xs))
    ∙ ap (λ ys. appended p (bundles_part trust d ys)) (sym (at_next xs i x lt is))
    ∙ rest

-- no bundles left
pub bundles_end : (trust : Trust) (d : List ℕ) (xs : List ImageLayer) (p all : Part) → xs ≡ [] → appended p (bundles_part trust d xs) ≡ all → p ≡ all
bundles_end trust d xs p all none rest = sym (alone p) ∙ ap (λ ys. appended p (bundles_part trust d ys)) (sym none) ∙ rest
