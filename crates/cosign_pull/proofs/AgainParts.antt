-- The parts of layers that are read again, one after another.
use Rattle.std.proofs.Common.{◌≡◌, ◌<◌, ℕ, ◌+◌, List, [], ◌∷◌, length, drop, get_or, sym, ap, ◌∙◌}
use Rattle.cosign_parts.specs.Trust.{Trust}
use Rattle.cosign_parts.specs.declared.layer.SignatureLayer.{SignatureLayer}
use Rattle.cosign_rows.specs.declared.found.Part.{Part}
use Rattle.cosign_rows.specs.Part.{appended}
use Rattle.cosign_rows.proofs.Descriptors.{at_next, joined_part, alone}
use Rattle.cosign_rows.specs.Again.{again_part, again_parts}

-- one more layer
pub again_next : (trust : Trust) (d : List ℕ) (xs : List SignatureLayer) (i : ℕ) (x : SignatureLayer) (p q all : Part) → i < length xs → x ≡ get_or xs i x
    → q ≡ appended p (again_part trust d x) → appended p (again_parts trust d (drop i xs)) ≡ all → appended q (again_parts trust d (drop (i + 1) xs)) ≡ all
again_next trust d xs i x p q all lt is more rest =
    ap (λ q. appended q (again_parts trust d (drop (i + 1) xs))) more
    ∙ joined_part p (again_part trust d x) (again_parts trust d (drop (i + 1) xs))
    ∙ ap (λ ys. appended p (again_parts trust d ys)) (sym (at_next xs i x lt is))
    ∙ rest

-- no layers left
pub again_end : (trust : Trust) (d : List ℕ) (xs : List SignatureLayer) (p all : Part) → xs ≡ [] → appended p (again_parts trust d xs) ≡ all → p ≡ all
again_end trust d xs p all none rest = sym (alone p) ∙ ap (λ ys. appended p (again_parts trust d ys)) (sym none) ∙ rest
