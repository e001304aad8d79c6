-- Pieces cut into chunks: one after another, and the bytes of all.
use Rattle.std.proofs.Common.{◌≡◌, ℕ, List, [], ◌∷◌, ◌++◌, refl, sym, ap, ◌∙◌, append_assoc, append-nil}
use Rattle.oci_transport.specs.Pieces.{joined}
use Rattle.push_rows.specs.Uploads.{chunks}
use Rattle.push_rows.proofs.Carried.{joined_both, joined_chunks}
use Rattle.engine_push.specs.Sources.{cuts}

pub cuts_both : (a b : List (List ℕ)) → cuts (a ++ b) ≡ cuts a ++ cuts b
cuts_both [] b = refl
cuts_both (x ∷ a) b = ap (λ rest. chunks x ++ rest) (cuts_both a b) ∙ sym (append_assoc (chunks x) (cuts a) (cuts b))

pub cuts_one : (pieces : List (List ℕ)) (piece : List ℕ) → cuts (pieces ++ piece ∷ []) ≡ cuts pieces ++ chunks piece
cuts_one pieces piece = cuts_both pieces (piece ∷ []) ∙ ap (λ rest. cuts pieces ++ rest) (append-nil (chunks piece))

pub joined_cuts : (pieces : List (List ℕ)) → joined (cuts pieces) ≡ joined pieces
joined_cuts [] = refl
joined_cuts (x ∷ pieces) = joined_both (chunks x) (cuts pieces) ∙ ap (λ bytes. bytes ++ joined (cuts pieces)) (joined_chunks x) ∙ ap (λ rest. x ++ rest) (joined_cuts pieces)
