-- A frame as a part of a blob.
use Rattle.std.proofs.Common.{◌≡◌, ◌<◌, ℕ, Bool, true, false, List, [], ◌∷◌, length, Option, Some, None, sym, subst, ◌∙◌, arith}
use Rattle.std.specs.Prelude.{bytes_eq, codes, if◌then◌else◌}
use Rattle.live_link.specs.Frame.{kind_of}
use Rattle.live_link.specs.declared.frame.Frame.{Frame}
use Rattle.serde_json.specs.Data.{Data}
use Rattle.live_host.specs.Wire.{Wire, SendsFrame}
use Rattle.live_check.specs.Heads.{more_head}
use Rattle.live_check.specs.Parts.{IsPart, TakesFrame, part_by, part_of, piece_part, plain_part}
use Rattle.live_check.specs.declared.parts.Part.{Part}
use Rattle.live_check.specs.declared.parts.Part.TheVariants.{Piece, End, Failed}

piece_by : (b : Bool) (given bytes : List ℕ) → (if b then Some (Piece given) else None) ≡ Some (Piece bytes) → given ≡ bytes
piece_by true given bytes is = cc is
piece_by false given bytes is = absurd (cc is)

plain_by : (a b : Bool) (bytes : List ℕ) → (if a then Some End else (if b then Some Failed else None)) ≡ Some (Piece bytes) → ⊥
plain_by true b bytes is = cc is
plain_by false true bytes is = cc is
plain_by false false bytes is = cc is

-- a piece has at least one byte
some_by : (kind : Option (List ℕ)) (given bytes : List ℕ) → part_by kind given ≡ Some (Piece bytes) → 0 < length bytes
some_by None given bytes is = absurd (cc is)
some_by (Some kind) [] bytes is = absurd (plain_by (bytes_eq kind (codes "end")) (bytes_eq kind (codes "failed")) bytes is)
some_by (Some kind) (b ∷ given) bytes is = let same : b ∷ given ≡ bytes = piece_by (bytes_eq kind (codes "piece")) (b ∷ given) bytes is in subst (λ (xs : List ℕ). 0 < length xs) same (omega arith)

some_of : (frame : Frame) (bytes : List ℕ) → part_of frame ≡ Some (Piece bytes) → 0 < length bytes
unfolding part_of
some_of frame bytes is = some_by (kind_of frame.head) frame.bytes bytes is

pub some_bytes : (bytes : List ℕ) (old new : Wire) → IsPart (Piece bytes) old new → 0 < length bytes
some_bytes bytes old new part = some_of part.frame bytes part.is

-- the next part was asked for and received
pub is_part : (head : Data) (frame : Frame) (found : Option Part) (part : Part) (old mid new : Wire) → head ≡ more_head → SendsFrame head [] old mid → TakesFrame frame mid new → found ≡ part_of frame → found ≡ Some part → IsPart part old new
is_part head frame found part old mid new is_head told takes is_found some = record { asked_at = mid; asked = rw is_head at told; frame = frame; received = takes; is = sym is_found ∙ some }
