-- The pieces of a body, in the bytes that are received.
use Rattle.std.specs.Prelude.{ℕ, zero, suc, ◌&&◌, nat_le, List, [], ◌∷◌, ◌++◌, length, take, drop, Option, Some, None}
use Rattle.std.specs.Prelude.{if◌then◌else◌}
use Rattle.json_tables.specs.Reading.{◌>>=◌}
use Rattle.serde_json.specs.Data.{Data}
use Rattle.live_link.specs.Frame.{most_bytes, is_inside, head_of, size_of}
use Rattle.live_link.specs.declared.frame.Frame.{Frame}
use Rattle.live_link.specs.Replies.{reply_of}
use Rattle.live_link.specs.declared.replies.Reply.{Reply}
use Rattle.live_link.specs.declared.replies.Reply.TheVariants.{Answer, Piece, End, Failed, Other}

-- a line and what follows its line feed
abbrev pub with_first : ℕ → Option (List ℕ × List ℕ) → Option (List ℕ × List ℕ)
with_first b None = None
with_first b (Some parts) = Some (b ∷ parts.0, parts.1)

abbrev pub line_in : List ℕ → Option (List ℕ × List ℕ)
line_in [] = None
line_in (b ∷ bytes) = if is_inside b then with_first b (line_in bytes) else Some ([], bytes)

-- a frame and what follows it
abbrev pub sized_in : Data → List ℕ → ℕ → Option (Frame × List ℕ)
sized_in head rest n =
    if nat_le n most_bytes && nat_le n (length rest)
    then Some (record { head = head; bytes = take n rest }, drop n rest) else None

abbrev pub headed_in : List ℕ × List ℕ → Option (Frame × List ℕ)
headed_in parts =
    if nat_le (length parts.0) most_bytes
    then (head_of parts.0 >>= λ head. size_of head >>= sized_in head parts.1) else None

-- the frame that begins these bytes
unfoldable pub frame_in : List ℕ → Option (Frame × List ℕ)
frame_in bytes = line_in bytes >>= headed_in

abbrev pub piece_by : Reply → List ℕ → Option (List ℕ × List ℕ)
piece_by (Piece bytes) rest = Some (bytes, rest)
piece_by (Answer head) rest = None
piece_by End rest = None
piece_by Failed rest = None
piece_by Other rest = None

-- the piece that begins them
abbrev pub piece_in : List ℕ → Option (List ℕ × List ℕ)
piece_in bytes = frame_in bytes >>= λ found. piece_by (reply_of found.0) found.1

abbrev pub and_those : (List ℕ → List ℕ) → Option (List ℕ × List ℕ) → List ℕ
and_those later None = []
and_those later (Some found) = found.0 ++ later found.1

-- at most n pieces, one after another
abbrev pub pieces_in : ℕ → List ℕ → List ℕ
pieces_in zero bytes = []
pieces_in (suc n) bytes = and_those (pieces_in n) (piece_in bytes)

-- the pieces that begin these bytes, up to a frame that is not a piece, one after another
unfoldable pub body_in : List ℕ → List ℕ
body_in bytes = pieces_in (length bytes) bytes
