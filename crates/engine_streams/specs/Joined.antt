-- The concatenation of the pieces of a stream that successive calls of `next` return.
use Rattle.std.specs.Prelude.{◌≡◌, ℕ, List, [], ◌∷◌, ◌++◌, Some, None, Ok}
use Rattle.std.specs.List.{concat}
use Rattle.oci_transport.specs.Link.{Link}
use Rattle.engine_streams.specs.Streams.{compared, opening_of, IsOpen, Next}
use Rattle.engine_streams.specs.declared.stream.SizedStream.{SizedStream}

-- These pieces were returned in turn by a stream that returned the bytes `gave` before: each `next` got the transport
-- as the one before left it.
abbrev pub GivesPieces : ℕ → List ℕ → List (List ℕ) → SizedStream → SizedStream → Link → Link → Type 0
GivesPieces limit gave [] s t old new = (s ≡ t) × (old ≡ new)
GivesPieces limit gave (piece ∷ pieces) s t old new = (between : SizedStream) × (link : Link)
    × Next limit gave between old link (Ok (Some piece)) × (opening_of between ≡ opening_of s)
    × GivesPieces limit (gave ++ piece) pieces between t link new

-- these bytes are a prefix of what was left
abbrev pub IsPrefix : List ℕ → Link → Link → Type 0
IsPrefix bytes old new = (rest : List ℕ) → old.rest ≡ Some rest
    → (left : List ℕ) × (rest ≡ bytes ++ left) × (new.rest ≡ Some left)

-- these bytes are all that was left
abbrev pub IsAll : List ℕ → Link → Type 0
IsAll bytes old = (rest : List ℕ) → old.rest ≡ Some rest → bytes ≡ rest

-- The pieces joined are a prefix of the body that was left, and the stream may return more.
abbrev pub PiecesArePrefix : Type 0
PiecesArePrefix = (limit : ℕ) (gave : List ℕ) (pieces : List (List ℕ)) (s t : SizedStream) (old new : Link)
    → IsOpen limit gave s → GivesPieces limit gave pieces s t old new
    → IsPrefix (concat pieces) old new × IsOpen limit (gave ++ concat pieces) t

-- If the next one is at the stream's end, the pieces are the whole body that was left, and the digests that the stream
-- compares name all that it returned.
abbrev pub PiecesAreWhole : Type 0
PiecesAreWhole = (limit : ℕ) (gave : List ℕ) (pieces : List (List ℕ)) (s t u : SizedStream) (old new end : Link)
    → GivesPieces limit gave pieces s t old new
    → Next limit (gave ++ concat pieces) u new end (Ok None) → opening_of u ≡ opening_of t
    → IsAll (concat pieces) old × (compared (opening_of s).digests (gave ++ concat pieces) ≡ Ok tt)
