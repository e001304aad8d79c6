-- What a contract sees of a source of pieces, and how a call changes it.
use Rattle.std.specs.Prelude.{◌≡◌, ℕ, List, [], ◌∷◌, ◌++◌, Option, Some}
use Rattle.std.specs.Io.KnownBytes.{Consumes}

-- the bytes that are left, and the pieces in which it will return them, each if the source exposes them; its fault count
pub record PieceState : Type 0 where
  pub left : Option (List ℕ)
  pub ahead : Option (List (List ℕ))
  pub faults : ℕ

-- these bytes were taken, a prefix of those that were left
abbrev pub Takes : List ℕ → PieceState → PieceState → Type 0
Takes bytes old new = Consumes old.left new.left bytes

-- these pieces were taken, the first of those that were ahead, if these are exposed
abbrev pub TakesPieces : List (List ℕ) → PieceState → PieceState → Type 0
TakesPieces pieces old new = (all : List (List ℕ)) → old.ahead ≡ Some all
    → (rest : List (List ℕ)) × (all ≡ pieces ++ rest) × (new.ahead ≡ Some rest)

-- no piece is ahead
abbrev pub NoneAhead : PieceState → Type 0
NoneAhead state = (rest : List (List ℕ)) → state.ahead ≡ Some rest → rest ≡ []

-- bytes as a piece: an empty piece is none
abbrev pub part : List ℕ → List (List ℕ)
part [] = []
part (b ∷ bytes) = (b ∷ bytes) ∷ []
