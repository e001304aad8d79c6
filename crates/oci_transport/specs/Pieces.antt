-- The pieces of a body.
use Rattle.std.specs.Prelude.{◌<◌, ℕ, List, length, All}
use Rattle.std.specs.List.{flat_map}

-- no piece is empty
abbrev pub NoneEmpty : List (List ℕ) → Type 0
NoneEmpty pieces = All (λ piece. 0 < length piece) pieces

-- the concatenation of these pieces
abbrev pub joined : List (List ℕ) → List ℕ
joined pieces = flat_map (λ piece. piece) pieces
