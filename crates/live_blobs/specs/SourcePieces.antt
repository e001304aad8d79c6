-- The state of a source's bytes as pieces.
use Rattle.std.specs.Prelude.{None}
use Rattle.byte_streams.specs.Source.{SourceState}
use Rattle.push_rows.specs.PieceStates.{PieceState}
use Rattle.live_blobs.specs.declared.source_pieces.SourcePieces.{SourcePieces}

-- what the source has left, without the pieces in which it gives it
abbrev pub by_pieces : SourceState → PieceState
by_pieces s = record { left = s.left; ahead = None; faults = s.faults }

abbrev pub pieces_state : {B : Type 0} → (B → SourceState) → SourcePieces B → PieceState
pieces_state state pieces = by_pieces (state pieces.source)
