-- The state of pieces in memory.
use Rattle.std.specs.Prelude.{ℕ, List, Some, drop}
use Rattle.oci_transport.specs.Pieces.{joined}
use Rattle.push_rows.specs.PieceStates.{PieceState}
use Rattle.engine_push.specs.declared.memory_pieces.MemoryPieces.{MemoryPieces}

-- the pieces that are left, and their bytes
abbrev pub source_state : MemoryPieces → PieceState
source_state s = record { left = Some (joined (drop s.at s.pieces)); ahead = Some (drop s.at s.pieces); faults = s.faults }

-- the number of calls so far, saturating at `u64::MAX`
abbrev pub calls_of : MemoryPieces → ℕ
calls_of s = s.calls

-- the calls at which it fails
abbrev pub failing_of : MemoryPieces → List ℕ
failing_of s = s.failing
