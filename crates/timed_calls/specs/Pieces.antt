-- Transports and a source of pieces that expose nothing.
use Rattle.std.specs.Prelude.{true, None}
use Rattle.oci_transport.specs.Link.{Link}
use Rattle.push_rows.specs.PieceStates.{PieceState}
use Rattle.timed_calls.specs.declared.accepting.Accepting.{Accepting}
use Rattle.timed_calls.specs.declared.accepting.Given.{Given}
use Rattle.timed_calls.specs.declared.pieces.Pieces.{Pieces}

abbrev pub untold : Pieces → Link
untold t = record { told = None; rest = None; pieces = None; faults = 0; exact = true; answers = None }

abbrev pub accepts_all : Accepting → Link
accepts_all t = record { told = None; rest = None; pieces = None; faults = 0; exact = true; answers = None }

abbrev pub unexposed : Given → PieceState
unexposed source = record { left = None; ahead = None; faults = 0 }
