-- The state of a replay of a case's registry.
use Rattle.std.specs.Prelude.{◌≡◌, IsTrue, List, Some, None}
use Rattle.oci_transport.specs.FaultsOnlyWhere.{faults_only_where}
use Rattle.oci_transport.specs.Link.{Link, Answering}
use Rattle.oci_transport.specs.Recorded as recorded
use Rattle.oci_transport.specs.Script as script
use Rattle.oci_transport.specs.declared.message.Exchange.{Exchange}
use Rattle.oci_link.specs.State as shelf
use Rattle.recorded_case.specs.declared.replay.Replay.{Replay}
use Rattle.recorded_case.specs.declared.replay.Replay.TheVariants.{Script, Shelf}
use Rattle.recorded_case.specs.declared.faultless_shelf.FaultlessShelf.{FaultlessShelf}

abbrev pub quiet_state_of : FaultlessShelf → Link
quiet_state_of t = shelf.state_of t.transport

abbrev pub state_of : Replay → Link
state_of (Script s) = script.state_of s
state_of (Shelf t) = quiet_state_of t

abbrev pub answering_of : Replay → Answering
answering_of (Script s) = recorded.answering (script.answers_of s)
answering_of (Shelf t) = shelf.answering (shelf.shelf_of t.transport)

-- the next request gets no answer: its send is recorded as one that fails, or no records are left
abbrev pub IsUnanswered : Replay → Type 0
IsUnanswered (Script s) = script.next_answer s ≡ None
IsUnanswered (Shelf t) = ⊥

-- a fault is recorded before the next piece, and has not occurred yet
abbrev pub FaultIsNext : Replay → Type 0
FaultIsNext (Script s) = script.stop_of s ≡ Some (script.given_of s)
FaultIsNext (Shelf t) = ⊥

-- it failed only if its recording or shelf may fail
abbrev pub FaultsOnlyWhereRecorded : Replay → Type 0
FaultsOnlyWhereRecorded replay = (told : List Exchange) → (state_of replay).told ≡ Some told
    → IsTrue (faults_only_where (answering_of replay).fails 0 told (state_of replay).faults)
