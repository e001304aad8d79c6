-- Recorded answers, and how a script answers with them.
use Rattle.std.specs.Prelude.{ℕ, List, length, slice_get, take, Option, Some, None, option_map, if◌then◌else◌}
use Rattle.oci_transport.specs.declared.recorded.Recorded.{Recorded}
use Rattle.oci_transport.specs.declared.message.Answer.{Answer}
use Rattle.oci_transport.specs.Link.{Answering}
use Rattle.oci_transport.specs.Pieces.{joined}
use Rattle.std.specs.Prelude.{zero, suc, Bool, true, false, ◌||◌, ◌&&◌, nat_le, is_some, IsTrue, [], ◌∷◌}
use Rattle.json_values.specs.Counts.{incremented}
use Rattle.oci_transport.specs.FaultsOnlyWhere.{faults_only_where}
use Rattle.oci_transport.specs.declared.message.Exchange.{Exchange}

-- a record as a complete answer
abbrev pub answer_in : Recorded → Answer
answer_in r = record { status = r.status; headers = r.headers; body = joined r.pieces }

-- the answer of a record, or none if the send fails or there is no record
abbrev pub recorded_answer : Option Recorded → Option Answer
recorded_answer None = None
recorded_answer (Some r) = if r.fails then None else Some (answer_in r)

-- the pieces of its body
abbrev pub pieces_of : Option Recorded → List (List ℕ)
pieces_of None = []
pieces_of (Some r) = if r.fails then [] else r.pieces

-- the number, if there are that many pieces
abbrev pub stop_within : Option ℕ → ℕ → Option ℕ
stop_within None count = None
stop_within (Some n) count = if nat_le n count then Some n else None

-- before how many pieces a call fails
abbrev pub fails_before_of : Option Recorded → Option ℕ
fails_before_of None = None
fails_before_of (Some r) = if r.fails then None else stop_within r.fails_before (length r.pieces)

-- whether something may fail there
abbrev pub may_fail : Option Recorded → Bool
may_fail None = true
may_fail (Some r) = r.fails || is_some (stop_within r.fails_before (length r.pieces))

-- the number of bytes in the first n pieces
abbrev pub bytes_within : List (List ℕ) → ℕ → ℕ
bytes_within pieces count = length (joined (take count pieces))

-- after how many bytes of its body a call fails
abbrev pub break_of : Option Recorded → Option ℕ
break_of r = option_map (bytes_within (pieces_of r)) (fails_before_of r)

-- one record after another, for any requests
unfoldable pub answering : List Recorded → Answering
answering items = record {
  answer = λ place request. recorded_answer (slice_get items place);
  fails = λ place. may_fail (slice_get items place);
  breaks = λ place. break_of (slice_get items place);
}

-- these exchanges have the recorded answers, and the fault count after them increased only if a record may fail
abbrev pub FaultsOnlyWhereRecorded : List Recorded → List Exchange → ℕ → Type 0
FaultsOnlyWhereRecorded items told count = IsTrue (faults_only_where (answering items).fails 0 told count)

-- the pieces of the last answer, given the number of requests sent
abbrev pub last_pieces : List Recorded → ℕ → List (List ℕ)
last_pieces items zero = []
last_pieces items (suc place) = pieces_of (slice_get items place)

-- before how many of them a call fails
abbrev pub last_stop : List Recorded → ℕ → Option ℕ
last_stop items zero = None
last_stop items (suc place) = fails_before_of (slice_get items place)

-- the fault count when the last of these exchanges was sent, or this one if there is none
abbrev pub last_count : List Exchange → ℕ → ℕ
last_count [] count = count
last_count (e ∷ []) count = e.faults
last_count (e ∷ f ∷ c) count = last_count (f ∷ c) count

-- no more pieces were returned than come before the fault
abbrev pub not_past : Option ℕ → ℕ → Bool
not_past None given = true
not_past (Some n) given = nat_le given n

-- since the last request was sent, at this fault count, a fault occurred, or no piece after one was returned
abbrev pub met : Option ℕ → ℕ → Bool → ℕ → ℕ → Bool
met stop given true sent count = nat_le (incremented sent) count
met stop given false sent count = nat_le sent count && not_past stop given

-- the same for the last of these exchanges, of which `given` pieces were returned
abbrev pub HasMet : List Recorded → List Exchange → ℕ → Bool → ℕ → Type 0
HasMet items told given stopped count =
    IsTrue (met (last_stop items (length told)) given stopped (last_count told count) count)
