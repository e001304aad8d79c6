-- The state of a script.
use Rattle.std.specs.Prelude.{◌≡◌, ℕ, true, List, [], ◌++◌, length, take, drop, slice_get, Option, Some}
use Rattle.std.specs.Prelude.{None, if◌then◌else◌}
use Rattle.oci_transport.specs.declared.script.Script.{Script}
use Rattle.oci_transport.specs.declared.recorded.Recorded.{Recorded}
use Rattle.oci_transport.specs.declared.message.Answer.{Answer}
use Rattle.oci_transport.specs.Link.{Link}
use Rattle.oci_transport.specs.Pieces.{joined}
use Rattle.oci_transport.specs.Recorded.{recorded_answer, fails_before_of, answering, last_pieces, last_stop}

-- the recorded answers
abbrev pub answers_of : Script → List Recorded
answers_of s = s.answers

-- the number of requests sent, which is the index of the next answer
abbrev pub place_of : Script → ℕ
place_of s = length s.told

-- the next answer, or none if the next send fails
abbrev pub next_answer : Script → Option Answer
next_answer s = recorded_answer (slice_get s.answers (place_of s))

-- before how many pieces of the next answer a call will fail
abbrev pub next_stop : Script → Option ℕ
next_stop s = fails_before_of (slice_get s.answers (place_of s))

-- the number of pieces returned of the last answer
abbrev pub given_of : Script → ℕ
given_of s = s.given

-- before how many pieces of the last answer a call will fail
abbrev pub stop_of : Script → Option ℕ
stop_of s = if s.stopped then None else last_stop s.answers (length s.told)

-- a call failed at its recorded fault, once, and returned nothing
pub record StopsAt (old new : Script) : Type 0 where
  pub there : stop_of old ≡ Some (given_of old)
  pub once : stop_of new ≡ None
  pub given : given_of new ≡ given_of old

-- the rest of the last answer
abbrev pub left_of : Script → List ℕ
left_of s = joined (drop s.given (last_pieces s.answers (length s.told)))

-- the piece is a prefix of the rest of the last answer, and an empty one means that nothing was left
pub record Continues (piece : List ℕ) (old new : Script) : Type 0 where
  pub front : left_of old ≡ piece ++ left_of new
  pub ends : piece ≡ [] → left_of old ≡ []

-- a script exposes all that it did, the rest of an answer until its fault, and only failed calls increase its
-- fault count
abbrev pub state_of : Script → Link
state_of s = record {
  told = Some s.told;
  rest = if s.stopped then None else Some (left_of s);
  pieces = Some (take s.given (last_pieces s.answers (length s.told)));
  faults = s.faults;
  exact = true;
  answers = Some (answering s.answers);
}
