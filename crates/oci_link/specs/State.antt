-- What a contract sees of a shelf's transports.
use Rattle.std.specs.Prelude.{ℕ, Bool, true, false, ◌==◌, ◌||◌, not, List, length, drop, Some, None, if◌then◌else◌}
use Rattle.std.specs.List.{list_any}
use Rattle.oci_transport.specs.Link.{Link, Answering}
use Rattle.oci_link.specs.Table.{answer}
use Rattle.oci_link.specs.declared.shelf.Shelf.{Shelf}
use Rattle.oci_link.specs.declared.served.Served.{Served}
use Rattle.oci_link.specs.declared.shelf_transport.ShelfTransport.{ShelfTransport}
use Rattle.oci_link.specs.declared.faulty_shelf.FaultyShelf.{FaultyShelf}

-- each request is answered by the table, and nothing fails
unfoldable pub answering : Shelf → Answering
answering shelf = record {
  answer = λ place request. Some (answer shelf request);
  fails = λ place. false;
  breaks = λ place. None;
}

abbrev pub is_among : ℕ → List ℕ → Bool
is_among n numbers = list_any (λ m. m == n) numbers

-- the sends with these numbers fail; if any call for a piece fails, something may fail at each index, so that no
-- body is known to be truncated
unfoldable pub failing : Shelf → List ℕ → List ℕ → Answering
failing shelf sends pieces = record {
  answer = λ place request. if is_among place sends then None else Some (answer shelf request);
  fails = λ place. is_among place sends || not (length pieces == 0);
  breaks = λ place. None;
}

-- the exchanges, and the rest of the last body; only failed calls increase the fault count
abbrev pub link_of : Served → ℕ → Answering → Link
link_of s faults answers = record {
  told = Some s.told;
  rest = Some (drop s.given s.body);
  pieces = None;
  faults = faults;
  exact = true;
  answers = Some answers;
}

abbrev pub shelf_of : ShelfTransport → Shelf
shelf_of t = t.served.shelf

abbrev pub state_of : ShelfTransport → Link
state_of t = link_of t.served 0 (answering t.served.shelf)

abbrev pub faulty_shelf_of : FaultyShelf → Shelf
faulty_shelf_of t = t.served.shelf

-- the numbers of the failing sends, and of the failing calls for a piece
abbrev pub failing_sends : FaultyShelf → List ℕ
failing_sends t = t.sends

abbrev pub failing_pieces : FaultyShelf → List ℕ
failing_pieces t = t.pieces

-- the numbers of the next send and of the next call for a piece
abbrev pub next_send : FaultyShelf → ℕ
next_send t = length t.served.told

abbrev pub next_piece : FaultyShelf → ℕ
next_piece t = t.calls

abbrev pub faulty_state_of : FaultyShelf → Link
faulty_state_of t = link_of t.served t.faults (failing t.served.shelf t.sends t.pieces)
