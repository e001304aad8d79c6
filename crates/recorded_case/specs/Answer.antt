-- Recorded answers.
use Rattle.std.specs.Prelude.{ℕ, ◌<◌, ◌&&◌, List, [], ◌∷◌, Option, Some, None, option_map}
use Rattle.std.specs.Prelude.{length, nat_le, if◌then◌else◌, true, false, codes}
use Rattle.std.specs.FinMap.{empty}
use Rattle.std.specs.Str.{bytes_eq}
use Rattle.std.proofs.Math.Nat.{zero-lt-suc}
use Rattle.std.proofs.lemmas.List.Elements.{All-nil, All-cons}
use Rattle.serde_json.specs.Data.{Data, string}
use Rattle.json_tables.specs.Reading.{◌>>=◌, text_of, u16_of, list_of, pair_of}
use Rattle.json_tables.specs.Objects.{only}
use Rattle.json_tables.specs.Member.{required, at_name}
use Rattle.json_tables.specs.Bytes.{bytes_of}
use Rattle.oci_transport.specs.Headers.{Fields, with_headers}
use Rattle.oci_transport.specs.Pieces.{NoneEmpty}
use Rattle.oci_transport.specs.declared.recorded.Recorded.{Recorded}
use Rattle.recorded_case.specs.Members.{unless_absent, number_of, passing}

-- a status from 100 to 999
abbrev pub status_of : Data → Option ℕ
status_of d = u16_of d >>= passing (λ n. nat_le 100 n && nat_le n 999)

-- a list of pairs of a name and a text
abbrev pub headers_of : Data → Option Fields
headers_of d = list_of (pair_of text_of text_of) d >>= with_headers empty

-- the fact that no piece is empty, which a recorded answer carries; `None` if one is
abbrev pub none_empty : (pieces : List (List ℕ)) → Option (NoneEmpty pieces)
none_empty [] = Some (All-nil (λ piece. 0 < length piece))
none_empty ([] ∷ pieces) = None
none_empty ((b ∷ bs) ∷ pieces) =
    option_map (All-cons (λ piece. 0 < length piece) (b ∷ bs) pieces (zero-lt-suc (length bs))) (none_empty pieces)

-- a send that fails; the other parts are unused
abbrev pub failing : Recorded
failing = record {
  fails = true;
  status = 0;
  headers = empty;
  pieces = [];
  fails_before = None;
  none_empty = All-nil (λ piece. 0 < length piece);
}

-- an answer: its status, its headers, its body in pieces, and before how many of them a call fails, once
unfoldable pub answering : Data → Option Recorded
answering d = do
  known ← only (codes "status" ∷ codes "headers" ∷ codes "pieces" ∷ codes "fault" ∷ []) d
  status ← required status_of (codes "status") d
  headers ← at_name (unless_absent empty headers_of) (codes "headers") d
  pieces ← at_name (unless_absent [] (list_of bytes_of)) (codes "pieces") d
  fails_before ← at_name (unless_absent None number_of) (codes "fault") d
  full ← none_empty pieces
  Some (record {
    fails = false;
    status = status;
    headers = headers;
    pieces = pieces;
    fails_before = fails_before;
    none_empty = full;
  })

-- `fail` is a send that fails, all other values are answers
unfoldable pub answer_of : Data → Option Recorded
answer_of (string text) = if bytes_eq text (codes "fail") then Some failing else None
answer_of d = answering d
