-- A recorded answer from its parts.
use Rattle.std.proofs.Common.{◌≡◌, ℕ, List, [], ◌∷◌, Option, Some, None, false, codes}
use Rattle.std.specs.Prelude.{⊤}
use Rattle.std.specs.FinMap.{empty}
use Rattle.serde_json.specs.Data.{Data}
use Rattle.json_tables.specs.Reading.{list_of}
use Rattle.json_tables.specs.Objects.{only}
use Rattle.json_tables.specs.Member.{required, at_name}
use Rattle.json_tables.specs.Bytes.{bytes_of}
use Rattle.oci_transport.specs.Headers.{Fields}
use Rattle.oci_transport.specs.Pieces.{NoneEmpty}
use Rattle.recorded_case.specs.Answer.{answering, status_of, headers_of}
use Rattle.recorded_case.specs.Members.{unless_absent, number_of}
use Rattle.recorded_case.proofs.Full.{none_empty-given, none_empty-not}

pub answer_of_parts : (d : Data) (known : ⊤) (status : ℕ) (headers : Fields) (pieces : List (List ℕ)) (fails_before : Option ℕ) (full : NoneEmpty pieces)
    → only (codes "status" ∷ codes "headers" ∷ codes "pieces" ∷ codes "fault" ∷ []) d ≡ Some known
    → required status_of (codes "status") d ≡ Some status
    → at_name (unless_absent empty headers_of) (codes "headers") d ≡ Some headers
    → at_name (unless_absent [] (list_of bytes_of)) (codes "pieces") d ≡ Some pieces
    → at_name (unless_absent None number_of) (codes "fault") d ≡ Some fails_before
    → answering d ≡ Some (record { fails = false; status = status; headers = headers; pieces = pieces; fails_before = fails_before; none_empty = full })
unfolding answering
answer_of_parts d known status headers pieces fails_before full is_known is_status are_headers are_pieces is_fault =
    simp (is_known, is_status, are_headers, are_pieces, is_fault, none_empty-given pieces full)

pub no_answer_of_parts : (d : Data) (known : ⊤) (status : ℕ) (headers : Fields) (pieces : List (List ℕ)) (fails_before : Option ℕ)
    → (NoneEmpty pieces → ⊥)
    → only (codes "status" ∷ codes "headers" ∷ codes "pieces" ∷ codes "fault" ∷ []) d ≡ Some known
    → required status_of (codes "status") d ≡ Some status
    → at_name (unless_absent empty headers_of) (codes "headers") d ≡ Some headers
    → at_name (unless_absent [] (list_of bytes_of)) (codes "pieces") d ≡ Some pieces
    → at_name (unless_absent None number_of) (codes "fault") d ≡ Some fails_before
    → answering d ≡ None
unfolding answering
no_answer_of_parts d known status headers pieces fails_before lacking is_known is_status are_headers are_pieces is_fault =
    simp (is_known, is_status, are_headers, are_pieces, is_fault, none_empty-not pieces lacking)
