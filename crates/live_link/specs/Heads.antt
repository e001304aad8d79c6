-- The heads of responses, as frames state them.
use Rattle.std.specs.Prelude.{ℕ, ◌&&◌, nat_le, [], ◌∷◌, Option, Some, None, codes, if◌then◌else◌}
use Rattle.std.specs.FinMap.{empty}
use Rattle.serde_json.specs.Data.{Data}
use Rattle.json_tables.specs.Bytes.{bytes_of}
use Rattle.json_tables.specs.Reading.{◌>>=◌, text_of, u16_of, list_of, pair_of}
use Rattle.json_tables.specs.Objects.{only}
use Rattle.json_tables.specs.Member.{required}
use Rattle.oci_transport.specs.Headers.{Fields, with_headers}
use Rattle.oci_transport.specs.declared.message.AnswerHead.{AnswerHead}

-- from 100 to 999
abbrev pub in_range : ℕ → Option ℕ
in_range n = if nat_le 100 n && nat_le n 999 then Some n else None

abbrev pub status_of : Data → Option ℕ
status_of d = u16_of d >>= in_range

-- a list of pairs of a name and a value
abbrev pub headers_of : Data → Option Fields
headers_of d = list_of (pair_of text_of bytes_of) d >>= with_headers empty

-- the head of a response
unfoldable pub answer_head_of : Data → Option AnswerHead
answer_head_of d = do
  known ← only (codes "frame" ∷ codes "status" ∷ codes "headers" ∷ []) d
  status ← required status_of (codes "status") d
  headers ← required headers_of (codes "headers") d
  Some (record { status = status; headers = headers })
