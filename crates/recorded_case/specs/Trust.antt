-- Whom a case trusts: valid signatures, vouched certificates, keys of logs.
use Rattle.std.specs.Prelude.{ℕ, List, [], ◌∷◌, Option, Some, None, codes, if◌then◌else◌}
use Rattle.std.specs.FinMap.{FinMap}
use Rattle.serde_json.specs.Data.{Data}
use Rattle.json_tables.specs.Reading.{◌>>=◌, text_of, list_of, map_of}
use Rattle.json_tables.specs.Objects.{only}
use Rattle.json_tables.specs.Member.{required, optional}
use Rattle.json_tables.specs.Bytes.{bytes_of}
use Rattle.json_values.specs.Places.{by_bytes}
use Rattle.cosign_parts.specs.Judge.{has_two_equal}
use Rattle.cosign_parts.specs.declared.judge.TableJudge.{TableJudge}
use Rattle.cosign_parts.specs.declared.judge.VouchedRow.{VouchedRow}
use Rattle.cosign_parts.specs.declared.verifier.SignedRow.{SignedRow}

-- a signature that is valid for the messages that a digest text names
unfoldable pub signature_of : Data → Option SignedRow
signature_of d = do
  known ← only (codes "key" ∷ codes "message" ∷ codes "signature" ∷ []) d
  key ← required bytes_of (codes "key") d
  message ← required text_of (codes "message") d
  signature ← required bytes_of (codes "signature") d
  Some (record { key = key; message = message; signature = signature })

-- what is vouched for one certificate
unfoldable pub vouched_of : Data → Option VouchedRow
vouched_of d = do
  known ← only (codes "certificate" ∷ codes "key" ∷ codes "email" ∷ codes "url" ∷ codes "issuer" ∷ []) d
  certificate ← required bytes_of (codes "certificate") d
  key ← required bytes_of (codes "key") d
  email ← optional text_of (codes "email") d
  url ← optional text_of (codes "url") d
  issuer ← optional text_of (codes "issuer") d
  Some (record { certificate = certificate; vouched = record { key = key; email = email; url = url; issuer = issuer } })

abbrev pub judge_by : List VouchedRow → TableJudge
judge_by rows = record { rows = rows }

-- rows of which no two have the same certificate
abbrev pub judge_with : List VouchedRow → Option TableJudge
judge_with rows = if has_two_equal rows then None else Some (judge_by rows)

-- a list of what is vouched for distinct certificates
unfoldable pub judge_of : Data → Option TableJudge
judge_of d = list_of vouched_of d >>= judge_with

-- the keys of logs by their ids
abbrev pub log_keys_of : Data → Option (FinMap by_bytes (List ℕ))
log_keys_of = map_of bytes_of
