-- What a table vouches for.
use Rattle.std.specs.Prelude.{ℕ, List, [], ◌∷◌, Bool, false, ◌||◌, bytes_eq, Option, option_map}
use Rattle.std.specs.List.{list_any, find}
use Rattle.cosign_parts.specs.declared.certificate.Evidence.{Evidence}
use Rattle.cosign_parts.specs.declared.certificate.Vouched.{Vouched}
use Rattle.cosign_parts.specs.declared.judge.TableJudge.{TableJudge}
use Rattle.cosign_parts.specs.declared.judge.VouchedRow.{VouchedRow}

-- the row is about this certificate
abbrev pub is_for : List ℕ → VouchedRow → Bool
is_for certificate row = bytes_eq row.certificate certificate

-- what the row of the certificate contains, at any time
abbrev pub vouched_in : TableJudge → Evidence → Option Vouched
vouched_in table evidence = option_map (λ row. row.vouched) (find (is_for evidence.certificate) table.rows)

-- whether two rows have one certificate
abbrev pub has_two_equal : List VouchedRow → Bool
has_two_equal [] = false
has_two_equal (row ∷ rows) = list_any (is_for row.certificate) rows || has_two_equal rows
