-- The parameters of scrypt (RFC 7914, 2).
use Rattle.std.specs.Prelude.{ℕ, Bool, ◌==◌, ◌&&◌, ◌||◌, if◌then◌else◌, Option, Some, codes}
use Rattle.serde_json.specs.Data.{Data}
use Rattle.json_tables.specs.Reading.{◌>>=◌, u32_of}
use Rattle.json_tables.specs.Member.{required}
use Rattle.key_parts.specs.declared.scrypt.ScryptParams.{ScryptParams}

-- cosign's parameters
abbrev pub are_known : ScryptParams → Bool
are_known params = (params.n == 32768 || params.n == 65536) && params.r == 8 && params.p == 1

-- the binary logarithm of a known cost
abbrev pub log_of : ℕ → ℕ
log_of n = if n == 32768 then 15 else 16

abbrev pub params_of : Data → Option ScryptParams
params_of d = do
  n ← required u32_of (codes "N") d
  r ← required u32_of (codes "r") d
  p ← required u32_of (codes "p") d
  Some (record { n = n; r = r; p = p })
