-- Digits as numbers.
use Rattle.std.proofs.Common.{ℕ, ◌*◌, ◌-◌, ◌≤◌, arith}
use Rattle.std.proofs.lemmas.Nat.{mul-le}

-- the most that one digit contributes
pub digit_share : (b place : ℕ) → b ≤ 57 → (b - 48) * place ≤ 9 * place
digit_share b place h = mul-le (b - 48) place 9 place (omega arith) (omega arith)
