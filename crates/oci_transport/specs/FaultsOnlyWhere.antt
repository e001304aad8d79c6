-- Where a transport may have failed.
use Rattle.std.specs.Prelude.{ℕ, suc, Bool, true, ◌||◌, ◌&&◌, nat_eq, List, [], ◌∷◌}
use Rattle.oci_transport.specs.declared.message.Exchange.{Exchange}

-- the fault count when the first of these exchanges was sent, or the last count if there is none
abbrev pub next_count : List Exchange → ℕ → ℕ
next_count [] count = count
next_count (e ∷ c) count = e.faults

-- for each exchange, starting at this index, something may fail there, or the fault count after it is the
-- one before it
abbrev pub faults_only_where : (ℕ → Bool) → ℕ → List Exchange → ℕ → Bool
faults_only_where fails place [] count = true
faults_only_where fails place (e ∷ c) count =
    (fails place || nat_eq (next_count c count) e.faults) && faults_only_where fails (suc place) c count
