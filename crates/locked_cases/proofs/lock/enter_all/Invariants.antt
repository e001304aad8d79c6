use Rattle.std.proofs.Common.{◌≡◌, ◌++◌, length}
use Rattle.std.specs.Vec.Iter.{into_iter_items, into_iter_len}
use Rattle.locked_cases.specs.Locks.{HaveEntries}
use Rattle.locked_cases.proofs.lock.enter_all.Given as goal

-- one entry for each case so far
abbrev pub invariant-loop-case : goal.invariant-loop-case
invariant-loop-case l = (l.yielded ++ into_iter_items l.case-iterator ≡ into_iter_items l.initial.case-iterator)
    × HaveEntries l.yielded l.entries
    × (into_iter_len l.case-iterator ≡ length (into_iter_items l.case-iterator))
