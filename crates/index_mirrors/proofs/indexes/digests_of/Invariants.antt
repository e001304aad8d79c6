use Rattle.std.proofs.Common.{◌≡◌, map, take}
use Rattle.index_mirrors.specs.Indexes.{digest_in}
use Rattle.index_mirrors.proofs.indexes.digests_of.Given as goal

-- the entries so far
abbrev pub invariant-loop-entry : goal.invariant-loop-entry
invariant-loop-entry l = l.digests ≡ map digest_in (take l.entry-index l.entries)
