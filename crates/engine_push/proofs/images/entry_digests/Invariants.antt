use Rattle.std.proofs.Common.{◌≡◌, map, take}
use Rattle.push_rows.specs.Images.{digest_of_entry}
use Rattle.engine_push.proofs.images.entry_digests.Given as goal

abbrev pub invariant-loop-entry : goal.invariant-loop-entry
invariant-loop-entry l = l.digests ≡ map digest_of_entry (take l.entry-index l.entries)
