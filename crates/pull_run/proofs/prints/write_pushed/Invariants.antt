use Rattle.std.proofs.Common.{◌≡◌, ◌++◌, take, flat_map}
use Rattle.pull_run.specs.Lines.{pushed_line}
use Rattle.pull_run.proofs.prints.write_pushed.Given as goal

abbrev pub invariant-loop-digest : goal.invariant-loop-digest
invariant-loop-digest l = l.out ≡ l.initial.out ++ flat_map pushed_line (take l.digest-index l.pushed)
