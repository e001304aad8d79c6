use Rattle.std.proofs.Common.{◌≡◌, ◌+◌, drop}
use Rattle.std.specs.List.{prefix_len}
use Rattle.oci_auth.specs.Classes.{has}
use Rattle.oci_auth.proofs.grammar.front_len.Given as goal

abbrev pub invariant-loop-place : goal.invariant-loop-place
invariant-loop-place l = prefix_len (has l.class) l.bytes ≡ l.place + prefix_len (has l.class) (drop l.place l.bytes)
