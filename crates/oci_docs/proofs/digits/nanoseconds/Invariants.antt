use Rattle.std.proofs.Common.{◌≡◌, ◌+◌, ◌*◌, ◌≤◌, ◌<◌, drop}
use Rattle.oci_docs.specs.Reader.{nanoseconds_by}
use Rattle.oci_docs.proofs.digits.nanoseconds.Given as goal

abbrev pub invariant-loop-byte : goal.invariant-loop-byte
invariant-loop-byte l = (nanoseconds_by 100000000 l.text ≡ l.sum + nanoseconds_by l.place (drop l.byte-index l.text)) × (l.sum + 10 * l.place ≤ 1000000000) × (l.sum < 1000000000)
