use Rattle.std.proofs.Common.{◌≡◌, ◌+◌, drop}
use Rattle.oci_docs.specs.Reader.{digit_count}
use Rattle.oci_docs.proofs.digits.digit_count.Given as goal

abbrev pub invariant-loop-byte : goal.invariant-loop-byte
invariant-loop-byte l = (digit_count l.text ≡ l.count + digit_count (drop l.byte-index l.text)) × (l.count ≡ l.byte-index)
