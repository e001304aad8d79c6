use Rattle.std.proofs.Common.{◌≡◌, ◌≤◌, drop, length}
use Rattle.oci_transport.specs.Headers.{kept_fields}
use Rattle.oci_transport.proofs.headers.others.Given as goal

abbrev pub invariant-loop-left : goal.invariant-loop-left
invariant-loop-left l = record {
  within : l.left ≤ length l.fields;
  kept : l.kept ≡ kept_fields l.name (drop l.left l.fields);
}

abbrev pub decreases-loop-left : goal.decreases-loop-left
decreases-loop-left l = l.left
