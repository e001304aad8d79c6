use Rattle.std.proofs.Common.{◌≡◌, ◌-◌, ◌^◌, take, sum_by, length, min}
use Rattle.oci_transport.proofs.headers.count_values.Given as goal

abbrev pub invariant-loop-field : goal.invariant-loop-field
invariant-loop-field l = l.count ≡ min (sum_by (λ e. length e.1) (take l.field-index l.fields)) (2 ^ 64 - 1)
