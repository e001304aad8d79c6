use Rattle.std.proofs.Common.{◌≡◌, drop}
use Rattle.std.specs.Prelude.{map as each}
use Rattle.std.specs.FinMap.{empty}
use Rattle.oci_transport.specs.Headers.{with_headers}
use Rattle.oci_transport.proofs.headers.headers_from.Given as goal

abbrev pub invariant-loop-name : goal.invariant-loop-name
invariant-loop-name g l = with_headers empty (each (λ field. (field.0, g.V.FieldValue.bytes field.1)) l.fields) ≡ with_headers l.headers (each (λ field. (field.0, g.V.FieldValue.bytes field.1)) (drop l.name-index l.fields))
