use Rattle.std.proofs.Common.{◌≡◌, drop}
use Rattle.std.specs.FinMap.Entries.{find}
use Rattle.http_header.specs.Token.{lowercase}
use Rattle.json_values.specs.Places.{by_bytes}
use Rattle.oci_transport.proofs.headers.values_in.Given as goal

abbrev pub invariant-loop-field : goal.invariant-loop-field
invariant-loop-field l = find by_bytes (lowercase l.name) l.fields ≡ find by_bytes (lowercase l.name) (drop l.field-index l.fields)
