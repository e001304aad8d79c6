-- The result of a source, appended to a given part.
use Rattle.std.specs.Prelude.{Result, Ok, Err}
use Rattle.oci_protocol.specs.Proto.{Done, bind}
use Rattle.registry_calls.specs.declared.error.SigstoreError.{SigstoreError}
use Rattle.registry_calls.specs.Clients.{Row}
use Rattle.cosign_rows.specs.Part.{appended}
use Rattle.cosign_rows.specs.declared.found.Part.{Part}

-- a result is appended to the given part
abbrev pub put_behind : Part → Result Part SigstoreError → Result Part SigstoreError
put_behind part (Ok more) = Ok (appended part more)
put_behind part (Err e) = Err e

-- so is the result of a row
abbrev pub gathered : Part → Row Part → Row Part
gathered part row = bind row (λ r. Done (put_behind part r))
