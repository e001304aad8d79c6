-- What a denial says of faults and of memory.
use Rattle.std.specs.Prelude.{◌≡◌, false, Option, Some, None, List, All}
use Rattle.json_values.specs.Counts.{Increased}
use Rattle.oci_transport.specs.Link.{Link}
use Rattle.engine_terms.specs.declared.error.OciDistributionError.{OciDistributionError}
use Rattle.engine_terms.specs.declared.error.OciDistributionError.TheVariants.{TransportFault}
use Rattle.cosign_rows.specs.Refusal.{is_memory, client_refusal}
use Rattle.cosign_rows.specs.Skips.{HoldsNoMemoryNorSink, OnSkipped}
use Rattle.pull_admit.specs.declared.decision.Decision.{Decision}
use Rattle.pull_admit.specs.declared.decision.Decision.TheVariants.{Allow, Deny}
use Rattle.pull_admit.specs.declared.decision.DenyCause.TheVariants.{NotAReference, Refused}

-- the registry client's error that a decision holds
abbrev pub error_in : Decision → Option OciDistributionError
error_in (Allow v) = None
error_in (Deny (NotAReference text)) = None
error_in (Deny (Refused e)) = client_refusal e

-- a fault of the transport is a cause only if its fault count increased
abbrev pub CountsFault : Link → Link → Decision → Type 0
CountsFault old new d = error_in d ≡ Some TransportFault → Increased old.faults new.faults

abbrev pub EachFaultCounted : Link → Link → List Decision → Type 0
EachFaultCounted old new = All (CountsFault old new)

-- the cause is not that memory ran out, and holds no such error, nor a fault of a sink
abbrev pub HoldsNoMemory : Decision → Type 0
HoldsNoMemory (Allow v) = Unit {0}
HoldsNoMemory (Deny (NotAReference text)) = Unit {0}
HoldsNoMemory (Deny (Refused e)) = (is_memory e ≡ false) × OnSkipped HoldsNoMemoryNorSink e
