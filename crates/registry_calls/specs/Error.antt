-- Refusals, each with the image of its call.
use Rattle.std.specs.Prelude.{◌≡◌, Bool, true, false, Option, Some, None, Result, Ok, Err}
use Rattle.json_values.specs.Counts.{Increased}
use Rattle.oci_transport.specs.Link.{Link}
use Rattle.engine_terms.specs.declared.error.OciDistributionError.{OciDistributionError}
use Rattle.engine_terms.specs.declared.error.OciDistributionError.TheVariants.{TransportFault, SinkFault}
use Rattle.registry_calls.specs.declared.error.SigstoreError.{SigstoreError}
use Rattle.registry_calls.specs.declared.error.SigstoreError.TheVariants as sigstore

abbrev pub is_memory : SigstoreError → Bool
is_memory sigstore.WantOfMemory = true
is_memory _ = false

-- the registry client's error that a refusal holds
abbrev pub registry_refusal : SigstoreError → Option OciDistributionError
registry_refusal (sigstore.OciReferenceNotValidError text) = None
registry_refusal (sigstore.RegistryFetchManifestError image e) = Some e
registry_refusal (sigstore.RegistryPullError image e) = Some e
registry_refusal (sigstore.RegistryPullManifestError image e) = Some e
registry_refusal (sigstore.RegistryPushError image e) = Some e
registry_refusal sigstore.WantOfMemory = None

-- the call was refused because of this error of the registry's client, which is what `held` finds in the refusal
abbrev pub IsRefusedBy : {X : Type 0} → (X → Option OciDistributionError) → OciDistributionError → {A : Type 0}
    → Result A X
    → Type 0
IsRefusedBy held e (Ok a) = ⊥
IsRefusedBy held e (Err refused) = held refused ≡ Some e

-- a fault of the transport is returned only if its fault count increased
abbrev pub FaultCounted : {A X : Type 0} → (X → Option OciDistributionError) → Link → Link → Result A X → Type 0
FaultCounted held old new r = IsRefusedBy held TransportFault r → Increased old.faults new.faults

-- no sink takes part, so no sink can fail
abbrev pub NoSinkFault : {A X : Type 0} → (X → Option OciDistributionError) → Result A X → Type 0
NoSinkFault held r = IsRefusedBy held SinkFault r → ⊥
