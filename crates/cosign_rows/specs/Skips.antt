-- What is skipped: never because of `WantOfMemory` or a sink's fault, and never for more faults than the transport had.
use Rattle.std.specs.Prelude.{◌≡◌, ◌≤◌, ◌+◌, ◌-◌, ◌^◌, ℕ, Bool, true, false, List, All, count_by, min}
use Rattle.oci_digests.specs.declared.error.DigestError.{DigestError}
use Rattle.oci_digests.specs.declared.error.DigestError.TheVariants as digest_refusal
use Rattle.engine_terms.specs.declared.error.OciDistributionError.{OciDistributionError}
use Rattle.engine_terms.specs.declared.error.OciDistributionError.TheVariants as engine_refusal
use Rattle.registry_calls.specs.declared.error.SigstoreError.{SigstoreError}
use Rattle.registry_calls.specs.declared.error.SigstoreError.TheVariants as sigstore
use Rattle.cosign_layers.specs.Rejection.{is_memory as is_layer_memory}
use Rattle.cosign_rows.specs.declared.found.Skipped.{Skipped}
use Rattle.cosign_rows.specs.declared.found.Skipped.TheVariants.{Source, Referrer, Layer}
use Rattle.cosign_rows.specs.declared.found.SkipCause.{SkipCause}
use Rattle.cosign_rows.specs.declared.found.SkipCause.TheVariants.{NotAReference, FoundIndex, Refused}
use Rattle.cosign_rows.specs.declared.refusal.PullRefusal.{PullRefusal}
use Rattle.cosign_rows.specs.declared.refusal.PullRefusal.TheVariants as refusal

-- ---- out of memory, or a fault of a sink, anywhere in an error

abbrev pub in_digest : DigestError → Bool
in_digest digest_refusal.WantOfMemory = true
in_digest _ = false

abbrev pub in_engine : OciDistributionError → Bool
in_engine engine_refusal.WantOfMemory = true
in_engine engine_refusal.SinkFault = true
in_engine (engine_refusal.DigestError e) = in_digest e
in_engine _ = false

abbrev pub in_refusal : SigstoreError → Bool
in_refusal (sigstore.OciReferenceNotValidError text) = false
in_refusal (sigstore.RegistryFetchManifestError image e) = in_engine e
in_refusal (sigstore.RegistryPullError image e) = in_engine e
in_refusal (sigstore.RegistryPullManifestError image e) = in_engine e
in_refusal (sigstore.RegistryPushError image e) = in_engine e
in_refusal sigstore.WantOfMemory = true

abbrev pub in_cause : SkipCause → Bool
in_cause (NotAReference text) = false
in_cause FoundIndex = false
in_cause (Refused e) = in_refusal e

abbrev pub holds_memory_or_sink : Skipped → Bool
holds_memory_or_sink (Source kind cause) = in_cause cause
holds_memory_or_sink (Referrer digest cause) = in_cause cause
holds_memory_or_sink (Layer kind digest rejection) = is_layer_memory rejection

-- no cause holds an out-of-memory error or a fault of a sink: no sink takes part
abbrev pub HoldsNoMemoryNorSink : List Skipped → Type 0
HoldsNoMemoryNorSink skipped = All (λ cause. holds_memory_or_sink cause ≡ false) skipped

-- ---- faults of the transport

abbrev pub is_engine_fault : OciDistributionError → Bool
is_engine_fault engine_refusal.TransportFault = true
is_engine_fault _ = false

abbrev pub is_refused_fault : SigstoreError → Bool
is_refused_fault (sigstore.OciReferenceNotValidError text) = false
is_refused_fault (sigstore.RegistryFetchManifestError image e) = is_engine_fault e
is_refused_fault (sigstore.RegistryPullError image e) = is_engine_fault e
is_refused_fault (sigstore.RegistryPullManifestError image e) = is_engine_fault e
is_refused_fault (sigstore.RegistryPushError image e) = is_engine_fault e
is_refused_fault sigstore.WantOfMemory = false

abbrev pub is_cause_fault : SkipCause → Bool
is_cause_fault (NotAReference text) = false
is_cause_fault FoundIndex = false
is_cause_fault (Refused e) = is_refused_fault e

abbrev pub is_fault : Skipped → Bool
is_fault (Source kind cause) = is_cause_fault cause
is_fault (Referrer digest cause) = is_cause_fault cause
is_fault (Layer kind digest rejection) = false

-- the fault count increased by at least as many as the causes that are faults, saturating
abbrev pub CountsFaults : ℕ → ℕ → List Skipped → Type 0
CountsFaults before after skipped = min (before + count_by is_fault skipped) (2 ^ 64 - 1) ≤ after

-- ---- of a refused pull

-- the property holds for what was skipped, if no layer satisfies the policy
abbrev pub OnSkipped : (List Skipped → Type 0) → PullRefusal → Type 0
OnSkipped P (refusal.Unsatisfied digest collected skipped) = P skipped
OnSkipped P _ = Unit {0}
