-- Why a pull was refused.
use Rattle.std.specs.Prelude.{Bool, true, false, Option, Some, None}
use Rattle.engine_terms.specs.declared.error.OciDistributionError.{OciDistributionError}
use Rattle.registry_calls.specs.declared.error.SigstoreError.{SigstoreError}
use Rattle.registry_calls.specs.declared.error.SigstoreError.TheVariants as sigstore
use Rattle.cosign_rows.specs.declared.refusal.PullRefusal.{PullRefusal}
use Rattle.cosign_rows.specs.declared.refusal.PullRefusal.TheVariants as refusal

abbrev pub is_memory : PullRefusal → Bool
is_memory refusal.WantOfMemory = true
is_memory _ = false

-- the error of a part, as the error of the whole pull
abbrev pub refused_as : SigstoreError → PullRefusal
refused_as (sigstore.OciReferenceNotValidError reference) = refusal.OciReferenceNotValidError reference
refused_as (sigstore.RegistryFetchManifestError image error) = refusal.RegistryFetchManifestError image error
refused_as (sigstore.RegistryPullError image error) = refusal.RegistryPullError image error
-- these two never occur: no part whose error ends the whole pull returns them
refused_as (sigstore.RegistryPullManifestError image error) = refusal.RegistryPullError image error
refused_as (sigstore.RegistryPushError image error) = refusal.RegistryPullError image error
refused_as sigstore.WantOfMemory = refusal.WantOfMemory

-- the registry client's error that a refusal holds
abbrev pub client_refusal : PullRefusal → Option OciDistributionError
client_refusal (refusal.RegistryFetchManifestError image error) = Some error
client_refusal (refusal.RegistryPullError image error) = Some error
client_refusal _ = None
