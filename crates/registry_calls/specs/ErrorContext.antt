-- Errors with the context of their call.
use Rattle.std.specs.Prelude.{ℕ, List, Result, Ok, Err, if◌then◌else◌}
use Rattle.engine_terms.specs.declared.error.OciDistributionError.{OciDistributionError}
use Rattle.engine_terms.specs.Error.{is_memory as engine_is_memory}
use Rattle.registry_calls.specs.declared.error_context.Called.{Called}
use Rattle.registry_calls.specs.declared.error_context.Called.TheVariants.{FetchManifest, Pull, PullManifest, Push}
use Rattle.registry_calls.specs.declared.error.SigstoreError.{SigstoreError}
use Rattle.registry_calls.specs.declared.error.SigstoreError.TheVariants as sigstore

-- the call's error with the registry client's error as its source
abbrev pub refusal : Called → List ℕ → OciDistributionError → SigstoreError
refusal FetchManifest image e = sigstore.RegistryFetchManifestError image e
refusal Pull image e = sigstore.RegistryPullError image e
refusal PullManifest image e = sigstore.RegistryPullManifestError image e
refusal Push image e = sigstore.RegistryPushError image e

-- out of memory stays out of memory
abbrev pub with_error_context : Called → List ℕ → {A : Type 0} → Result A OciDistributionError → Result A SigstoreError
with_error_context called image (Ok a) = Ok a
with_error_context called image (Err e) = if engine_is_memory e then Err sigstore.WantOfMemory
    else Err (refusal called image e)
