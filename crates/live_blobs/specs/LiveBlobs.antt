-- A live pull of blobs, from its settings on.
use Rattle.std.specs.Prelude.{◌≡◌, ℕ, List, map, Result, Ok}
use Rattle.oci_manifests.specs.declared.descriptor.OciDescriptor.{OciDescriptor}
use Rattle.oci_names.specs.Reference.{reference_of}
use Rattle.oci_names.specs.declared.reference.Reference.{Reference}
use Rattle.oci_auth.specs.declared.auth_state.AuthState.{AuthState}
use Rattle.engine_terms.specs.Contexts.{Context}
use Rattle.engine_terms.specs.declared.error.OciDistributionError.{OciDistributionError}
use Rattle.live_host.specs.Wire.{Wire}
use Rattle.live_host.specs.declared.streams.HostError.{HostError}
use Rattle.live_pull.specs.Pulls.{context_of}
use Rattle.live_blobs.specs.Delivery.{BlobsCut, BlobsTold}
use Rattle.live_blobs.specs.Opening.{first_state}
use Rattle.live_blobs.specs.Pulled.{BlobsPulled, Received}
use Rattle.live_blobs.specs.Settings.{blobs_in}
use Rattle.live_blobs.specs.declared.settings.BlobSettings.{BlobSettings}

abbrev pub digests_of : List OciDescriptor → List (List ℕ)
digests_of xs = map (λ x. x.digest) xs

-- what was sent of digests and a result
abbrev pub Giving : Type 1
Giving = List (List ℕ) → Result Unit OciDistributionError → Wire → Wire → Type 0

-- These blobs were pulled, and then `Gives` holds for the digests of those that were received, and the result.
pub record PulledBy (Gives : Giving) (s : Context) (image : Reference) (k : AuthState) (xs : List OciDescriptor)
    (old new : Wire) (r : Result Unit OciDistributionError) : Type 0 where
  pub pulled_at : Wire
  pub pulled : BlobsPulled s image k xs r old pulled_at
  pub stood : List OciDescriptor
  pub received : Received xs stood r old pulled_at
  pub given : Gives (digests_of stood) r pulled_at new

-- the digests were sent, with the error if there is one
abbrev pub PulledAndTold : Context → Reference → AuthState → List OciDescriptor → Wire → Wire
    → Result Unit OciDistributionError → Type 0
PulledAndTold = PulledBy BlobsTold

-- the same, but `e` cut what was sent
abbrev pub PulledAndCut : Context → Reference → AuthState → List OciDescriptor → HostError → Wire → Wire → Type 0
PulledAndCut s image k xs e old new = (r : Result Unit OciDistributionError)
    × PulledBy (λ digests outcome. BlobsCut digests outcome e) s image k xs old new r

-- What was done by these settings, from one state of the streams to another: the blobs of the range were pulled by a
-- new client with the credentials of the settings. Each digest that was sent is that of a blob that was received in
-- this conversation, which it names, and whose descriptor is in the range.
pub record LiveBlobsBy (Gives : Giving) (settings : BlobSettings) (r : Result Unit OciDistributionError)
    (old new : Wire) : Type 0 where
  pub image : Reference
  pub reads : reference_of settings.settings.reference ≡ Ok image
  pub done : PulledBy Gives (context_of settings.settings) image (first_state settings.settings image)
      (blobs_in settings) old new r

abbrev pub LiveBlobs : BlobSettings → Result Unit OciDistributionError → Wire → Wire → Type 0
LiveBlobs = LiveBlobsBy BlobsTold

-- the same, but `e` cut what was sent
abbrev pub LiveBlobsCut : BlobSettings → HostError → Wire → Wire → Type 0
LiveBlobsCut settings e old new = (r : Result Unit OciDistributionError)
    × LiveBlobsBy (λ digests outcome. BlobsCut digests outcome e) settings r old new
