-- How a pull of blobs ends, by its parts.
use Rattle.std.proofs.Common.{◌≡◌, ◌≤◌, ◌-◌, ℕ, List, [], ◌++◌, All, take, drop, Result, Ok, Err, refl, sym, ap, ◌∙◌, subst, arith, append-nil, take-append-drop, take-take}
use Rattle.oci_auth.specs.declared.auth_state.AuthState.{AuthState}
use Rattle.oci_manifests.specs.declared.descriptor.OciDescriptor.{OciDescriptor}
use Rattle.oci_names.specs.declared.reference.Reference.{Reference}
use Rattle.engine_terms.specs.Contexts.{Context, within}
use Rattle.engine_terms.specs.declared.error.OciDistributionError.{OciDistributionError}
use Rattle.call_laws.specs.Blobs.{range_of}
use Rattle.image_blobs.specs.declared.pulls.BlobRange.{BlobRange}
use Rattle.live_host.specs.Wire.{Wire}
use Rattle.live_host.specs.declared.streams.HostError.{HostError}
use Rattle.live_pull.specs.Justified.{Shown}
use Rattle.live_pull.specs.declared.status.Status.{Status}
use Rattle.live_blobs.specs.Delivery.{BlobsCut, BlobsTold, Delivers}
use Rattle.live_blobs.specs.Ends.{EndsBy, IsKept}
use Rattle.live_blobs.specs.LiveBlobs.{Giving, LiveBlobs, LiveBlobsBy, LiveBlobsCut, PulledAndCut, PulledAndTold, PulledBy, digests_of}
use Rattle.live_blobs.specs.Opening.{Opens}
use Rattle.live_blobs.specs.Pulled.{BlobsPulled, FirstReceived, IsReceived, IsStoodRange, Received, UnlessMemory}
use Rattle.live_blobs.specs.Settings.{blobs_in}
use Rattle.live_blobs.specs.declared.opening.Opened.{Opened}
use Rattle.live_blobs.specs.declared.settings.BlobSettings.{BlobSettings}
use Rattle.live_blobs.proofs.Delivered.{ends_as}

unless : (r : Result Unit OciDistributionError) {P : Type 0} → IsKept r → UnlessMemory r P → P
unless (Ok u) kept h = h
unless (Err e) kept h = h kept

-- the first blobs of a range
first_of_range : (first end most : ℕ) (ds : List OciDescriptor) → most ≤ end → range_of first most ds ≡ take (most - first) (range_of first end ds)
first_of_range first end most ds le = sym (take-take (most - first) (end - first) (drop first ds) (omega (arith, le)))

stood_of : (ds : List OciDescriptor) (range to : BlobRange) (n : ℕ) (r : Result Unit OciDistributionError) (old new : Wire) → IsStoodRange range n r to → FirstReceived (range_of range.first range.end ds) n r old new → Received (range_of range.first range.end ds) (range_of to.first to.end ds) r old new
stood_of ds range to n (Ok u) old new is received = record {
  rest = [];
  split = sym (append-nil (range_of to.first to.end ds) ∙ ap (λ (x : BlobRange). range_of x.first x.end ds) is);
  all = refl;
  received = subst (λ (x : BlobRange). Shown (λ c. All (IsReceived c) (range_of x.first x.end ds)) old new) (sym is) received;
}
stood_of ds range to n (Err e) old new is received =
    let front : range_of to.first to.end ds ≡ take (to.end - range.first) (range_of range.first range.end ds) = ap (λ (k : ℕ). range_of k to.end ds) is.0 ∙ first_of_range range.first range.end to.end ds is.1 in
    record {
      rest = drop (to.end - range.first) (range_of range.first range.end ds);
      split = sym (ap (λ (xs : List OciDescriptor). xs ++ drop (to.end - range.first) (range_of range.first range.end ds)) front ∙ take-append-drop (to.end - range.first) (range_of range.first range.end ds));
      all = tt;
      received = subst (λ (xs : List OciDescriptor). Shown (λ c. All (IsReceived c) xs) old new) (sym front) (received (to.end - range.first) (omega (arith, is.2)));
    }

-- a pull, and what was sent of it
module _ (s : Context) (image : Reference) (k : AuthState) (ds : List OciDescriptor) (range to : BlobRange) (n : ℕ) (old at new : Wire) where
  pulled_by : (Gives : Giving) (r : Result Unit OciDistributionError) → IsKept r → UnlessMemory r (BlobsPulled s image k (range_of range.first range.end ds) r old at) → FirstReceived (range_of range.first range.end ds) n r old at
      → IsStoodRange range n r to → Gives (digests_of (range_of to.first to.end ds)) r at new → PulledBy Gives s image k (range_of range.first range.end ds) old new r
  pulled_by Gives r kept pull received is given = record {
    pulled_at = at;
    pulled = unless r kept pull;
    stood = range_of to.first to.end ds;
    received = stood_of ds range to n r old at is received;
    given = given;
  }

  pub told_ends : (r : Result Unit OciDistributionError) (e : Status) → UnlessMemory r (BlobsPulled s image k (range_of range.first range.end ds) r old at) → FirstReceived (range_of range.first range.end ds) n r old at → IsStoodRange range n r to
      → Delivers (digests_of (range_of to.first to.end ds)) r e at new
      → EndsBy (PulledAndTold s image k (range_of range.first range.end ds) old new) (λ h. PulledAndCut s image k (range_of range.first range.end ds) h old new) e
  told_ends r e pull received is ends = ends_as {P = λ x. (x ≡ r) × BlobsTold (digests_of (range_of to.first to.end ds)) x at new} {Q = PulledAndTold s image k (range_of range.first range.end ds) old new} {C = λ h. IsKept r × BlobsCut (digests_of (range_of to.first to.end ds)) r h at new} {D = λ h. PulledAndCut s image k (range_of range.first range.end ds) h old new} e told cut ends where
    told : (x : Result Unit OciDistributionError) → IsKept x → (x ≡ r) × BlobsTold (digests_of (range_of to.first to.end ds)) x at new → PulledAndTold s image k (range_of range.first range.end ds) old new x
    told x kept h = pulled_by BlobsTold x kept
        (subst (λ (y : Result Unit OciDistributionError). UnlessMemory y (BlobsPulled s image k (range_of range.first range.end ds) y old at)) (sym h.0) pull)
        (subst (λ (y : Result Unit OciDistributionError). FirstReceived (range_of range.first range.end ds) n y old at) (sym h.0) received)
        (subst (λ (y : Result Unit OciDistributionError). IsStoodRange range n y to) (sym h.0) is) h.1

    cut : (h : HostError) → IsKept r × BlobsCut (digests_of (range_of to.first to.end ds)) r h at new → PulledAndCut s image k (range_of range.first range.end ds) h old new
    cut h both = (r, pulled_by (λ digests outcome. BlobsCut digests outcome h) r both.0 pull received is both.1)

-- by the settings
pub live_ends : (settings : BlobSettings) (o : Opened) (old new : Wire) (e : Status) → Opens settings.settings o
    → EndsBy (PulledAndTold (within o.settings o.moment) o.image o.state (blobs_in settings) old new) (λ h. PulledAndCut (within o.settings o.moment) o.image o.state (blobs_in settings) h old new) e
    → EndsBy (λ r. LiveBlobs settings r old new) (λ h. LiveBlobsCut settings h old new) e
live_ends settings o old new e opens ends = ends_as {P = PulledAndTold (within o.settings o.moment) o.image o.state (blobs_in settings) old new} {Q = λ r. LiveBlobs settings r old new}
    {C = λ h. PulledAndCut (within o.settings o.moment) o.image o.state (blobs_in settings) h old new} {D = λ h. LiveBlobsCut settings h old new} e
    (λ r kept h. live BlobsTold r h) (λ h both. (both.0, live (λ digests outcome. BlobsCut digests outcome h) both.0 both.1)) ends where
      live : (Gives : Giving) (r : Result Unit OciDistributionError) → PulledBy Gives (within o.settings o.moment) o.image o.state (blobs_in settings) old new r → LiveBlobsBy Gives settings r old new
      live Gives r h = record { image = o.image; reads = opens.image; done = rw (opens.settings, opens.moment, opens.state) at h }
