-- A pull of blobs whose requests are frames.
use Rattle.std.specs.Prelude.{◌≡◌, ◌≤◌, ◌+◌, ℕ, false, List, [], ◌++◌, take, All, None, Result, Ok, Err, IfOk, IfErr}
use Rattle.oci_auth.specs.declared.auth_state.AuthState.{AuthState}
use Rattle.oci_manifests.specs.declared.descriptor.OciDescriptor.{OciDescriptor}
use Rattle.oci_names.specs.declared.reference.Reference.{Reference}
use Rattle.oci_protocol.specs.Proto.{Proto}
use Rattle.oci_protocol.specs.Runs.{Runs}
use Rattle.oci_transport.specs.declared.message.Exchange.{Exchange}
use Rattle.engine_requests.specs.Requests.{manifest_types}
use Rattle.engine_rows.specs.Causes.{BadHeader}
use Rattle.engine_rows.specs.Confined.{Within}
use Rattle.engine_rows.specs.Held.{pulling}
use Rattle.engine_terms.specs.Contexts.{Context}
use Rattle.engine_terms.specs.Error.{is_memory}
use Rattle.engine_terms.specs.declared.error.OciDistributionError.{OciDistributionError}
use Rattle.engine_terms.specs.declared.error.OciDistributionError.TheVariants as refusal
use Rattle.call_laws.specs.Blobs.{pull_blobs}
use Rattle.call_laws.specs.Causes.{BlobsCause}
use Rattle.call_laws.specs.Taken.{IsBlobOf}
use Rattle.image_blobs.specs.Taken.{with_blobs}
use Rattle.image_blobs.specs.declared.pulls.BlobRange.{BlobRange}
use Rattle.live_host.specs.Wire.{Wire}
use Rattle.live_pull.specs.Justified.{Shown}
use Rattle.live_pull.specs.Pulls.{Carries}

-- a complete run of this row, by the frames that were sent and received
pub record ByFrames {K A : Type 0} (row : Proto K A) (old new : Wire) (k l : K) (a : A) : Type 0 where
  pub conversation : List Exchange
  pub faults : ℕ
  pub runs : Runs row k 0 conversation faults l a
  pub carried : Carries conversation old new

-- an error has its cause in exchanges whose frames were sent and received
abbrev pub BlobsRefused : Context → Reference → AuthState → List OciDescriptor → Result Unit OciDistributionError
    → Wire → Wire → Type 0
BlobsRefused s image k xs r old new = IfErr r (λ e. (n : ℕ) × Shown
    (λ c. BlobsCause (BadHeader (pulling k s image None) s.settings manifest_types) s.settings image xs c n e) old new)

-- These blobs were pulled, from this client state on: a complete run of the pull. Credentials and tokens were sent only
-- to the image's registry and to the realm that it names, and an error has its cause, which is no fault of a sink.
pub record BlobsPulled (s : Context) (image : Reference) (k : AuthState) (xs : List OciDescriptor)
    (r : Result Unit OciDistributionError) (old new : Wire) : Type 0 where
  pub left : AuthState
  pub blobs : List (List ℕ)
  pub run : ByFrames (pull_blobs s image xs) old new k left (with_blobs blobs r)
  pub confined : Shown (Within (pulling k s image None) s.settings left) old new
  pub cause : BlobsRefused s image k xs r old new
  pub sinks : r ≡ Err refusal.SinkFault → ⊥

-- the blob of the descriptor is the body of a response, which the descriptor's digest names
abbrev pub IsReceived : List Exchange → OciDescriptor → Type 0
IsReceived c x = (bytes : List ℕ) × IsBlobOf c x bytes

-- The first of these blobs were received, in exchanges whose frames were sent and received; all of them, unless one was
-- refused.
pub record Received (xs stood : List OciDescriptor) (r : Result Unit OciDistributionError) (old new : Wire) : Type 0
  where
    pub rest : List OciDescriptor
    pub split : xs ≡ stood ++ rest
    pub all : IfOk r (λ u. rest ≡ [])
    pub received : Shown (λ c. All (IsReceived c) stood) old new

-- unless memory ran out
abbrev pub UnlessMemory : Result Unit OciDistributionError → Type 0 → Type 0
UnlessMemory (Ok u) P = P
UnlessMemory (Err e) P = is_memory e ≡ false → P

-- as many of the first blobs were received; all of them, unless one was refused
abbrev pub FirstReceived : List OciDescriptor → ℕ → Result Unit OciDistributionError → Wire → Wire → Type 0
FirstReceived xs n (Ok u) old new = Shown (λ c. All (IsReceived c) xs) old new
FirstReceived xs n (Err e) old new = (m : ℕ) → m ≤ n → Shown (λ c. All (IsReceived c) (take m xs)) old new

-- the range of the blobs that stand: all of it, unless one was refused, or as many of the first ones at most
abbrev pub IsStoodRange : BlobRange → ℕ → Result Unit OciDistributionError → BlobRange → Type 0
IsStoodRange range n (Ok u) to = to ≡ range
IsStoodRange range n (Err e) to = (to.first ≡ range.first) × (to.end ≤ range.end) × (to.end ≤ range.first + n)
