-- What the sinks of a pull took.
use Rattle.std.specs.Prelude.{◌≡◌, ◌≤◌, ◌<◌, ◌⊎◌, ℕ, true, false, List, [], ◌∷◌, ◌++◌, Result}
use Rattle.std.specs.Prelude.{Ok, Err, IfErr, None, get_or, length}
use Rattle.json_values.specs.Counts.{Increased}
use Rattle.byte_streams.specs.SinkState.{SinkState, Adds}
use Rattle.byte_streams.specs.declared.sink.SinkError.{SinkError}
use Rattle.byte_streams.specs.declared.sink.SinkError.TheVariants.{Failed, WantOfMemory}
use Rattle.oci_transport.specs.Link.{Link}
use Rattle.oci_transport.specs.declared.message.Exchange.{Exchange}
use Rattle.oci_auth.specs.declared.auth_state.AuthState.{AuthState}
use Rattle.oci_manifests.specs.declared.descriptor.OciDescriptor.{OciDescriptor}
use Rattle.oci_protocol.specs.Runs.{Meets, Told}
use Rattle.oci_names.specs.declared.reference.Reference.{Reference}
use Rattle.engine_terms.specs.Contexts.{Context}
use Rattle.engine_terms.specs.Error.{is_memory}
use Rattle.engine_terms.specs.declared.error.OciDistributionError.{OciDistributionError}
use Rattle.engine_terms.specs.declared.error.OciDistributionError.TheVariants as refusal
use Rattle.engine_requests.specs.Requests.{manifest_types}
use Rattle.engine_rows.specs.Answered.{Body}
use Rattle.engine_rows.specs.Causes.{BadHeader}
use Rattle.engine_rows.specs.Held.{pulling}
use Rattle.engine_rows.specs.Blobs.{filled}
use Rattle.engine_rows.specs.Rows.{Row}
use Rattle.call_laws.specs.Causes.{BlobsCause}
use Rattle.call_laws.specs.Cut.{size_of}
use Rattle.call_laws.specs.Taken.{IsBlobOf}
use Rattle.image_blobs.specs.SinksState.{Closed, SinksState, Closes}

-- ---- one blob

-- the bytes are a prefix of the body of a response, or there are none
pub record IsPrefixOfBody (c : List Exchange) (bytes : List ℕ) : Type 0 where
  pub whole : List ℕ
  pub left : List ℕ
  pub body : Body c whole
  pub split : whole ≡ bytes ++ left

abbrev pub IsPrefixOrNone : List Exchange → List ℕ → Type 0
IsPrefixOrNone c bytes = (bytes ≡ []) ⊎ IsPrefixOfBody c bytes

-- at most `limit` bytes were appended, if the sink exposes its bytes
pub record AddsWithin (limit : ℕ) (old new : SinkState) : Type 0 where
  pub bytes : List ℕ
  pub within : length bytes ≤ limit
  pub added : Adds bytes old new

-- the sink was opened for the descriptor's blob, took exactly it, and was closed as having it
pub record Stands (fresh : SinkState) (c : List Exchange) (x : OciDescriptor) (z : Closed) : Type 0 where
  pub digest : z.digest ≡ x.digest
  pub stood : z.stood ≡ true
  pub bytes : List ℕ
  pub took : Adds bytes fresh z.sink
  pub blob : IsBlobOf c x bytes

-- It was opened for the descriptor's blob, took a prefix of a response's body with at most as many bytes as the
-- descriptor states, and was closed as not having the blob.
pub record Falls (fresh : SinkState) (c : List Exchange) (x : OciDescriptor) (z : Closed) : Type 0 where
  pub digest : z.digest ≡ x.digest
  pub stood : z.stood ≡ false
  pub bytes : List ℕ
  pub took : Adds bytes fresh z.sink
  pub within : length bytes ≤ size_of x
  pub front : IsPrefixOrNone c bytes

-- ---- all blobs of a call

-- a sink for each descriptor, in order, has its blob
abbrev pub EachStands : SinkState → List Exchange → List OciDescriptor → List Closed → Type 0
EachStands fresh c [] [] = Unit {0}
EachStands fresh c (x ∷ xs) (z ∷ zs) = Stands fresh c x z × EachStands fresh c xs zs
EachStands fresh c xs zs = ⊥

-- at most one more sink was closed, that of the next descriptor
abbrev pub MayFall : SinkState → List Exchange → List OciDescriptor → List Closed → Type 0
MayFall fresh c xs [] = Unit {0}
MayFall fresh c (x ∷ xs) (z ∷ []) = Falls fresh c x z
MayFall fresh c xs zs = ⊥

-- each descriptor's sink has its blob
pub record TookAll (fresh : SinkState) (xs : List OciDescriptor) (old new : Link) (before after : SinksState) : Type 0
  where
    pub closed : List Closed
    pub closes : Closes closed before after
    pub stand : Told (λ c. EachStands fresh c xs closed) old new

-- The sinks of the first descriptors have their blobs, and the next one's a prefix of a response's body.
pub record TookSome (fresh : SinkState) (xs : List OciDescriptor) (old new : Link) (before after : SinksState) : Type 0
  where
    pub done : List OciDescriptor
    pub rest : List OciDescriptor
    pub split : xs ≡ done ++ rest
    pub closed : List Closed
    pub last : List Closed
    pub closes : Closes (closed ++ last) before after
    pub stand : Told (λ c. EachStands fresh c done closed × MayFall fresh c rest last) old new

abbrev pub TookBlobs : SinkState → List OciDescriptor → Link → Link → SinksState → SinksState
    → Result Unit OciDistributionError → Type 0
TookBlobs fresh xs old new before after (Ok u) = TookAll fresh xs old new before after
TookBlobs fresh xs old new before after (Err e) = TookSome fresh xs old new before after

-- the descriptor at this index
abbrev pub IsAt : List OciDescriptor → ℕ → OciDescriptor → Type 0
IsAt xs at x = (at < length xs) × (x ≡ get_or xs at x)

-- ---- the row that was performed

abbrev pub with_blobs : List (List ℕ) → Result Unit OciDistributionError → Result (List (List ℕ)) OciDistributionError
with_blobs blobs (Ok u) = Ok blobs
with_blobs blobs (Err e) = Err e

-- The call performed this row, which returns this blob, and the client state is unchanged.
pub record MeetsOne (p : Row (List ℕ)) (old new : Link) (k : AuthState) (r : Result Unit OciDistributionError) : Type 0
  where
    pub blob : List ℕ
    pub met : Meets is_memory p old new k k (filled blob r)

-- The call performed this row, which returns these blobs.
pub record MeetsIntoSinks (p : Row (List (List ℕ))) (old new : Link) (k l : AuthState)
    (r : Result Unit OciDistributionError) : Type 0 where
  pub blobs : List (List ℕ)
  pub met : Meets is_memory p old new k l (with_blobs blobs r)

-- what a refusal of the sinks is returned as
abbrev pub refusal_of : SinkError → OciDistributionError
refusal_of Failed = refusal.SinkFault
refusal_of WantOfMemory = refusal.WantOfMemory

-- the sinks are refused only if their fault count increased
abbrev pub SinksCounted : SinksState → SinksState → Result Unit OciDistributionError → Type 0
SinksCounted before after r = r ≡ Err refusal.SinkFault → Increased before.faults after.faults

-- each refusal has its cause in the exposed exchanges
abbrev pub RefusedFor : AuthState → Context → Reference → List OciDescriptor → Link → Link
    → Result Unit OciDistributionError → Type 0
RefusedFor k s image xs old new r = IfErr r (λ e. Told
    (λ c. BlobsCause (BadHeader (pulling k s image None) s.settings manifest_types) s.settings image xs c new.faults e)
    old new)

-- a fault of the transport is returned only if its fault count increased
abbrev pub FaultCounted : Link → Link → Result Unit OciDistributionError → Type 0
FaultCounted old new r = r ≡ Err refusal.TransportFault → Increased old.faults new.faults
