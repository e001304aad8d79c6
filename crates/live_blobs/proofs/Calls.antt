-- A call of `pull_blobs` by a transport over the streams, by the frames that carried it.
use Rattle.std.proofs.Common.{◌≡◌, ◌≤◌, ℕ, List, [], All, Option, Some, None, Result, Ok, Err, subst, take, arith}
use Rattle.byte_streams.specs.SinkState.{SinkState}
use Rattle.oci_auth.specs.declared.auth_state.AuthState.{AuthState}
use Rattle.oci_manifests.specs.declared.descriptor.OciDescriptor.{OciDescriptor}
use Rattle.oci_names.specs.declared.reference.Reference.{Reference}
use Rattle.oci_protocol.specs.Proto.{Proto}
use Rattle.oci_protocol.specs.Runs.{Performs, Runs, Told}
use Rattle.oci_transport.specs.Link.{Link}
use Rattle.engine_requests.specs.Requests.{manifest_types}
use Rattle.engine_rows.specs.Causes.{BadHeader}
use Rattle.engine_rows.specs.Confined.{Within}
use Rattle.engine_rows.specs.Held.{pulling}
use Rattle.engine_terms.specs.Contexts.{Context}
use Rattle.engine_terms.specs.declared.error.OciDistributionError.{OciDistributionError}
use Rattle.engine_terms.specs.declared.error.OciDistributionError.TheVariants as refusal
use Rattle.call_laws.specs.Blobs.{pull_blobs}
use Rattle.call_laws.specs.Causes.{BlobsCause}
use Rattle.image_blobs.specs.SinksState.{Closed, SinksState}
use Rattle.image_blobs.specs.Taken.{MeetsIntoSinks, RefusedFor, SinksCounted, TookBlobs, with_blobs}
use Rattle.live_link.specs.State.{told_from}
use Rattle.live_link.specs.declared.stage.Breach.{Breach}
use Rattle.live_host.specs.Wire.{Wire}
use Rattle.live_pull.proofs.CarriedCalls.{Lets, shown}
use Rattle.live_blobs.specs.Discarded.{stood_among}
use Rattle.live_blobs.specs.Pulled.{BlobsPulled, BlobsRefused, ByFrames, FirstReceived, IsReceived, UnlessMemory}
use Rattle.live_blobs.proofs.Received.{all_received, first_received}

module _ (first last : Link) (breach : Option Breach) (old new : Wire) (told : first.told ≡ told_from old.sink.taken old.source.left []) (none : first.faults ≡ 0) (lets : Lets last breach new.sink new.source) where
  pub carried : {K A : Type 0} (row : Proto K A) (k l : K) (a : A) → Performs row first last k l a → ByFrames row old new k l a
  carried row k l a performed =
      let it = shown (λ c. Runs row k 0 c last.faults l a) first last breach old new told (record {
        conversation = performed.conversation;
        told = performed.told;
        holds = subst (λ (m : ℕ). Runs row k m performed.conversation last.faults l a) none performed.runs;
      }) lets in
      record { conversation = it.0; faults = last.faults; runs = it.2; carried = it.1 }

  module _ (s : Context) (image : Reference) (k l : AuthState) (xs : List OciDescriptor) where
    pulled_by : (r : Result Unit OciDistributionError) (blobs : List (List ℕ)) → ByFrames (pull_blobs s image xs) old new k l (with_blobs blobs r) → Told (Within (pulling k s image None) s.settings l) first last → RefusedFor k s image xs first last r → (r ≡ Err refusal.SinkFault → ⊥) → BlobsPulled s image k xs r old new
    pulled_by r blobs run confined causes sinks = record {
      left = l;
      blobs = blobs;
      run = run;
      confined = shown (Within (pulling k s image None) s.settings l) first last breach old new told confined lets;
      cause = caused r causes;
      sinks = sinks;
    } where
      caused : (r : Result Unit OciDistributionError) → RefusedFor k s image xs first last r → BlobsRefused s image k xs r old new
      caused (Ok u) h = tt
      caused (Err e) h = (last.faults, shown (λ c. BlobsCause (BadHeader (pulling k s image None) s.settings manifest_types) s.settings image xs c last.faults e) first last breach old new told h lets)

    unfailing : (before after : SinksState) (r : Result Unit OciDistributionError) → before.faults ≡ 0 → after.faults ≡ 0 → SinksCounted before after r → r ≡ Err refusal.SinkFault → ⊥
    unfailing before after r began ended counted is = let more = counted is in omega (arith, began, ended, more)

    pub pulled : (before after : SinksState) (r : Result Unit OciDistributionError) → before.faults ≡ 0 → after.faults ≡ 0 → MeetsIntoSinks (pull_blobs s image xs) first last k l r → Told (Within (pulling k s image None) s.settings l) first last → RefusedFor k s image xs first last r → SinksCounted before after r → UnlessMemory r (BlobsPulled s image k xs r old new)
    pulled before after (Ok u) began ended met confined causes counted = pulled_by (Ok u) met.blobs (carried (pull_blobs s image xs) k l (Ok met.blobs) met.met.outcome) confined causes (unfailing before after (Ok u) began ended counted)
    pulled before after (Err e) began ended met confined causes counted = λ kept. pulled_by (Err e) [] (carried (pull_blobs s image xs) k l (Err e) (rw kept at met.met.outcome)) confined causes (unfailing before after (Err e) began ended counted)

  pub received : (fresh : SinkState) (xs : List OciDescriptor) (before after : SinksState) (r : Result Unit OciDistributionError) (n : ℕ) (zs : List Closed) → before.closed ≡ Some [] → after.closed ≡ Some zs → n ≤ stood_among zs → TookBlobs fresh xs first last before after r → FirstReceived xs n r old new
  received fresh xs before after (Ok u) n zs began ended counted took = shown (λ c. All (IsReceived c) xs) first last breach old new told (all_received fresh xs first last before after took) lets
  received fresh xs before after (Err e) n zs began ended counted took = λ m le. shown (λ c. All (IsReceived c) (take m xs)) first last breach old new told (first_received fresh xs first last before after n zs began ended counted took m le) lets
