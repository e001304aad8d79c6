-- The call for the blobs of a range, each exit.
use Rattle.std.proofs.Common.{◌≡◌, ◌<◌, ℕ, List, [], ◌∷◌, Option, None, Result, Ok, Err, refl, sym, ap, subst}
use Rattle.std.specs.Result.{IsErrAnd}
use Rattle.url.specs.Parts.{Parts}
use Rattle.byte_streams.specs.SinkState.{SinkState}
use Rattle.oci_transport.specs.Link.{Link}
use Rattle.oci_transport.specs.declared.message.Exchange.{Exchange}
use Rattle.oci_auth.specs.declared.auth_state.AuthState.{AuthState}
use Rattle.oci_auth.specs.declared.token_type.RegistryTokenType.{RegistryTokenType}
use Rattle.oci_auth.specs.declared.token_type.RegistryOperation.TheVariants.{Pull}
use Rattle.oci_names.specs.declared.reference.Reference.{Reference}
use Rattle.oci_manifests.specs.declared.descriptor.OciDescriptor.{OciDescriptor}
use Rattle.oci_protocol.specs.Proto.{Done, ◌>>=◌}
use Rattle.oci_protocol.specs.Runs.{Meets, Told}
use Rattle.oci_protocol.proofs.Laws.{Meets-refused}
use Rattle.json_values.specs.Refusals.{Matches}
use Rattle.engine_terms.specs.Contexts.{Context}
use Rattle.engine_terms.specs.Error.{is_memory}
use Rattle.engine_terms.specs.declared.error.OciDistributionError.{OciDistributionError}
use Rattle.engine_terms.specs.declared.error.OciDistributionError.TheVariants as refusal
use Rattle.engine_requests.specs.Addresses.{registry_text, url_read}
use Rattle.engine_requests.specs.Requests.{manifest_types}
use Rattle.engine_rows.specs.Rows.{Row, authorized}
use Rattle.engine_rows.specs.Causes.{BadHeader}
use Rattle.engine_rows.specs.Confined.{Within}
use Rattle.engine_rows.specs.Held.{pulling}
use Rattle.oci_protocol.proofs.Exits.{and_then, done, said}
use Rattle.engine_rows.proofs.Exits.{meets_told}
use Rattle.engine_pull.proofs.NoSink.{Calm, read_calm}
use Rattle.call_laws.specs.Blobs.{range_of, each_blob, pull_blobs}
use Rattle.call_laws.specs.Causes.{BlobsCause}
use Rattle.call_laws.proofs.BlobsCauses.{blobs_reason, blobs_fault, token_never}
use Rattle.call_laws.proofs.BlobsConfined.{blobs_confined}
use Rattle.image_blobs.specs.SinksState.{SinksState}
use Rattle.image_blobs.specs.Taken.{IsAt, MeetsIntoSinks, TookSome, TookBlobs, with_blobs, RefusedFor, FaultCounted}
use Rattle.image_blobs.proofs.EachInTurn.{range_next}
use Rattle.image_blobs.proofs.SinksTaken.{closes_none, took_none, took_nothing, took_after}

-- at the exit of a `?`
pub took_err : (fresh : SinkState) (xs : List OciDescriptor) (old new : Link) (before after : SinksState) (e : OciDistributionError) (r : Result Unit OciDistributionError) → IsErrAnd r (λ x. x ≡ e) → TookSome fresh xs old new before after → TookBlobs fresh xs old new before after r
took_err fresh xs old new before after e (Ok u) is took = absurd is
took_err fresh xs old new before after e (Err y) is took = took

module _ (s : Context) (image : Reference) (ds : List OciDescriptor) (first end : ℕ) where
  empty_met : (link : Link) (k : AuthState) → Meets is_memory (pull_blobs s image []) link link k k (Ok [])
  unfolding pull_blobs
  empty_met link k = done

  pub pull_none : (link : Link) (k : AuthState) → range_of first end ds ≡ [] → MeetsIntoSinks (pull_blobs s image (range_of first end ds)) link link k k (Ok tt)
  pull_none link k none = record { blobs = []; met = subst (λ (xs : List OciDescriptor). Meets is_memory (pull_blobs s image xs) link link k k (Ok [])) (sym none) (empty_met link k) }

  -- the row of some blobs
  after_token : List OciDescriptor → Parts → Row (List (List ℕ))
  after_token xs registry = authorized s image Pull registry >>= (λ token. each_blob s.settings image registry token xs [])

  pull_some : (x : OciDescriptor) (xs : List OciDescriptor) {old new : Link} {k l : AuthState} {r : Result (List (List ℕ)) OciDistributionError} → Meets is_memory (Done (url_read (registry_text s.settings image)) >>= after_token (x ∷ xs)) old new k l r → Meets is_memory (pull_blobs s image (x ∷ xs)) old new k l r
  unfolding pull_blobs after_token
  pull_some x xs met = met

  pull_more : (x : OciDescriptor) {old new : Link} {k l : AuthState} {r : Result (List (List ℕ)) OciDistributionError} → first < end → IsAt ds first x → Meets is_memory (Done (url_read (registry_text s.settings image)) >>= after_token (range_of first end ds)) old new k l r → Meets is_memory (pull_blobs s image (range_of first end ds)) old new k l r
  pull_more x {old} {new} {k} {l} {r} lt is met =
      let same = range_next first end ds x lt is in
      subst (λ (xs : List OciDescriptor). Meets is_memory (pull_blobs s image xs) old new k l r) (sym same) (pull_some x _ (subst (λ (xs : List OciDescriptor). Meets is_memory (Done (url_read (registry_text s.settings image)) >>= after_token xs) old new k l r) same met))

  pub pull_unread : (x : OciDescriptor) (e : OciDistributionError) (link : Link) (k : AuthState) → first < end → IsAt ds first x → Matches {A = Parts} is_memory (Err e) (url_read (registry_text s.settings image)) → MeetsIntoSinks (pull_blobs s image (range_of first end ds)) link link k k (Err e)
  pull_unread x e link k lt is says = record { blobs = []; met = pull_more x lt is (Meets-refused _ (said {A = Parts} (Err e) says)) }

  pub pull_unauthorized : (x : OciDescriptor) (registry : Parts) (e : OciDistributionError) (old new : Link) (k l : AuthState) → first < end → IsAt ds first x → Matches is_memory (Ok registry) (url_read (registry_text s.settings image)) → Meets is_memory (authorized s image Pull registry) old new k l (Err e) → MeetsIntoSinks (pull_blobs s image (range_of first end ds)) old new k l (Err e)
  unfolding after_token
  pull_unauthorized x registry e old new k l lt is says met = record { blobs = []; met = pull_more x lt is (and_then _ (said (Ok registry) says) (Meets-refused _ met)) }

  pub pull_each : (x : OciDescriptor) (registry : Parts) (token : Option RegistryTokenType) (r : Result Unit OciDistributionError) (old mid new : Link) (k l : AuthState) → first < end → IsAt ds first x → Matches is_memory (Ok registry) (url_read (registry_text s.settings image)) → Meets is_memory (authorized s image Pull registry) old mid k l (Ok token) → MeetsIntoSinks (each_blob s.settings image registry token (range_of first end ds) []) mid new l l r → MeetsIntoSinks (pull_blobs s image (range_of first end ds)) old new k l r
  unfolding after_token
  pull_each x registry token r old mid new k l lt is says met each = record { blobs = each.blobs; met = pull_more x lt is (and_then _ (said (Ok registry) says) (and_then _ met each.met)) }

  -- ---- what the row shows

  pub pull_confined : (old new : Link) (k l : AuthState) (r : Result Unit OciDistributionError) → MeetsIntoSinks (pull_blobs s image (range_of first end ds)) old new k l r → Told (Within (pulling k s image None) s.settings l) old new
  pull_confined old new k l r m = blobs_confined s image (range_of first end ds) m.met

  pub pull_fault : (old new : Link) (k l : AuthState) (r : Result Unit OciDistributionError) → MeetsIntoSinks (pull_blobs s image (range_of first end ds)) old new k l r → FaultCounted old new r
  pull_fault old new k l r m is = blobs_fault s image (range_of first end ds) m.met (ap (λ (r : Result Unit OciDistributionError). with_blobs m.blobs r) is)

  pub pull_refused : (x : OciDescriptor) (old new : Link) (k l : AuthState) (r : Result Unit OciDistributionError) → first < end → IsAt ds first x → MeetsIntoSinks (pull_blobs s image (range_of first end ds)) old new k l r → RefusedFor k s image (range_of first end ds) old new r
  pull_refused x old new k l (Ok u) lt is m = tt
  pull_refused x old new k l (Err e) lt is m =
      let same = range_next first end ds x lt is in
      subst (λ (xs : List OciDescriptor). Told (λ c. BlobsCause (BadHeader (pulling k s image None) s.settings manifest_types) s.settings image xs c new.faults e) old new) (sym same)
      (blobs_reason s image x _ (subst (λ (xs : List OciDescriptor). Meets is_memory (pull_blobs s image xs) old new k l (Err e)) same m.met))

  -- no blob
  pub none_took : (fresh : SinkState) (link : Link) (sinks : SinksState) → range_of first end ds ≡ [] → TookBlobs fresh (range_of first end ds) link link sinks sinks (Ok tt)
  none_took fresh link sinks none = subst (λ (xs : List OciDescriptor). TookBlobs fresh xs link link sinks sinks (Ok tt)) (sym none) (took_none fresh link sinks)

  -- a refusal before the first blob
  pub first_took : (fresh : SinkState) (x : OciDescriptor) (e : OciDistributionError) (old new : Link) (k l : AuthState) (sinks : SinksState) → first < end → IsAt ds first x → MeetsIntoSinks (pull_blobs s image (range_of first end ds)) old new k l (Err e) → TookBlobs fresh (range_of first end ds) old new sinks sinks (Err e)
  first_took fresh x e old new k l sinks lt is m = took_nothing fresh (range_of first end ds) (closes_none sinks) (meets_told (λ c. Unit {0}) (λ c. tt) m.met)

  -- the blobs, after the token
  pub each_took : (fresh : SinkState) (registry : Parts) (token : Option RegistryTokenType) (r : Result Unit OciDistributionError) (old mid new : Link) (k l : AuthState) (before after : SinksState) → Meets is_memory (authorized s image Pull registry) old mid k l (Ok token) → TookBlobs fresh (range_of first end ds) mid new before after r → TookBlobs fresh (range_of first end ds) old new before after r
  each_took fresh registry token r old mid new k l before after met took = took_after fresh (range_of first end ds) old mid new before after r (meets_told (λ c. Unit {0}) (λ c. tt) met) took

-- a URL that is not one, or a refusal of the token step, is not a fault of the sinks
pub url_counted : (text : List ℕ) (e : OciDistributionError) (P : Type 0) → Matches {A = Parts} is_memory (Err e) (url_read text) → ◌≡◌ {A = Result Unit OciDistributionError} (Err e) (Err refusal.SinkFault) → P
url_counted text e P says h = never (read_calm text) (rw (sink h) at says) where
  sink : ◌≡◌ {A = Result Unit OciDistributionError} (Err e) (Err refusal.SinkFault) → e ≡ refusal.SinkFault
  sink h = cc h

  never : Calm (url_read text) → Matches {A = Parts} is_memory (Err refusal.SinkFault) (url_read text) → P
  never calm same = absurd ((subst (λ (r : Result Parts OciDistributionError). Calm r) same calm) refl)

pub token_counted : (s : Context) (image : Reference) (registry : Parts) (old new : Link) (k l : AuthState) (e : OciDistributionError) (P : Type 0) → Meets is_memory (authorized s image Pull registry) old new k l (Err e) → ◌≡◌ {A = Result Unit OciDistributionError} (Err e) (Err refusal.SinkFault) → P
token_counted s image registry old new k l e P met h = absurd (token_never s image registry e met (sink h)) where
  sink : ◌≡◌ {A = Result Unit OciDistributionError} (Err e) (Err refusal.SinkFault) → e ≡ refusal.SinkFault
  sink h = cc h
