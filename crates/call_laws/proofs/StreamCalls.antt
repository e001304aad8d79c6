-- Which properties the calls have that open a stream of a blob.
use Rattle.std.proofs.Common.{◌≡◌, ◌<◌, ◌^◌, [], ◌++◌, Some, None, Result, Ok, Err, IfErr, refl}
use Rattle.json_values.specs.Counts.{Increased}
use Rattle.oci_transport.specs.Link.{Link}
use Rattle.oci_names.specs.declared.reference.Reference.{Reference}
use Rattle.oci_auth.specs.declared.auth_state.AuthState.{AuthState}
use Rattle.oci_protocol.specs.Proto.{Done}
use Rattle.oci_protocol.specs.Runs.{Meets, Told}
use Rattle.oci_protocol.specs.EveryRun.{EveryRun, ByResult}
use Rattle.oci_protocol.proofs.RunFacts.{EveryRun-done, EveryRun-each}
use Rattle.engine_terms.specs.Contexts.{Context}
use Rattle.engine_terms.specs.Error.{is_memory}
use Rattle.engine_requests.specs.Requests.{manifest_types}
use Rattle.engine_requests.specs.Sources.{Layer}
use Rattle.engine_terms.specs.declared.error.OciDistributionError.{OciDistributionError}
use Rattle.engine_terms.specs.declared.error.OciDistributionError.TheVariants as refusal
use Rattle.engine_rows.specs.Causes.{BadHeader}
use Rattle.engine_rows.specs.Confined.{Within}
use Rattle.engine_rows.specs.Held.{pulling}
use Rattle.request_laws.proofs.CallConfinement.{call_within}
use Rattle.request_laws.proofs.FaultCounts.{failed_last, fault_last, refusal_both}
use Rattle.request_laws.proofs.HeaderCauses.{Sound}
use Rattle.request_laws.proofs.KeptTokens.{Keeps, keeps_first}
use Rattle.request_laws.proofs.ShownTokens.{Carries, Ended, safe_done, safe_next}
use Rattle.engine_streams.specs.Blobs.{opened, blob_stream, Response, by_digests, blob_stream_partial, opening_in, response_in}
use Rattle.engine_streams.specs.declared.blobs.BlobResponse.{BlobResponse}
use Rattle.engine_streams.specs.declared.head.Opening.{Opening}
use Rattle.engine_streams.specs.declared.range.ByteRange.{ByteRange}
use Rattle.engine_streams.specs.declared.stream.SizedStream.{SizedStream}
use Rattle.call_laws.proofs.StreamCauses.{Streamed, opened_causes, opened_reason, opened_fault, stream_free, tight_stream}
use Rattle.call_laws.proofs.StreamSafety.{opened_sound}
use Rattle.engine_streams.specs.Causes.{StreamCause, StreamUrl}

-- ---- a whole blob

pub stream_confined : (s : Context) (image : Reference) (layer : Layer) {old new : Link} {k l : AuthState} {r : Result Opening OciDistributionError} → Meets is_memory (blob_stream s image layer) old new k l r → Told (Within (pulling k s image None) s.settings l) old new
stream_confined s image layer {k = k} {l = l} met = let x = pulling k s image None in call_within x s.settings (Ended x s.settings manifest_types) l (opened_sound s image layer None k None k [] tt (keeps_first x)) met

pub stream_reason : (s : Context) (image : Reference) (layer : Layer) {old new : Link} {k l : AuthState} (r : Result SizedStream OciDistributionError) → Meets is_memory (blob_stream s image layer) old new k l (opening_in r) → IfErr r (λ e. Told (λ c. StreamCause None (StreamUrl None s.settings image layer) (BadHeader (pulling k s image None) s.settings manifest_types) s.settings layer.digest c new.faults e) old new)
stream_reason s image layer (Ok stream) met = tt
stream_reason s image layer (Err e) met = opened_reason s image layer None tt met

pub stream_fault : (s : Context) (image : Reference) (layer : Layer) {old new : Link} {k l : AuthState} (r : Result SizedStream OciDistributionError) → Meets is_memory (blob_stream s image layer) old new k l (opening_in r) → r ≡ Err refusal.TransportFault → Increased old.faults new.faults
stream_fault s image layer r met is = opened_fault s image layer None (rw is at met)

-- ---- a part of one

partial_sound : (s : Context) (image : Reference) (layer : Layer) (range : ByteRange) (k : AuthState) → range.offset < 2 ^ 64 → Sound (pulling k s image None) s.settings manifest_types k [] (blob_stream_partial s image layer range)
unfolding blob_stream_partial
partial_sound s image layer range k small =
    let x = pulling k s image None in
    safe_next x s.settings manifest_types (opened s image layer (Some range)) _ k [] (opened_sound s image layer (Some range) k None k [] small (keeps_first x)) (λ l c o keeps. safe_done x s.settings (Ended x s.settings manifest_types) l c (Ok (by_digests o o.digests)) keeps)

partial_causes : (s : Context) (image : Reference) (layer : Layer) (range : ByteRange) → EveryRun (ByResult (λ m c n response. Unit {0}) (Streamed (Some range) (StreamUrl (Some range) s.settings image layer) s.settings layer.digest)) (blob_stream_partial s image layer range)
unfolding blob_stream_partial
partial_causes s image layer range = EveryRun-each (λ m c n o. Unit {0}) (λ m c n response. Unit {0}) (Streamed (Some range) (StreamUrl (Some range) s.settings image layer) s.settings layer.digest) (opened s image layer (Some range)) (λ o. Done (Ok (by_digests o o.digests))) (opened_causes s image layer (Some range))
    (λ m n c o h. EveryRun-done (λ start d end r. ByResult (λ m c n response. Unit {0}) (Streamed (Some range) (StreamUrl (Some range) s.settings image layer) s.settings layer.digest) m (c ++ d) end r) (Ok (by_digests o o.digests)) (λ m. tt))

pub partial_confined : (s : Context) (image : Reference) (layer : Layer) (range : ByteRange) {old new : Link} {k l : AuthState} {r : Result Response OciDistributionError} → range.offset < 2 ^ 64 → Meets is_memory (blob_stream_partial s image layer range) old new k l r → Told (Within (pulling k s image None) s.settings l) old new
partial_confined s image layer range {k = k} {l = l} small met = call_within (pulling k s image None) s.settings (Ended (pulling k s image None) s.settings manifest_types) l (partial_sound s image layer range k small) met

part_reason : (s : Context) (image : Reference) (layer : Layer) (range : ByteRange) {old new : Link} {k l : AuthState} {r : Result Response OciDistributionError} → range.offset < 2 ^ 64 → Meets is_memory (blob_stream_partial s image layer range) old new k l r → IfErr r (λ e. Told (λ c. StreamCause (Some range) (StreamUrl (Some range) s.settings image layer) (BadHeader (pulling k s image None) s.settings manifest_types) s.settings layer.digest c new.faults e) old new)
part_reason s image layer range {k = k} small met =
    let x = pulling k s image None in
    refusal_both (Carries x s.settings) (λ m c n response. Unit {0}) (Streamed (Some range) (StreamUrl (Some range) s.settings image layer) s.settings layer.digest) (Keeps x) (Ended x s.settings manifest_types) (λ c n e. StreamCause (Some range) (StreamUrl (Some range) s.settings image layer) (BadHeader x s.settings manifest_types) s.settings layer.digest c n e) (blob_stream_partial s image layer range)
    (λ n c e is. stream_free (Some range) (StreamUrl (Some range) s.settings image layer) (BadHeader x s.settings manifest_types) s.settings layer.digest n c e is) (λ m n c e h bad. tight_stream (Some range) (StreamUrl (Some range) s.settings image layer) x s.settings layer.digest n c e h bad) (partial_causes s image layer range) (partial_sound s image layer range k small) met

pub partial_reason : (s : Context) (image : Reference) (layer : Layer) (range : ByteRange) {old new : Link} {k l : AuthState} (r : Result BlobResponse OciDistributionError) → range.offset < 2 ^ 64 → Meets is_memory (blob_stream_partial s image layer range) old new k l (response_in r) → IfErr r (λ e. Told (λ c. StreamCause (Some range) (StreamUrl (Some range) s.settings image layer) (BadHeader (pulling k s image None) s.settings manifest_types) s.settings layer.digest c new.faults e) old new)
partial_reason s image layer range (Ok response) small met = tt
partial_reason s image layer range (Err e) small met = part_reason s image layer range small met

pub partial_fault : (s : Context) (image : Reference) (layer : Layer) (range : ByteRange) {old new : Link} {k l : AuthState} (r : Result BlobResponse OciDistributionError) → Meets is_memory (blob_stream_partial s image layer range) old new k l (response_in r) → r ≡ Err refusal.TransportFault → Increased old.faults new.faults
partial_fault s image layer range r met is = fault_last (λ m c n response. Unit {0}) (Streamed (Some range) (StreamUrl (Some range) s.settings image layer) s.settings layer.digest) (blob_stream_partial s image layer range) refusal.TransportFault refl (λ m n c h. failed_last h) (partial_causes s image layer range) (rw is at met)
