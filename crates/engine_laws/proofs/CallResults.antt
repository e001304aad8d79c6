-- Which properties the results of a client's calls have.
use Rattle.std.proofs.Common.{◌≡◌, ℕ, List, Some, Result, Ok, Err, IfOk}
use Rattle.byte_streams.specs.SinkState.{SinkState}
use Rattle.oci_transport.specs.Link.{Link}
use Rattle.oci_transport.specs.declared.message.Exchange.{Exchange}
use Rattle.oci_names.specs.declared.reference.Reference.{Reference}
use Rattle.oci_names.specs.Reference.{digest_of}
use Rattle.oci_digests.specs.Names.{Names}
use Rattle.oci_auth.specs.declared.auth.RegistryAuth.{RegistryAuth}
use Rattle.oci_auth.specs.declared.auth_state.AuthState.{AuthState}
use Rattle.oci_protocol.specs.Runs.{Meets, Told}
use Rattle.oci_protocol.proofs.RunFacts.{Meets-shows-ok}
use Rattle.engine_terms.specs.Contexts.{Context}
use Rattle.engine_requests.specs.Sources.{Layer}
use Rattle.engine_terms.specs.declared.error.OciDistributionError.{OciDistributionError}
use Rattle.engine_terms.specs.Error.{is_memory}
use Rattle.engine_rows.specs.Blobs.{Destination, IntoSink, MeetsIntoSink}
use Rattle.engine_rows.specs.Pulls.{fetch_manifest_digest, pull_manifest_raw, blob_to, pull_blob}
use Rattle.engine_rows.specs.Answered.{DigestAnswered, Body, LastBody, Document, TookBlob}
use Rattle.request_laws.proofs.DocumentAnswers.{raw_shows}
use Rattle.engine_laws.proofs.DigestAnswers.{digest_shows}
use Rattle.engine_laws.proofs.BlobAnswers.{Blob, blob_shows}

pub digest_answered : (s : Context) (image : Reference) (a : RegistryAuth) {old new : Link} {k l : AuthState} {r : Result (List ℕ) OciDistributionError} → Meets is_memory (fetch_manifest_digest s image a) old new k l r → IfOk r (λ d. Told (λ c. DigestAnswered s.settings image c d) old new)
digest_answered s image a met = Meets-shows-ok (λ m c n d. DigestAnswered s.settings image c d) (digest_shows s image a) met

raw_told : (s : Context) (image : Reference) (a : RegistryAuth) (types : List ℕ) {old new : Link} {k l : AuthState} {r : Result (List ℕ × List ℕ) OciDistributionError} → Meets is_memory (pull_manifest_raw s image a types) old new k l r → IfOk r (λ found. Told (λ c. Document image c found.0 found.1) old new)
raw_told s image a types met = Meets-shows-ok (λ m c n found. Document image c found.0 found.1) (raw_shows s image a types) met

-- `Told` is monotone: P implies Q
told_more : {P Q : List Exchange → Type 0} {old new : Link} → ((c : List Exchange) → P c → Q c) → Told P old new → Told Q old new
told_more more told = record { conversation = told.conversation; told = told.told; holds = more told.conversation told.holds }

ok_more : {A E : Type 0} (P Q : A → Type 0) (r : Result A E) → IfOk r P → ((a : A) → P a → Q a) → IfOk r Q
ok_more P Q (Ok a) h more = more a h
ok_more P Q (Err e) h more = tt

pub raw_body : (s : Context) (image : Reference) (a : RegistryAuth) (types : List ℕ) {old new : Link} {k l : AuthState} {r : Result (List ℕ × List ℕ) OciDistributionError} → Meets is_memory (pull_manifest_raw s image a types) old new k l r → IfOk r (λ found. Told (λ c. Body c found.0) old new)
raw_body s image a types {old = old} {new = new} {r = r} met = ok_more (λ found. Told (λ c. Document image c found.0 found.1) old new) (λ found. Told (λ c. Body c found.0) old new) r (raw_told s image a types met) (λ found told. told_more (λ c d. d.body) told)

pub raw_named : (s : Context) (image : Reference) (a : RegistryAuth) (types : List ℕ) {old new : Link} {k l : AuthState} {r : Result (List ℕ × List ℕ) OciDistributionError} → Meets is_memory (pull_manifest_raw s image a types) old new k l r → IfOk r (λ found. Names found.1 found.0)
raw_named s image a types {old = old} {new = new} {r = r} met = ok_more (λ found. Told (λ c. Document image c found.0 found.1) old new) (λ found. Names found.1 found.0) r (raw_told s image a types met) (λ found told. told.holds.names)

pub raw_given : (s : Context) (image : Reference) (a : RegistryAuth) (types : List ℕ) {old new : Link} {k l : AuthState} {r : Result (List ℕ × List ℕ) OciDistributionError} → Meets is_memory (pull_manifest_raw s image a types) old new k l r → IfOk r (λ found. (d : List ℕ) → digest_of image ≡ Some d → Names d found.0)
raw_given s image a types {old = old} {new = new} {r = r} met = ok_more (λ found. Told (λ c. Document image c found.0 found.1) old new) (λ found. (d : List ℕ) → digest_of image ≡ Some d → Names d found.0) r (raw_told s image a types met) (λ found told. told.holds.named)

blob_told : (to : Destination) (s : Context) (image : Reference) (layer : Layer) {old new : Link} {k l : AuthState} {r : Result (List ℕ) OciDistributionError} → Meets is_memory (blob_to to s image layer) old new k l r → IfOk r (λ bytes. Told (λ c. Blob layer.digest c bytes) old new)
blob_told to s image layer met = Meets-shows-ok (λ m c n bytes. Blob layer.digest c bytes) (blob_shows to s image layer) met

pub blob_body : (to : Destination) (s : Context) (image : Reference) (layer : Layer) {old new : Link} {k l : AuthState} {r : Result (List ℕ) OciDistributionError} → Meets is_memory (blob_to to s image layer) old new k l r → IfOk r (λ bytes. Told (λ c. Body c bytes) old new)
blob_body to s image layer {old = old} {new = new} {r = r} met = ok_more (λ bytes. Told (λ c. Blob layer.digest c bytes) old new) (λ bytes. Told (λ c. Body c bytes) old new) r (blob_told to s image layer met) (λ bytes told. told_more (λ c b. b.0) told)

pub blob_last : (to : Destination) (s : Context) (image : Reference) (layer : Layer) {old new : Link} {k l : AuthState} {r : Result (List ℕ) OciDistributionError} → Meets is_memory (blob_to to s image layer) old new k l r → IfOk r (λ bytes. Told (λ c. LastBody c bytes) old new)
blob_last to s image layer {old = old} {new = new} {r = r} met = ok_more (λ bytes. Told (λ c. Blob layer.digest c bytes) old new) (λ bytes. Told (λ c. LastBody c bytes) old new) r (blob_told to s image layer met) (λ bytes told. told_more (λ c b. b.2) told)

pub blob_named : (to : Destination) (s : Context) (image : Reference) (layer : Layer) {old new : Link} {k l : AuthState} {r : Result (List ℕ) OciDistributionError} → Meets is_memory (blob_to to s image layer) old new k l r → IfOk r (λ bytes. Names layer.digest bytes)
blob_named to s image layer {old = old} {new = new} {r = r} met = ok_more (λ bytes. Told (λ c. Blob layer.digest c bytes) old new) (λ bytes. Names layer.digest bytes) r (blob_told to s image layer met) (λ bytes told. told.holds.1)

pub blob_took : (s : Context) (image : Reference) (layer : Layer) {old new : Link} {k l : AuthState} {before after : SinkState} {r : Result (Unit {0}) OciDistributionError} → MeetsIntoSink (pull_blob s image layer) old new k l before after r → IfOk r (λ u. TookBlob layer.digest old new before after)
blob_took s image layer {old} {new} {k} {l} {before} {after} {r} spills = by_result r spills where
  by_result : (r : Result (Unit {0}) OciDistributionError) → MeetsIntoSink (pull_blob s image layer) old new k l before after r → IfOk r (λ u. TookBlob layer.digest old new before after)
  by_result (Ok u) spills = record { bytes = spills.body; took = spills.put; names = blob_named IntoSink s image layer spills.met; body = blob_last IntoSink s image layer spills.met }
  by_result (Err e) spills = tt
