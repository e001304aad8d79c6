-- What the calls' errors hold: a fault of the transport only if its count increased, and no fault of a sink.
use Rattle.std.proofs.Common.{◌≡◌, ◌≤◌, ℕ, Bool, true, false, List, [], ◌∷◌, ◌++◌, Option, Some, None, Result, Ok, Err, refl, sym, ap, ◌∙◌, subst, arith}
use Rattle.std.specs.Prelude.{if◌then◌else◌, bytes_eq, ok_or, find, MatchBool, pos}
use Rattle.std.specs.Ordering.{int_eq}
use Rattle.json_values.specs.Counts.{Increased}
use Rattle.json_values.specs.JsonText.{json_of}
use Rattle.oci_names.specs.declared.reference.Reference.{Reference}
use Rattle.oci_names.specs.Reference.{digest_of, whole_text, reads_back}
use Rattle.oci_auth.specs.declared.auth.RegistryAuth.{RegistryAuth}
use Rattle.oci_auth.specs.declared.auth_state.AuthState.{AuthState}
use Rattle.oci_digests.specs.Checks.{checked, checked_by, and_then}
use Rattle.oci_digests.specs.Names.{digest_text}
use Rattle.oci_digests.specs.Checks.{parts_of, named_by}
use Rattle.oci_names.specs.Algorithms.{algorithm_of}
use Rattle.oci_names.specs.declared.algorithm.Algorithm.{Algorithm}
use Rattle.oci_digests.specs.declared.error.DigestError.TheVariants as digest_refusal
use Rattle.oci_manifests.specs.Types.{is_manifest_type}
use Rattle.oci_manifests.specs.Document.{document_of}
use Rattle.oci_manifests.specs.declared.versioned.Versioned.{Versioned}
use Rattle.oci_manifests.specs.declared.document.OciManifest.{OciManifest}
use Rattle.oci_manifests.specs.declared.document.OciManifest.TheVariants.{Image, ImageIndex}
use Rattle.oci_manifests.specs.declared.descriptor.OciDescriptor.{OciDescriptor}
use Rattle.oci_manifests.specs.declared.blob.ImageLayer.{ImageLayer}
use Rattle.oci_manifests.specs.declared.manifest.OciImageManifest.{OciImageManifest}
use Rattle.oci_transport.specs.Link.{Link}
use Rattle.oci_transport.specs.declared.message.Exchange.{Exchange}
use Rattle.oci_protocol.specs.Proto.{Done, unless_refused, ◌>>=◌}
use Rattle.oci_protocol.specs.Runs.{Runs, Meets}
use Rattle.oci_protocol.specs.EveryRun.{EveryRun, ByResult}
use Rattle.oci_protocol.proofs.Laws.{Runs-count}
use Rattle.engine_terms.specs.Contexts.{Context}
use Rattle.engine_requests.specs.Sources.{Layer, described}
use Rattle.engine_terms.specs.declared.settings.Settings.{Settings}
use Rattle.engine_terms.specs.declared.error.OciDistributionError.{OciDistributionError}
use Rattle.engine_terms.specs.declared.error.OciDistributionError.TheVariants as engine_refusal
use Rattle.engine_answers.specs.Answers.{or_digest_error}
use Rattle.engine_answers.specs.Documents.{plain_of, type_checked, version_checked, versioned_in, or_unread, reads_twice, tables_read, document_read}
use Rattle.json_values.specs.Refusals.{◌>>=◌ as ◌before◌}
use Rattle.engine_terms.specs.Error.{is_memory as engine_is_memory}
use Rattle.engine_requests.specs.Requests.{manifest_types}
use Rattle.engine_answers.specs.Index.{entry_named, entry_found, entry_manifest, entry_reference}
use Rattle.oci_manifests.specs.Promise.{lists, resolved}
use Rattle.oci_manifests.specs.declared.promise.ResolverPromise.{ResolverPromise}
use Rattle.oci_manifests.specs.declared.index.OciImageIndex.{OciImageIndex}
use Rattle.oci_manifests.specs.declared.index_entry.ImageIndexEntry.{ImageIndexEntry}
use Rattle.engine_rows.specs.Blobs.{IntoMemory}
use Rattle.engine_rows.specs.Rows.{Row as Engine}
use Rattle.engine_rows.specs.Pulls.{fetch_manifest_digest, pull_manifest_raw, held_blob}
use Rattle.engine_rows.specs.declared.image.ImageData.{ImageData}
use Rattle.engine_rows.specs.Image.{layers_by, is_accepted, all_accepted, layers_accepted, layer_of}
use Rattle.engine_rows.specs.Causes.{Act, AnswerCause, BlobUrl, ManifestUrl, OwnDigest}
use Rattle.request_laws.proofs.BlobCauses.{blob_causes}
use Rattle.request_laws.proofs.DocumentCauses.{Accepted, OwnCause, raw_causes}
use Rattle.request_laws.proofs.EarlyCauses.{Loose, LooseBlob}
use Rattle.engine_laws.proofs.CallCauses.{digest_fault, raw_fault, blob_fault}
use Rattle.engine_laws.proofs.DigestCauses.{digest_causes}
use Rattle.registry_calls.specs.declared.error.SigstoreError.{SigstoreError}
use Rattle.registry_calls.specs.declared.error.SigstoreError.TheVariants as sigstore
use Rattle.registry_calls.specs.declared.error_context.Called.TheVariants.{FetchManifest, Pull}
use Rattle.registry_calls.specs.Error.{is_memory, registry_refusal, FaultCounted, NoSinkFault}
use Rattle.registry_calls.specs.ErrorContext.{with_error_context}
use Rattle.registry_calls.specs.Clients.{Kept, Row}
use Rattle.registry_cache.specs.Keys.{manifest_key}
use Rattle.registry_calls.specs.Calls.{digest_made, document_made, blob_made, digest_call, manifest_call, image_call, document_call, blob_call, referrers_call}
use Rattle.registry_cache.specs.KeptCalls.{digests}
use Rattle.cosign_layers.specs.Satisfying.{PolicyContext}
use Rattle.cosign_parts.specs.Trust.{Trust}
use Rattle.cosign_parts.specs.declared.layer.SignatureLayer.{SignatureLayer}
use Rattle.cosign_chain.specs.declared.image.VerifiedImage.{VerifiedImage}
use Rattle.cosign_rows.specs.Image.{named_by_reference, document_in, entry_in, with_image, layers_row, blobs_row, entry_call, entry_row, manifest_row, image_row}
use Rattle.cosign_rows.specs.Part.{nothing, skipping, appended}
use Rattle.cosign_rows.specs.References.{tag_reference, digest_reference, or_not_valid, reading_back}
use Rattle.cosign_rows.specs.Refusal.{is_memory as of_refusal, refused_as, client_refusal}
use Rattle.cosign_rows.specs.Search.{payload_type, document_part, tag_layers, or_skipped, tag_by, tag_source, bundle_type, referrer_part, referrer_by, referrer_row, referrers_row, listed_row, referrers_source, trusted_layers, searched}
use Rattle.cosign_rows.specs.Skips.{in_engine, is_engine_fault}
use Rattle.cosign_rows.specs.Tails.{after_search}
use Rattle.cosign_rows.specs.Verified.{Whole, constrained, is_unconstrained, readable, readable_by, as_whole, part_of, stands_by, signed_digest, standing, verified_image, verified}
use Rattle.cosign_rows.specs.declared.found.Part.{Part}
use Rattle.cosign_rows.specs.declared.found.SkipCause.{SkipCause}
use Rattle.cosign_rows.specs.declared.found.SkipCause.TheVariants.{Refused}
use Rattle.cosign_rows.specs.declared.found.Skipped.{Skipped}
use Rattle.cosign_rows.specs.declared.found.Skipped.TheVariants.{Source, Referrer}
use Rattle.cosign_rows.specs.declared.found.SourceKind.TheVariants.{Tag, Referrers}
use Rattle.cosign_rows.specs.declared.found.TrustedLayers.{TrustedLayers}
use Rattle.cosign_rows.specs.declared.refusal.PullRefusal.{PullRefusal}
use Rattle.cosign_rows.specs.declared.refusal.PullRefusal.TheVariants as refusal
use Rattle.cosign_laws.proofs.Counts.{Counts, Counts-lifted, Counts-done, Counts-more, Counts-bind, Meets-counts}
use Rattle.cosign_laws.proofs.Faults.{EngineCounts, fault_of, SincereWords, CallCounts, worded_counts, words_count, kept_counts, manifest_call_counts, image_call_counts, referrers_call_counts, call_later as later, call_next as next}

-- ---- calls of the engine

answer_memory : (T : Act → Type 0) (Given : List ℕ → Type 0) (s : Settings) (types : List ℕ) (c : List Exchange) (n : ℕ) (e : OciDistributionError) → Loose T (AnswerCause Given) s types c n e → engine_is_memory e ≡ false → in_engine e ≡ false
answer_memory T Given s types c n engine_refusal.WantOfMemory h other = absurd (cc other)
answer_memory T Given s types c n engine_refusal.SinkFault h other = absurd h.holds
answer_memory T Given s types c n (engine_refusal.DigestError digest_refusal.WantOfMemory) h other = absurd h.holds
answer_memory T Given s types c n _ h other = refl

blob_memory : (T : Act → Type 0) (s : Settings) (digest : List ℕ) (c : List Exchange) (n : ℕ) (e : OciDistributionError) → LooseBlob T IntoMemory s digest c n e → engine_is_memory e ≡ false → in_engine e ≡ false
blob_memory T s digest c n engine_refusal.WantOfMemory h other = absurd (cc other)
blob_memory T s digest c n engine_refusal.SinkFault h other = absurd h
blob_memory T s digest c n (engine_refusal.DigestError digest_refusal.WantOfMemory) h other = absurd h.holds
blob_memory T s digest c n _ h other = refl

-- a call whose errors have their causes
engine_counts : {A : Type 0} (P : ℕ → List Exchange → ℕ → A → Type 0) (Why : ℕ → List Exchange → ℕ → OciDistributionError → Type 0) (p : Engine A) → EveryRun (ByResult P Why) p
    → ((m n : ℕ) (c : List Exchange) (e : OciDistributionError) → Why m c n e → engine_is_memory e ≡ false → in_engine e ≡ false)
    → ((old new : Link) (k l : AuthState) → Meets engine_is_memory p old new k l (Err engine_refusal.TransportFault) → Increased old.faults new.faults)
    → Counts EngineCounts p
engine_counts {A} P Why p causes memory fault = record { counts = λ k l m n c r run. by_result k l m n c r run } where
  by_result : (k l : AuthState) (m n : ℕ) (c : List Exchange) (r : Result A OciDistributionError) → Runs p k m c n l r → EngineCounts m n r
  by_result k l m n c (Ok a) run = Runs-count p k l m n c (Ok a) run
  by_result k l m n c (Err e) run = record {
    falls = Runs-count p k l m n c (Err e) run;
    no_memory = memory m n c e (causes.shows k l m n c (Err e) run);
    fault = fault_of p k l m n c e run (λ old new met. fault old new k l met);
  }

digest_made_counts : (s : Context) (image : Reference) (a : RegistryAuth) → Counts CallCounts (digest_made s image a)
unfolding digest_made
digest_made_counts s image a = words_count FetchManifest image (fetch_manifest_digest s image a)
    (engine_counts (λ m c n digest. Unit {0}) (OwnCause s.settings image manifest_types) (fetch_manifest_digest s image a) (digest_causes s image a)
    (λ m n c e h other. answer_memory (ManifestUrl s.settings image) (OwnDigest image) s.settings manifest_types c n e h other)
    (λ old new k l met. digest_fault s image a met refl))

digest_call_counts : (s : Context) (image : Reference) (a : RegistryAuth) → Counts CallCounts (digest_call s image a)
unfolding digest_call
digest_call_counts s image a = kept_counts digests (manifest_key image a) s.moment (reads_back image) (digest_made s image a) (digest_made_counts s image a)

document_call_counts : (s : Context) (image : Reference) (a : RegistryAuth) (types : List ℕ) → Counts CallCounts (document_call s image a types)
unfolding document_call document_made
document_call_counts s image a types = Counts-lifted CallCounts (document_made s image a types) (words_count Pull image (pull_manifest_raw s image a types)
    (engine_counts (λ m c n found. Accepted s.settings image c found.0) (OwnCause s.settings image types) (pull_manifest_raw s image a types) (raw_causes s image a types)
    (λ m n c e h other. answer_memory (ManifestUrl s.settings image) (OwnDigest image) s.settings types c n e h other)
    (λ old new k l met. raw_fault s image a types met refl)))

blob_call_counts : (s : Context) (image : Reference) (layer : Layer) → Counts CallCounts (blob_call s image layer)
unfolding blob_call blob_made
blob_call_counts s image layer = Counts-lifted CallCounts (blob_made s image layer) (words_count Pull image (held_blob s image layer)
    (engine_counts (λ m c n bytes. Unit {0}) (λ m c n e. LooseBlob (BlobUrl s.settings image layer) IntoMemory s.settings layer.digest c n e) (held_blob s image layer) (blob_causes IntoMemory s image layer)
    (λ m n c e h other. blob_memory (BlobUrl s.settings image layer) s.settings layer.digest c n e h other)
    (λ old new k l met. blob_fault IntoMemory s image layer met refl)))

-- ---- steps of the engine without a request

-- the error is about what was read: no fault, and not out of memory
abbrev IsOfBytes : OciDistributionError → Type 0
IsOfBytes engine_refusal.TransportFault = ⊥
IsOfBytes engine_refusal.SinkFault = ⊥
IsOfBytes engine_refusal.WantOfMemory = ⊥
IsOfBytes (engine_refusal.DigestError digest_refusal.WantOfMemory) = ⊥
IsOfBytes _ = Unit {0}

abbrev OfBytes : {A : Type 0} → Result A OciDistributionError → Type 0
OfBytes (Ok a) = Unit {0}
OfBytes (Err e) = IsOfBytes e

bytes_memory : (e : OciDistributionError) → IsOfBytes e → in_engine e ≡ false
bytes_memory engine_refusal.SinkFault h = absurd h
bytes_memory engine_refusal.WantOfMemory h = absurd h
bytes_memory (engine_refusal.DigestError digest_refusal.WantOfMemory) h = absurd h
bytes_memory _ h = refl

bytes_fault : (e : OciDistributionError) → IsOfBytes e → is_engine_fault e ≡ false
bytes_fault engine_refusal.TransportFault h = absurd h
bytes_fault _ h = refl

still_counts : {A : Type 0} (m : ℕ) (r : Result A OciDistributionError) → OfBytes r → EngineCounts m m r
still_counts m (Ok a) h = omega arith
still_counts m (Err e) h = record { falls = omega arith; no_memory = λ other. bytes_memory e h; fault = λ is. absurd (cc (sym (bytes_fault e h) ∙ is)) }

before_bytes : {A B : Type 0} (r : Result A OciDistributionError) (f : A → Result B OciDistributionError) → OfBytes r → ((a : A) → OfBytes (f a)) → OfBytes (r before f)
before_bytes (Ok a) f h each = each a
before_bytes (Err e) f h each = h

checked_bytes : (digest body : List ℕ) → OfBytes (or_digest_error (checked body digest))
checked_bytes digest body = by_parts (parts_of digest) where
  by_test : (a : Algorithm) (b : Bool) → OfBytes (or_digest_error (if b then Ok digest else Err (digest_refusal.VerificationError digest (digest_text a body))))
  by_test a true = tt
  by_test a false = tt

  by_algorithm : (name : List ℕ) (o : Option Algorithm) → OfBytes (or_digest_error (and_then (ok_or o (digest_refusal.UnsupportedAlgorithm name)) (λ a. checked_by a body digest)))
  by_algorithm name None = tt
  by_algorithm name (Some a) = by_test a (bytes_eq digest (digest_text a body))

  by_parts : (o : Option (List ℕ × List ℕ)) → OfBytes (or_digest_error (and_then (named_by o) (λ a. checked_by a body digest)))
  by_parts None = tt
  by_parts (Some parts) = by_algorithm parts.0 (algorithm_of parts.0)

asked_bytes : (o : Option (List ℕ)) (body : List ℕ) → OfBytes (named_by_reference o body)
asked_bytes None body = tt
asked_bytes (Some digest) body = before_bytes (or_digest_error (checked body digest)) _ (checked_bytes digest body) (λ u. tt)

type_bytes : (o : Option (List ℕ)) → OfBytes (type_checked o)
type_bytes None = tt
type_bytes (Some kind) = by_test (is_manifest_type kind) where
  by_test : (b : Bool) → OfBytes {A = Unit {0}} (if b then Ok tt else Err (engine_refusal.UnsupportedMediaTypeError kind))
  by_test true = tt
  by_test false = tt

version_bytes : (body : List ℕ) (o : Option Versioned) → OfBytes (version_checked body o)
version_bytes body None = tt
version_bytes body (Some v) = by_test (int_eq v.schema_version (pos 2)) where
  by_test : (b : Bool) → OfBytes (if b then type_checked v.media_type else Err (engine_refusal.UnsupportedSchemaVersionError v.schema_version))
  by_test true = type_bytes v.media_type
  by_test false = tt

one_bytes : (body : List ℕ) (o : Option OciManifest) → OfBytes (or_unread body o)
one_bytes body None = tt
one_bytes body (Some document) = tt

tables_bytes : (body : List ℕ) → OfBytes (tables_read body (plain_of (json_of body)))
tables_bytes body =
    elim (plain_of (json_of body)) as (λ o. OfBytes (tables_read body o)) [
      | None ↦ tt
      | Some d ↦ elim (reads_twice d) as (λ b. OfBytes (if b then Err (engine_refusal.AmbiguousManifest body) else or_unread body (document_of d))) [ true ↦ tt | false ↦ one_bytes body (document_of d) ]
    ]

document_bytes : (body : List ℕ) → OfBytes (document_read body)
document_bytes body = before_bytes (version_checked body (versioned_in (json_of body))) _ (version_bytes body (versioned_in (json_of body))) (λ u. tables_bytes body)

document_in_bytes : (image : Reference) (body : List ℕ) → OfBytes (document_in image body)
document_in_bytes image body = before_bytes (named_by_reference (digest_of image) body) _ (asked_bytes (digest_of image) body) (λ u. document_bytes body)

entry_kind_bytes : (entry : List ℕ) (document : OciManifest) → OfBytes (entry_manifest entry document)
entry_kind_bytes entry (Image manifest) = tt
entry_kind_bytes entry (ImageIndex index) = tt

entry_in_bytes : (entry body : List ℕ) → OfBytes (entry_in entry body)
entry_in_bytes entry body = before_bytes (document_read body) (entry_manifest entry) (document_bytes body) (λ document. entry_kind_bytes entry document)

entry_named_bytes : (entries : List ImageIndexEntry) (o : Option (List ℕ)) → OfBytes (entry_named entries o)
entry_named_bytes entries None = tt
entry_named_bytes entries (Some digest) = by_test (lists digest entries) where
  by_test : (b : Bool) → OfBytes (if b then Ok digest else Err (engine_refusal.ImageManifestNotFoundError digest))
  by_test true = tt
  by_test false = tt

entry_found_bytes : (promise : Option ResolverPromise) (entries : List ImageIndexEntry) → OfBytes (entry_found promise entries)
entry_found_bytes None entries = tt
entry_found_bytes (Some promise) entries = entry_named_bytes entries (resolved promise entries)

types_bytes : (types : List (List ℕ)) (xs : List OciDescriptor) → OfBytes (all_accepted types xs)
types_bytes types [] = tt
types_bytes types (x ∷ xs) = by_test (is_accepted types x.media_type) (types_bytes types xs) where
  by_test : (b : Bool) → OfBytes (all_accepted types xs) → OfBytes (if b then all_accepted types xs else Err (engine_refusal.IncompatibleLayerMediaTypeError x.media_type))
  by_test true rest = rest
  by_test false rest = tt

layers_bytes : (types : List (List ℕ)) (xs : List OciDescriptor) → OfBytes (layers_accepted types xs)
layers_bytes types [] = tt
layers_bytes types (x ∷ xs) = types_bytes types (x ∷ xs)

-- ---- rows of calls

answered : {A : Type 0} (a : A) → Counts {K = Kept} {A = Result A SigstoreError} CallCounts (Done (Ok a))
answered a = Counts-done CallCounts (Ok a) (λ m. omega arith)

-- a step of the engine without a request, with context
said : {A : Type 0} (text : List ℕ) (r : Result A OciDistributionError) → OfBytes r → Counts {K = Kept} CallCounts (Done (with_error_context Pull text r))
said text r h = Counts-done CallCounts (with_error_context Pull text r) (λ m. worded_counts Pull text m m r (still_counts m r h))

layers_counts : (s : Context) (source : Reference) (xs : List OciDescriptor) (layers : List ImageLayer) → Counts CallCounts (layers_row s source xs layers)
unfolding layers_by
layers_counts s source [] layers = answered layers
layers_counts s source (x ∷ xs) layers = next (blob_call s source (described x)) (λ content. layers_row s source xs (layers ++ layer_of x content ∷ [])) (blob_call_counts s source (described x)) (λ content. layers_counts s source xs (layers ++ layer_of x content ∷ []))

blobs_counts : (s : Context) (source : Reference) (accepted : List (List ℕ)) (manifest : OciImageManifest) → Counts CallCounts (blobs_row s source accepted manifest)
unfolding blobs_row
blobs_counts s source accepted manifest =
    next (blob_call s source (described manifest.config)) _ (blob_call_counts s source (described manifest.config)) (λ content.
    next (Done (with_error_context Pull (whole_text source) (layers_accepted accepted manifest.layers))) _ (said (whole_text source) (layers_accepted accepted manifest.layers) (layers_bytes accepted manifest.layers)) (λ u.
    next (layers_row s source manifest.layers []) _ (layers_counts s source manifest.layers []) (λ layers.
    answered _)))

with_counts : {A : Type 0} (text : List ℕ) (m n : ℕ) (r : Result A SigstoreError) → CallCounts m n r → CallCounts m n (with_image text r)
with_counts text m n (Ok a) h = h
with_counts text m n (Err (sigstore.OciReferenceNotValidError t)) h = h
with_counts text m n (Err (sigstore.RegistryFetchManifestError t e)) h = h
with_counts text m n (Err (sigstore.RegistryPullError t e)) h = record { falls = h.falls; no_memory = h.no_memory; fault = h.fault }
with_counts text m n (Err (sigstore.RegistryPullManifestError t e)) h = h
with_counts text m n (Err (sigstore.RegistryPushError t e)) h = h
with_counts text m n (Err sigstore.WantOfMemory) h = h

entry_call_counts : (s : Context) (source : Reference) (a : RegistryAuth) (entry : List ℕ) → Counts CallCounts (entry_call s source a entry)
unfolding entry_call
entry_call_counts s source a entry = Counts-bind CallCounts CallCounts (document_call s (entry_reference source entry) a manifest_types) (λ r. Done (with_image (whole_text source) r)) (document_call_counts s (entry_reference source entry) a manifest_types)
    (λ m n r at. Counts-done (λ t p b. t ≡ n → CallCounts m p b) (with_image (whole_text source) r) (λ p same. rw same (with_counts (whole_text source) m n r at)))

entry_counts : (s : Context) (source : Reference) (a : RegistryAuth) (entries : List ImageIndexEntry) → Counts CallCounts (entry_row s source a entries)
unfolding entry_row
entry_counts s source a entries =
    next (Done (with_error_context Pull (whole_text source) (entry_found s.settings.platform_resolver entries))) _ (said (whole_text source) (entry_found s.settings.platform_resolver entries) (entry_found_bytes s.settings.platform_resolver entries)) (λ entry.
    next (entry_call s source a entry) _ (entry_call_counts s source a entry) (λ found.
    next (Done (with_error_context Pull (whole_text source) (entry_in entry found.0))) _ (said (whole_text source) (entry_in entry found.0) (entry_in_bytes entry found.0)) (λ manifest.
    answered _)))

manifest_counts_row : (s : Context) (source : Reference) (a : RegistryAuth) (first : List ℕ) (document : OciManifest) → Counts CallCounts (manifest_row s source a first document)
manifest_counts_row s source a first (Image manifest) = answered _
manifest_counts_row s source a first (ImageIndex index) = entry_counts s source a index.manifests

image_row_counts : (s : Context) (image source : Reference) (a : RegistryAuth) (accepted : List (List ℕ)) → Counts CallCounts (image_row s image source a accepted)
unfolding image_row
image_row_counts s image source a accepted =
    next (document_call s source a manifest_types) _ (document_call_counts s source a manifest_types) (λ found.
    next (Done (with_error_context Pull (whole_text source) (document_in image found.0))) _ (said (whole_text source) (document_in image found.0) (document_in_bytes image found.0)) (λ document.
    next (manifest_row s source a found.0 document) _ (manifest_counts_row s source a found.0 document) (λ chosen.
    next (blobs_row s source accepted chosen.manifest) _ (blobs_counts s source accepted chosen.manifest) (λ blobs.
    answered _))))

-- ---- the search

layers_tag_counts : (trust : Trust) (d : List ℕ) (s : Context) (tag : Reference) (a : RegistryAuth) → Counts CallCounts (tag_layers trust d s tag a)
unfolding tag_layers
layers_tag_counts trust d s tag a =
    next (manifest_call s tag a) _ (manifest_call_counts s tag a) (λ document.
    next (image_call s tag a (payload_type ∷ [])) _ (image_call_counts s tag a (payload_type ∷ [])) (λ image. answered (document_part trust d document.0 image)))

skipped_refusal : (place : SkipCause → Skipped) (m n : ℕ) (r : Result Part SigstoreError) → CallCounts m n r → CallCounts m n (or_skipped place r)
skipped_refusal place m n (Ok part) h = h
skipped_refusal place m n (Err e) h = by_memory (is_memory e) where
  by_memory : (b : Bool) → CallCounts m n (if b then Err e else Ok (skipping (place (Refused e))))
  by_memory true = h
  by_memory false = h.falls

by_counts : (trust : Trust) (d : List ℕ) (s : Context) (tag : Reference) (a : RegistryAuth) (b : Bool) → Counts CallCounts (tag_by trust d s tag a b)
by_counts trust d s tag a true = Counts-bind CallCounts CallCounts (tag_layers trust d s tag a) (λ r. Done (or_skipped (Source Tag) r)) (layers_tag_counts trust d s tag a)
    (λ m n r at. Counts-done (λ t p b. t ≡ n → CallCounts m p b) (or_skipped (Source Tag) r) (λ p same. rw same (skipped_refusal (Source Tag) m n r at)))
by_counts trust d s tag a false = answered _

tag_counts : (trust : Trust) (s : Context) (image : Reference) (a : RegistryAuth) (d : List ℕ) → Counts CallCounts (tag_source trust s image a d)
unfolding tag_source
tag_counts trust s image a d = by_counts trust d s (tag_reference image d) a (reads_back (tag_reference image d))

referrer_refusal : (trust : Trust) (d : List ℕ) (m n : ℕ) (r : Result ImageData SigstoreError) → CallCounts m n r → CallCounts m n (referrer_part trust d r)
referrer_refusal trust d m n (Ok image) h = h
referrer_refusal trust d m n (Err e) h = h

referrer_by_counts : (trust : Trust) (d : List ℕ) (s : Context) (referrer : Reference) (a : RegistryAuth) (digest : List ℕ) (b : Bool) → Counts CallCounts (referrer_by trust d s referrer a digest b)
referrer_by_counts trust d s referrer a digest true = Counts-bind CallCounts CallCounts (image_call s referrer a (bundle_type ∷ [])) _ (image_call_counts s referrer a (bundle_type ∷ []))
    (λ m n r at. Counts-done (λ t p b. t ≡ n → CallCounts m p b) (or_skipped (Referrer digest) (referrer_part trust d r)) (λ p same. rw same (skipped_refusal (Referrer digest) m n (referrer_part trust d r) (referrer_refusal trust d m n r at))))
referrer_by_counts trust d s referrer a digest false = answered _

referrer_counts : (trust : Trust) (d : List ℕ) (s : Context) (source : Reference) (a : RegistryAuth) (digest : List ℕ) → Counts CallCounts (referrer_row trust d s source a digest)
unfolding referrer_row
referrer_counts trust d s source a digest = referrer_by_counts trust d s (digest_reference source digest) a digest (reads_back (digest_reference source digest))

referrers_counts : (trust : Trust) (d : List ℕ) (s : Context) (source : Reference) (a : RegistryAuth) (xs : List ImageIndexEntry) → Counts CallCounts (referrers_row trust d s source a xs)
unfolding referrers_row
referrers_counts trust d s source a [] = answered nothing
referrers_counts trust d s source a (x ∷ xs) =
    next (referrer_row trust d s source a x.digest) _ (referrer_counts trust d s source a x.digest) (λ one.
    next (referrers_row trust d s source a xs) _ (referrers_counts trust d s source a xs) (λ rest. answered (appended one rest)))

listed_counts : (trust : Trust) (d : List ℕ) (s : Context) (source : Reference) (a : RegistryAuth) (m n : ℕ) (r : Result OciImageIndex SigstoreError) → CallCounts m n r → Counts (λ t q b. t ≡ n → CallCounts m q b) (listed_row trust d s source a r)
listed_counts trust d s source a m n (Ok index) at = Counts-more CallCounts (λ t q b. t ≡ n → CallCounts m q b) (referrers_row trust d s source a index.manifests) (referrers_counts trust d s source a index.manifests) (λ t q b h same. later m t q b (rw same at) h)
listed_counts trust d s source a m n (Err e) at = Counts-done (λ t q b. t ≡ n → CallCounts m q b) (or_skipped (Source Referrers) (Err e)) (λ q same. rw same (skipped_refusal (Source Referrers) m n (Err e) at))

referrers_source_counts : (trust : Trust) (d : List ℕ) (s : Context) (source : Reference) (a : RegistryAuth) → Counts CallCounts (referrers_source trust d s source a)
unfolding referrers_source
referrers_source_counts trust d s source a = Counts-bind CallCounts CallCounts (referrers_call s source a None) (listed_row trust d s source a) (referrers_call_counts s source a None) (λ m n r at. listed_counts trust d s source a m n r at)

back_counts : (image : Reference) → Counts {K = Kept} CallCounts (Done (reading_back image))
back_counts image = Counts-done CallCounts (reading_back image) (λ m. by_back m (reads_back image)) where
  by_back : (m : ℕ) (b : Bool) → CallCounts m m (or_not_valid image b)
  by_back m true = omega arith
  by_back m false = record { falls = omega arith; no_memory = λ other. refl; fault = λ is. absurd (cc is) }

search_counts : (trust : Trust) (s : Context) (image : Reference) (a : RegistryAuth) → Counts CallCounts (searched trust s image a)
unfolding searched
search_counts trust s image a =
    next (digest_call s image a) _ (digest_call_counts s image a) (λ digest.
    next (Done (reading_back (digest_reference image digest))) _ (back_counts (digest_reference image digest)) (λ u.
    next (tag_source trust s image a digest) _ (tag_counts trust s image a digest) (λ tag.
    next (referrers_source trust digest s (digest_reference image digest) a) _ (referrers_source_counts trust digest s (digest_reference image digest) a) (λ more. answered (trusted_layers digest (appended tag more))))))

words_fault : (m n : ℕ) (e : SigstoreError) → SincereWords m n e → registry_refusal e ≡ Some engine_refusal.TransportFault → Increased m n
words_fault m n (sigstore.OciReferenceNotValidError text) h is = absurd (cc is)
words_fault m n (sigstore.RegistryFetchManifestError image e) h is = let same : e ≡ engine_refusal.TransportFault = cc is in h.fault (ap is_engine_fault same)
words_fault m n (sigstore.RegistryPullError image e) h is = let same : e ≡ engine_refusal.TransportFault = cc is in h.fault (ap is_engine_fault same)
words_fault m n (sigstore.RegistryPullManifestError image e) h is = let same : e ≡ engine_refusal.TransportFault = cc is in h.fault (ap is_engine_fault same)
words_fault m n (sigstore.RegistryPushError image e) h is = let same : e ≡ engine_refusal.TransportFault = cc is in h.fault (ap is_engine_fault same)
words_fault m n sigstore.WantOfMemory h is = absurd (cc is)

sink_held : (e : OciDistributionError) → in_engine e ≡ false → Some e ≡ Some engine_refusal.SinkFault → ⊥
sink_held e h is = let same : e ≡ engine_refusal.SinkFault = cc is in cc (sym (ap in_engine same) ∙ h)

words_sink : (m n : ℕ) (e : SigstoreError) → SincereWords m n e → registry_refusal e ≡ Some engine_refusal.SinkFault → ⊥
words_sink m n (sigstore.OciReferenceNotValidError text) h is = absurd (cc is)
words_sink m n (sigstore.RegistryFetchManifestError image e) h is = sink_held e (h.no_memory refl) is
words_sink m n (sigstore.RegistryPullError image e) h is = sink_held e (h.no_memory refl) is
words_sink m n (sigstore.RegistryPullManifestError image e) h is = sink_held e (h.no_memory refl) is
words_sink m n (sigstore.RegistryPushError image e) h is = sink_held e (h.no_memory refl) is
words_sink m n sigstore.WantOfMemory h is = absurd (cc is)

-- memory ran out, or the property holds for the error
abbrev Unless : Bool → Type 0 → Type 0
Unless b P = MatchBool b (Unit {0}) P

search_said : (P : OciDistributionError → Type 0) (m n : ℕ) (x : OciDistributionError) (e : SigstoreError) → (SincereWords m n e → registry_refusal e ≡ Some x → P x) → Unless (is_memory e) (SincereWords m n e) → registry_refusal e ≡ Some x → P x
search_said P m n x sigstore.WantOfMemory so h is = absurd (cc is)
search_said P m n x (sigstore.OciReferenceNotValidError text) so h is = so h is
search_said P m n x (sigstore.RegistryFetchManifestError image e) so h is = so h is
search_said P m n x (sigstore.RegistryPullError image e) so h is = so h is
search_said P m n x (sigstore.RegistryPullManifestError image e) so h is = so h is
search_said P m n x (sigstore.RegistryPushError image e) so h is = so h is

pub search_fault : (trust : Trust) (s : Context) (image : Reference) (a : RegistryAuth) {old new : Link} {k l : Kept} (r : Result TrustedLayers SigstoreError) → Meets is_memory (searched trust s image a) old new k l r → FaultCounted registry_refusal old new r
search_fault trust s image a (Ok found) met held = absurd held
search_fault trust s image a {old} {new} (Err e) met held = search_said (λ x. Increased old.faults new.faults) old.faults new.faults engine_refusal.TransportFault e (words_fault old.faults new.faults e) (Meets-counts CallCounts (search_counts trust s image a) met) held

pub search_no_sink : (trust : Trust) (s : Context) (image : Reference) (a : RegistryAuth) {old new : Link} {k l : Kept} (r : Result TrustedLayers SigstoreError) → Meets is_memory (searched trust s image a) old new k l r → NoSinkFault registry_refusal r
search_no_sink trust s image a (Ok found) met held = held
search_no_sink trust s image a {old} {new} (Err e) met held = search_said (λ x. ⊥) old.faults new.faults engine_refusal.SinkFault e (words_sink old.faults new.faults e) (Meets-counts CallCounts (search_counts trust s image a) met) held

-- ---- the pull

pub record SincereWhole (m n : ℕ) (e : PullRefusal) : Type 0 where
  pub falls : m ≤ n
  pub fault : client_refusal e ≡ Some engine_refusal.TransportFault → Increased m n
  pub no_sink : client_refusal e ≡ Some engine_refusal.SinkFault → ⊥

abbrev WholeCounts : {A : Type 0} → ℕ → ℕ → Result A PullRefusal → Type 0
WholeCounts m n (Ok a) = m ≤ n
WholeCounts m n (Err e) = SincereWhole m n e

as_counts : (m n : ℕ) (e : SigstoreError) → SincereWords m n e → SincereWhole m n (refused_as e)
as_counts m n (sigstore.OciReferenceNotValidError text) h = record { falls = h.falls; fault = λ is. absurd (cc is); no_sink = λ is. cc is }
as_counts m n (sigstore.RegistryFetchManifestError image e) h = record { falls = h.falls; fault = words_fault m n (sigstore.RegistryFetchManifestError image e) h; no_sink = words_sink m n (sigstore.RegistryFetchManifestError image e) h }
as_counts m n (sigstore.RegistryPullError image e) h = record { falls = h.falls; fault = words_fault m n (sigstore.RegistryPullError image e) h; no_sink = words_sink m n (sigstore.RegistryPullError image e) h }
as_counts m n (sigstore.RegistryPullManifestError image e) h = record { falls = h.falls; fault = words_fault m n (sigstore.RegistryPullManifestError image e) h; no_sink = words_sink m n (sigstore.RegistryPullManifestError image e) h }
as_counts m n (sigstore.RegistryPushError image e) h = record { falls = h.falls; fault = words_fault m n (sigstore.RegistryPushError image e) h; no_sink = words_sink m n (sigstore.RegistryPushError image e) h }
as_counts m n sigstore.WantOfMemory h = record { falls = h.falls; fault = λ is. absurd (cc is); no_sink = λ is. cc is }

whole_counts : {A : Type 0} (m n : ℕ) (r : Result A SigstoreError) → CallCounts m n r → WholeCounts m n (as_whole r)
whole_counts m n (Ok a) h = h
whole_counts m n (Err e) h = as_counts m n e h

part_counts : {A : Type 0} (p : Row A) → Counts CallCounts p → Counts WholeCounts (part_of p)
unfolding part_of
part_counts p h = Counts-bind CallCounts WholeCounts p (λ r. Done (as_whole r)) h (λ m n r at. Counts-done (λ t q b. t ≡ n → WholeCounts m q b) (as_whole r) (λ q same. rw same (whole_counts m n r at)))

whole_later : {A : Type 0} (m n o : ℕ) (r : Result A PullRefusal) → m ≤ n → WholeCounts n o r → WholeCounts m o r
whole_later m n o (Ok a) le h = omega (arith, le, h)
whole_later m n o (Err e) le h = record { falls = omega (arith, le, h.falls); fault = λ is. let rose : Increased n o = h.fault is in omega (arith, le, rose); no_sink = h.no_sink }

whole_next : {A B : Type 0} (p : Whole A) (f : A → Whole B) → Counts WholeCounts p → ((a : A) → Counts WholeCounts (f a)) → Counts WholeCounts (p >>= f)
whole_next {A} {B} p f h each = Counts-bind WholeCounts WholeCounts p (unless_refused f) h leads where
  leads : (m n : ℕ) (r : Result A PullRefusal) → WholeCounts m n r → Counts (λ t q b. t ≡ n → WholeCounts m q b) (unless_refused f r)
  leads m n (Ok a) at = Counts-more WholeCounts (λ t q b. t ≡ n → WholeCounts m q b) (f a) (each a) (λ t q b h same. whole_later m t q b (rw same at) h)
  leads m n (Err e) at = Counts-done (λ t q b. t ≡ n → WholeCounts m q b) (Err e) (λ q same. rw same at)

-- the error holds no error of the registry's client
unheld : (m : ℕ) (e : PullRefusal) → client_refusal e ≡ None → SincereWhole m m e
unheld m e none = record { falls = omega arith; fault = λ is. absurd (cc (sym none ∙ is)); no_sink = λ is. cc (sym none ∙ is) }

whole_done : {A : Type 0} (r : Result A PullRefusal) → ((e : PullRefusal) → r ≡ Err e → client_refusal e ≡ None) → Counts {K = Kept} WholeCounts (Done r)
whole_done {A} r none = Counts-done WholeCounts r (λ m. by_result m r none) where
  by_result : (m : ℕ) (r : Result A PullRefusal) → ((e : PullRefusal) → r ≡ Err e → client_refusal e ≡ None) → WholeCounts m m r
  by_result m (Ok a) none = omega arith
  by_result m (Err e) none = unheld m e (none e refl)

empty_unheld : (b : Bool) (e : PullRefusal) → constrained b ≡ Err e → client_refusal e ≡ None
empty_unheld false e is = absurd (cc is)
empty_unheld true e is = let same : refusal.EmptyPolicy ≡ e = cc is in subst (λ x. client_refusal x ≡ None) same refl

unread_unheld : (image : Reference) (b : Bool) (e : PullRefusal) → readable_by image b ≡ Err e → client_refusal e ≡ None
unread_unheld image true e is = absurd (cc is)
unread_unheld image false e is = let same : refusal.OciReferenceNotValidError (whole_text image) ≡ e = cc is in subst (λ x. client_refusal x ≡ None) same refl

none_unheld : (found : TrustedLayers) (o : Option SignatureLayer) (e : PullRefusal) → signed_digest found o ≡ Err e → client_refusal e ≡ None
none_unheld found (Some signature) e is = absurd (cc is)
none_unheld found None e is = let same : refusal.Unsatisfied found.digest found.collected found.skipped ≡ e = cc is in subst (λ x. client_refusal x ≡ None) same refl

module _ {V : Type 0} {H : V → Type 0} (policy_context : PolicyContext V H) (s : Context) (image : Reference) (a : RegistryAuth) (accepted : List (List ℕ)) where
  after_counts : (found : TrustedLayers) → Counts WholeCounts (after_search policy_context s image a accepted found)
  unfolding after_search
  after_counts found =
      whole_next (Done (standing policy_context found)) _ (whole_done (standing policy_context found) (λ e is. none_unheld found (find (stands_by policy_context) found.collected) e is)) (λ stood.
      whole_next (part_of (image_row s image (digest_reference image stood.digest) a accepted)) _ (part_counts (image_row s image (digest_reference image stood.digest) a accepted) (image_row_counts s image (digest_reference image stood.digest) a accepted)) (λ pulled.
      whole_done (Ok (verified_image stood pulled)) (λ e is. absurd (cc is))))

  pull_counts : Counts WholeCounts (verified policy_context s image a accepted)
  unfolding verified after_search
  pull_counts =
      whole_next (Done (constrained (is_unconstrained policy_context.policy))) _ (whole_done (constrained (is_unconstrained policy_context.policy)) (λ e is. empty_unheld (is_unconstrained policy_context.policy) e is)) (λ u.
      whole_next (Done (readable image)) _ (whole_done (readable image) (λ e is. unread_unheld image (reads_back image) e is)) (λ v.
      whole_next (part_of (searched policy_context.trust s image a)) _ (part_counts (searched policy_context.trust s image a) (search_counts policy_context.trust s image a)) (λ found. after_counts found)))

  pull_said : (P : OciDistributionError → Type 0) (m n : ℕ) (x : OciDistributionError) (e : PullRefusal) → (SincereWhole m n e → client_refusal e ≡ Some x → P x) → Unless (of_refusal e) (SincereWhole m n e) → client_refusal e ≡ Some x → P x
  pull_said P m n x refusal.WantOfMemory so h is = absurd (cc is)
  pull_said P m n x refusal.EmptyPolicy so h is = so h is
  pull_said P m n x (refusal.OciReferenceNotValidError text) so h is = so h is
  pull_said P m n x (refusal.RegistryFetchManifestError name e) so h is = so h is
  pull_said P m n x (refusal.RegistryPullError name e) so h is = so h is
  pull_said P m n x (refusal.Unsatisfied digest collected skipped) so h is = so h is

  pub pull_fault : {old new : Link} {k l : Kept} (r : Result VerifiedImage PullRefusal) → Meets of_refusal (verified policy_context s image a accepted) old new k l r → FaultCounted client_refusal old new r
  pull_fault (Ok v) met held = absurd held
  pull_fault {old} {new} (Err e) met held = pull_said (λ x. Increased old.faults new.faults) old.faults new.faults engine_refusal.TransportFault e (λ h is. h.fault is) (Meets-counts WholeCounts pull_counts met) held

  pub pull_no_sink : {old new : Link} {k l : Kept} (r : Result VerifiedImage PullRefusal) → Meets of_refusal (verified policy_context s image a accepted) old new k l r → NoSinkFault client_refusal r
  pull_no_sink (Ok v) met held = held
  pull_no_sink {old} {new} (Err e) met held = pull_said (λ x. ⊥) old.faults new.faults engine_refusal.SinkFault e (λ h is. h.no_sink is) (Meets-counts WholeCounts pull_counts met) held
