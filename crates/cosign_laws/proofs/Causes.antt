-- Why a search or a pull was refused.
use Rattle.std.proofs.Common.{◌≡◌, ℕ, Bool, true, false, inl, inr, List, [], ◌∷◌, ◌++◌, Option, Some, None, Result, Ok, Err, IfErr, refl, sym, subst, append-nil}
use Rattle.std.specs.Prelude.{if◌then◌else◌, find, MatchBool}
use Rattle.oci_names.specs.declared.reference.Reference.{Reference}
use Rattle.oci_names.specs.Reference.{whole_text, reads_back}
use Rattle.oci_auth.specs.declared.auth.RegistryAuth.{RegistryAuth}
use Rattle.oci_manifests.specs.declared.descriptor.OciDescriptor.{OciDescriptor}
use Rattle.oci_manifests.specs.declared.blob.ImageLayer.{ImageLayer}
use Rattle.oci_manifests.specs.declared.manifest.OciImageManifest.{OciImageManifest}
use Rattle.oci_manifests.specs.declared.document.OciManifest.{OciManifest}
use Rattle.oci_manifests.specs.declared.document.OciManifest.TheVariants.{Image, ImageIndex}
use Rattle.oci_manifests.specs.declared.index.OciImageIndex.{OciImageIndex}
use Rattle.oci_manifests.specs.declared.index_entry.ImageIndexEntry.{ImageIndexEntry}
use Rattle.engine_answers.specs.Index.{entry_found, entry_reference}
use Rattle.oci_transport.specs.Link.{Link}
use Rattle.oci_transport.specs.declared.message.Exchange.{Exchange}
use Rattle.oci_protocol.specs.Proto.{Proto, Done, unless_refused, ◌>>=◌}
use Rattle.oci_protocol.specs.EveryRun.{EveryRunKept}
use Rattle.oci_protocol.specs.Ends.{Ends}
use Rattle.oci_protocol.specs.Runs.{Runs, Meets, Told, Performs, PerformsPrefix}
use Rattle.oci_protocol.proofs.Ends.{Ends-any, Ends-bind, Runs-ends}
use Rattle.oci_protocol.proofs.WiderMemory.{Ends-lifted}
use Rattle.oci_protocol.proofs.KeptFacts.{EveryRunKept-run, EveryRunKept-done, EveryRunKept-more, EveryRunKept-both, EveryRunKept-bind, EveryRunKept-step}
use Rattle.engine_terms.specs.Contexts.{Context}
use Rattle.engine_requests.specs.Sources.{Layer, described}
use Rattle.engine_terms.specs.declared.error.OciDistributionError.{OciDistributionError}
use Rattle.engine_terms.specs.Error.{is_memory as engine_is_memory}
use Rattle.engine_requests.specs.Requests.{manifest_types}
use Rattle.engine_rows.specs.Rows.{Row as Engine}
use Rattle.engine_rows.specs.Pulls.{fetch_manifest_digest, pull_manifest_raw, held_blob}
use Rattle.engine_rows.specs.Image.{layers_by, layers_accepted, layer_of}
use Rattle.registry_calls.specs.declared.error.SigstoreError.{SigstoreError}
use Rattle.registry_calls.specs.declared.error.SigstoreError.TheVariants as sigstore
use Rattle.registry_calls.specs.declared.error_context.Called.{Called}
use Rattle.registry_calls.specs.declared.error_context.Called.TheVariants.{FetchManifest, Pull, PullManifest, Push}
use Rattle.registry_calls.specs.Error.{is_memory as of_memory}
use Rattle.registry_calls.specs.ErrorContext.{with_error_context, refusal as call_refusal}
use Rattle.registry_calls.specs.Clients.{Kept, Row}
use Rattle.registry_cache.specs.Keys.{manifest_key}
use Rattle.registry_cache.specs.declared.answers.Answers.{Answers}
use Rattle.registry_calls.specs.Calls.{in_words, digest_made, document_made, blob_made, digest_call, image_call, document_call, blob_call, referrers_call}
use Rattle.registry_cache.specs.KeptCalls.{digests}
use Rattle.cosign_layers.specs.Satisfying.{PolicyContext}
use Rattle.cosign_parts.specs.Trust.{Trust}
use Rattle.cosign_parts.specs.declared.layer.SignatureLayer.{SignatureLayer}
use Rattle.cosign_chain.specs.declared.image.VerifiedImage.{VerifiedImage}
use Rattle.cosign_rows.specs.Causes.{SearchCause, Found, PullCause}
use Rattle.cosign_rows.specs.Image.{document_in, entry_in, with_image, layers_row, blobs_row, entry_call, entry_row, manifest_row, image_row}
use Rattle.cosign_rows.specs.Part.{nothing, skipping, appended}
use Rattle.cosign_rows.specs.Snapshots.{Snapshot, snapshot, RanBetween}
use Rattle.cosign_rows.specs.References.{tag_reference, digest_reference, or_not_valid, reading_back}
use Rattle.cosign_rows.specs.Refusal.{is_memory, refused_as}
use Rattle.cosign_rows.specs.Search.{bundle_type, tag_layers, or_skipped, tag_by, tag_source, referrer_part, referrer_by, referrer_row, referrers_row, listed_row, referrers_source, trusted_layers, searched}
use Rattle.cosign_rows.specs.Tails.{after_search}
use Rattle.cosign_rows.specs.Verified.{constrained, is_unconstrained, readable, readable_by, as_whole, part_of, stands_by, signed_digest, standing, verified_image, verified}
use Rattle.cosign_rows.specs.declared.found.Part.{Part}
use Rattle.cosign_rows.specs.declared.found.SkipCause.{SkipCause}
use Rattle.cosign_rows.specs.declared.found.SkipCause.TheVariants.{Refused}
use Rattle.cosign_rows.specs.declared.found.Skipped.{Skipped}
use Rattle.cosign_rows.specs.declared.found.Skipped.TheVariants.{Source, Referrer}
use Rattle.cosign_rows.specs.declared.found.SourceKind.TheVariants.{Tag, Referrers}
use Rattle.cosign_rows.specs.declared.found.TrustedLayers.{TrustedLayers}
use Rattle.cosign_rows.specs.declared.pulled.Pulled.{Pulled}
use Rattle.cosign_rows.specs.declared.refusal.PullRefusal.{PullRefusal}
use Rattle.cosign_rows.specs.declared.refusal.PullRefusal.TheVariants as refusal
use Rattle.cosign_rows.specs.declared.signed_digest.SignedDigest.{SignedDigest}
use Rattle.cosign_laws.proofs.CachedCalls.{cached_ends}

-- ---- which errors a part can return

-- the property holds for the error, if there is one
abbrev OnRefusal : {A E : Type 0} → (E → Type 0) → Result A E → Type 0
OnRefusal Q (Ok a) = Unit {0}
OnRefusal Q (Err e) = Q e

-- the error is the call's own, or out of memory
abbrev IsOwn : Called → SigstoreError → Type 0
IsOwn FetchManifest (sigstore.RegistryFetchManifestError name e) = Unit {0}
IsOwn Pull (sigstore.RegistryPullError name e) = Unit {0}
IsOwn PullManifest (sigstore.RegistryPullManifestError name e) = Unit {0}
IsOwn Push (sigstore.RegistryPushError name e) = Unit {0}
IsOwn called sigstore.WantOfMemory = Unit {0}
IsOwn called other = ⊥

own_refusal : (called : Called) (text : List ℕ) (e : OciDistributionError) → IsOwn called (call_refusal called text e)
own_refusal FetchManifest text e = tt
own_refusal Pull text e = tt
own_refusal PullManifest text e = tt
own_refusal Push text e = tt

own_memory : (called : Called) → IsOwn called sigstore.WantOfMemory
own_memory FetchManifest = tt
own_memory Pull = tt
own_memory PullManifest = tt
own_memory Push = tt

worded_own : {A : Type 0} (called : Called) (text : List ℕ) (r : Result A OciDistributionError) → OnRefusal (IsOwn called) (with_error_context called text r)
worded_own called text (Ok a) = tt
worded_own {A} called text (Err e) = by_memory (engine_is_memory e) where
  by_memory : (b : Bool) → OnRefusal {A = A} (IsOwn called) (if b then Err sigstore.WantOfMemory else Err (call_refusal called text e))
  by_memory true = own_memory called
  by_memory false = own_refusal called text e

any_ends : {K A : Type 0} (p : Proto K A) → Ends (λ (a : A). Unit {0}) p
any_ends p = Ends-any (λ a. Unit {0}) p (λ a. tt)

words_own : {A : Type 0} (called : Called) (image : Reference) (p : Engine A) → Ends (OnRefusal (IsOwn called)) (in_words called image p)
unfolding in_words Ends
words_own called image p = Ends-bind (λ r. Unit {0}) (OnRefusal (IsOwn called)) p (λ r. Done (with_error_context called (whole_text image) r)) (any_ends p) (λ r u. worded_own called (whole_text image) r)

digest_made_own : (s : Context) (image : Reference) (a : RegistryAuth) → Ends (OnRefusal (IsOwn FetchManifest)) (digest_made s image a)
unfolding digest_made
digest_made_own s image a = words_own FetchManifest image (fetch_manifest_digest s image a)

digest_own : (s : Context) (image : Reference) (a : RegistryAuth) → Ends (OnRefusal (IsOwn FetchManifest)) (digest_call s image a)
unfolding digest_call
digest_own s image a = cached_ends digests (manifest_key image a) s.moment (OnRefusal (IsOwn FetchManifest)) (reads_back image) (digest_made s image a) (λ digest. tt) (digest_made_own s image a)

unless : {K A B E : Type 0} (Q : E → Type 0) (f : A → Proto K (Result B E)) → ((a : A) → Ends (OnRefusal Q) (f a)) → (r : Result A E) → OnRefusal Q r → Ends (OnRefusal Q) (unless_refused f r)
unfolding Ends
unless Q f each (Ok a) h = each a
unless Q f each (Err e) h = h

next_own : {K A B E : Type 0} (Q : E → Type 0) (p : Proto K (Result A E)) (f : A → Proto K (Result B E)) → Ends (OnRefusal Q) p → ((a : A) → Ends (OnRefusal Q) (f a)) → Ends (OnRefusal Q) (p >>= f)
next_own Q p f h each = Ends-bind (OnRefusal Q) (OnRefusal Q) p (unless_refused f) h (unless Q f each)

done_own : {A E : Type 0} (Q : E → Type 0) (r : Result A E) → OnRefusal Q r → Ends {K = Kept} (OnRefusal Q) (Done r)
unfolding Ends
done_own Q r h = h

blob_own : (s : Context) (image : Reference) (layer : Layer) → Ends (OnRefusal (IsOwn Pull)) (blob_call s image layer)
unfolding blob_call blob_made
blob_own s image layer = Ends-lifted (Option Answers) (OnRefusal (IsOwn Pull)) (blob_made s image layer) (words_own Pull image (held_blob s image layer))

document_own : (s : Context) (image : Reference) (a : RegistryAuth) (types : List ℕ) → Ends (OnRefusal (IsOwn Pull)) (document_call s image a types)
unfolding document_call document_made
document_own s image a types = Ends-lifted (Option Answers) (OnRefusal (IsOwn Pull)) (document_made s image a types) (words_own Pull image (pull_manifest_raw s image a types))

layers_own : (s : Context) (source : Reference) (xs : List OciDescriptor) (layers : List ImageLayer) → Ends (OnRefusal (IsOwn Pull)) (layers_row s source xs layers)
unfolding layers_by
layers_own s source [] layers = done_own (IsOwn Pull) (Ok layers) tt
layers_own s source (x ∷ xs) layers = next_own (IsOwn Pull) (blob_call s source (described x)) (λ content. layers_row s source xs (layers ++ layer_of x content ∷ [])) (blob_own s source (described x)) (λ content. layers_own s source xs (layers ++ layer_of x content ∷ []))

blobs_own : (s : Context) (source : Reference) (accepted : List (List ℕ)) (manifest : OciImageManifest) → Ends (OnRefusal (IsOwn Pull)) (blobs_row s source accepted manifest)
unfolding blobs_row
blobs_own s source accepted manifest =
    next_own (IsOwn Pull) (blob_call s source (described manifest.config)) _ (blob_own s source (described manifest.config)) (λ content.
    next_own (IsOwn Pull) (Done (with_error_context Pull (whole_text source) (layers_accepted accepted manifest.layers))) _ (done_own (IsOwn Pull) _ (worded_own Pull (whole_text source) (layers_accepted accepted manifest.layers))) (λ u.
    next_own (IsOwn Pull) (layers_row s source manifest.layers []) _ (layers_own s source manifest.layers []) (λ layers.
    done_own (IsOwn Pull) (Ok _) tt)))

with_own : {A : Type 0} (text : List ℕ) (r : Result A SigstoreError) → OnRefusal (IsOwn Pull) r → OnRefusal (IsOwn Pull) (with_image text r)
with_own text (Ok a) h = tt
with_own text (Err (sigstore.OciReferenceNotValidError t)) h = h
with_own text (Err (sigstore.RegistryFetchManifestError t e)) h = h
with_own text (Err (sigstore.RegistryPullError t e)) h = tt
with_own text (Err (sigstore.RegistryPullManifestError t e)) h = h
with_own text (Err (sigstore.RegistryPushError t e)) h = h
with_own text (Err sigstore.WantOfMemory) h = h

entry_call_own : (s : Context) (source : Reference) (a : RegistryAuth) (entry : List ℕ) → Ends (OnRefusal (IsOwn Pull)) (entry_call s source a entry)
unfolding entry_call Ends
entry_call_own s source a entry = Ends-bind (OnRefusal (IsOwn Pull)) (OnRefusal (IsOwn Pull)) (document_call s (entry_reference source entry) a manifest_types) (λ r. Done (with_image (whole_text source) r)) (document_own s (entry_reference source entry) a manifest_types) (λ r h. with_own (whole_text source) r h)

entry_own : (s : Context) (source : Reference) (a : RegistryAuth) (entries : List ImageIndexEntry) → Ends (OnRefusal (IsOwn Pull)) (entry_row s source a entries)
unfolding entry_row
entry_own s source a entries =
    next_own (IsOwn Pull) (Done (with_error_context Pull (whole_text source) (entry_found s.settings.platform_resolver entries))) _ (done_own (IsOwn Pull) _ (worded_own Pull (whole_text source) (entry_found s.settings.platform_resolver entries))) (λ entry.
    next_own (IsOwn Pull) (entry_call s source a entry) _ (entry_call_own s source a entry) (λ found.
    next_own (IsOwn Pull) (Done (with_error_context Pull (whole_text source) (entry_in entry found.0))) _ (done_own (IsOwn Pull) _ (worded_own Pull (whole_text source) (entry_in entry found.0))) (λ manifest.
    done_own (IsOwn Pull) (Ok _) tt)))

manifest_own : (s : Context) (source : Reference) (a : RegistryAuth) (first : List ℕ) (document : OciManifest) → Ends (OnRefusal (IsOwn Pull)) (manifest_row s source a first document)
manifest_own s source a first (Image manifest) = done_own (IsOwn Pull) (Ok _) tt
manifest_own s source a first (ImageIndex index) = entry_own s source a index.manifests

image_own : (s : Context) (image source : Reference) (a : RegistryAuth) (accepted : List (List ℕ)) → Ends (OnRefusal (IsOwn Pull)) (image_row s image source a accepted)
unfolding image_row
image_own s image source a accepted =
    next_own (IsOwn Pull) (document_call s source a manifest_types) _ (document_own s source a manifest_types) (λ found.
    next_own (IsOwn Pull) (Done (with_error_context Pull (whole_text source) (document_in image found.0))) _ (done_own (IsOwn Pull) _ (worded_own Pull (whole_text source) (document_in image found.0))) (λ document.
    next_own (IsOwn Pull) (manifest_row s source a found.0 document) _ (manifest_own s source a found.0 document) (λ chosen.
    next_own (IsOwn Pull) (blobs_row s source accepted chosen.manifest) _ (blobs_own s source accepted chosen.manifest) (λ blobs.
    done_own (IsOwn Pull) (Ok _) tt))))

-- ---- a source is skipped, unless memory ran out

abbrev IsMemory : SigstoreError → Type 0
IsMemory e = of_memory e ≡ true

skipped_memory : (place : SkipCause → Skipped) (r : Result Part SigstoreError) → OnRefusal IsMemory (or_skipped place r)
skipped_memory place (Ok part) = tt
skipped_memory place (Err e) = by_memory (of_memory e) refl where
  by_memory : (b : Bool) → of_memory e ≡ b → OnRefusal {A = Part} IsMemory (if b then Err e else Ok (skipping (place (Refused e))))
  by_memory true is = is
  by_memory false is = tt

by_memory_only : (trust : Trust) (d : List ℕ) (s : Context) (tag : Reference) (a : RegistryAuth) (b : Bool) → Ends (OnRefusal IsMemory) (tag_by trust d s tag a b)
unfolding Ends
by_memory_only trust d s tag a true = Ends-bind (λ r. Unit {0}) (OnRefusal IsMemory) (tag_layers trust d s tag a) (λ r. Done (or_skipped (Source Tag) r)) (any_ends (tag_layers trust d s tag a)) (λ r u. skipped_memory (Source Tag) r)
by_memory_only trust d s tag a false = tt

tag_memory : (trust : Trust) (s : Context) (image : Reference) (a : RegistryAuth) (d : List ℕ) → Ends (OnRefusal IsMemory) (tag_source trust s image a d)
unfolding tag_source
tag_memory trust s image a d = by_memory_only trust d s (tag_reference image d) a (reads_back (tag_reference image d))

-- and so is a referrer
referrer_by_memory : (trust : Trust) (d : List ℕ) (s : Context) (referrer : Reference) (a : RegistryAuth) (digest : List ℕ) (b : Bool) → Ends (OnRefusal IsMemory) (referrer_by trust d s referrer a digest b)
unfolding Ends
referrer_by_memory trust d s referrer a digest true = Ends-bind (λ r. Unit {0}) (OnRefusal IsMemory) (image_call s referrer a (bundle_type ∷ [])) _ (any_ends (image_call s referrer a (bundle_type ∷ []))) (λ r u. skipped_memory (Referrer digest) (referrer_part trust d r))
referrer_by_memory trust d s referrer a digest false = tt

referrer_memory : (trust : Trust) (d : List ℕ) (s : Context) (source : Reference) (a : RegistryAuth) (digest : List ℕ) → Ends (OnRefusal IsMemory) (referrer_row trust d s source a digest)
unfolding referrer_row
referrer_memory trust d s source a digest = referrer_by_memory trust d s (digest_reference source digest) a digest (reads_back (digest_reference source digest))

referrers_memory : (trust : Trust) (d : List ℕ) (s : Context) (source : Reference) (a : RegistryAuth) (xs : List ImageIndexEntry) → Ends (OnRefusal IsMemory) (referrers_row trust d s source a xs)
unfolding referrers_row
referrers_memory trust d s source a [] = done_own IsMemory (Ok nothing) tt
referrers_memory trust d s source a (x ∷ xs) =
    next_own IsMemory (referrer_row trust d s source a x.digest) _ (referrer_memory trust d s source a x.digest) (λ one.
    next_own IsMemory (referrers_row trust d s source a xs) _ (referrers_memory trust d s source a xs) (λ rest.
    done_own IsMemory (Ok (appended one rest)) tt))

listed_memory : (trust : Trust) (d : List ℕ) (s : Context) (source : Reference) (a : RegistryAuth) (r : Result OciImageIndex SigstoreError) → Ends (OnRefusal IsMemory) (listed_row trust d s source a r)
listed_memory trust d s source a (Ok index) = referrers_memory trust d s source a index.manifests
listed_memory trust d s source a (Err e) = done_own IsMemory (or_skipped (Source Referrers) (Err e)) (skipped_memory (Source Referrers) (Err e))

source_memory_only : (trust : Trust) (d : List ℕ) (s : Context) (source : Reference) (a : RegistryAuth) → Ends (OnRefusal IsMemory) (referrers_source trust d s source a)
unfolding referrers_source
source_memory_only trust d s source a = Ends-bind (λ r. Unit {0}) (OnRefusal IsMemory) (referrers_call s source a None) (listed_row trust d s source a) (any_ends (referrers_call s source a None)) (λ r u. listed_memory trust d s source a r)

-- what follows a returned digest
abbrev pub rest_of : Trust → Context → Reference → RegistryAuth → List ℕ → Row TrustedLayers
rest_of trust s image a digest = do
  tag ← tag_source trust s image a digest
  more ← referrers_source trust digest s (digest_reference image digest) a
  Done (Ok (trusted_layers digest (appended tag more)))

rest_memory : (trust : Trust) (s : Context) (image : Reference) (a : RegistryAuth) (digest : List ℕ) → Ends (OnRefusal IsMemory) (rest_of trust s image a digest)
rest_memory trust s image a digest =
    next_own IsMemory (tag_source trust s image a digest) _ (tag_memory trust s image a digest) (λ tag.
    next_own IsMemory (referrers_source trust digest s (digest_reference image digest) a) _ (source_memory_only trust digest s (digest_reference image digest) a) (λ more.
    done_own IsMemory (Ok (trusted_layers digest (appended tag more))) tt))

-- ---- the search

-- a property of both ends of a run, its exchanges and its result
abbrev pub Between : {A : Type 0} → (Snapshot → List Exchange → Snapshot → A → Type 0) → Kept → ℕ → List Exchange → ℕ → Kept → A → Type 0
Between Q k m c n l a = Q (snapshot k m) c (snapshot l n) a

-- a property at the end of the first part holds where the second begins and sends no request
pub at_same : {A : Type 0} (Q : Snapshot → List Exchange → Snapshot → A → Type 0) (k j : Kept) (m n : ℕ) (c : List Exchange) (a : A) → Q (snapshot k m) c (snapshot j n) a
    → (j' : Kept) (n' : ℕ) → j' ≡ j → n' ≡ n → Between Q k m (c ++ []) n' j' a
at_same Q k j m n c a h j' n' kept count = subst (λ d. Q (snapshot k m) d (snapshot j' n') a) (sym (append-nil c)) (subst (λ i. Q (snapshot k m) c (snapshot i n') a) (sym kept) (subst (λ o. Q (snapshot k m) c (snapshot j o) a) (sym count) h))

pub at_once : {A : Type 0} (Q : Snapshot → List Exchange → Snapshot → A → Type 0) (k j : Kept) (m n : ℕ) (c : List Exchange) (a : A) → Q (snapshot k m) c (snapshot j n) a
    → EveryRunKept (λ j' n' d o l b. (j' ≡ j) → (n' ≡ n) → Between Q k m (c ++ d) o l b) (Done a)
at_once Q k j m n c a h = EveryRunKept-done (λ j' n' d o l b. (j' ≡ j) → (n' ≡ n) → Between Q k m (c ++ d) o l b) a (at_same Q k j m n c a h)

-- a property of each end holds for each run
ends_shown : {K A : Type 0} (Q : A → Type 0) (p : Proto K A) → Ends Q p → EveryRunKept (λ k m c n l a. Q a) p
ends_shown Q p h = record { shows = λ k l m n c a run. Runs-ends Q p k l m n c a h run }

abbrev BySearch : Context → Reference → RegistryAuth → Snapshot → List Exchange → Snapshot → Result TrustedLayers SigstoreError → Type 0
BySearch s image a start c end r = OnRefusal (SearchCause s image a start c end) r

digest_cause : (s : Context) (image : Reference) (a : RegistryAuth) (start : Snapshot) (c : List Exchange) (end : Snapshot) (e : SigstoreError) → RanBetween (digest_call s image a) start c end (Err e) → IsOwn FetchManifest e → SearchCause s image a start c end e
digest_cause s image a start c end (sigstore.OciReferenceNotValidError text) r own = absurd own
digest_cause s image a start c end (sigstore.RegistryFetchManifestError name e) r own = r
digest_cause s image a start c end (sigstore.RegistryPullError name e) r own = absurd own
digest_cause s image a start c end (sigstore.RegistryPullManifestError name e) r own = absurd own
digest_cause s image a start c end (sigstore.RegistryPushError name e) r own = absurd own
digest_cause s image a start c end sigstore.WantOfMemory r own = tt

memory_cause : (s : Context) (image : Reference) (a : RegistryAuth) (start : Snapshot) (c : List Exchange) (end : Snapshot) (e : SigstoreError) → IsMemory e → SearchCause s image a start c end e
memory_cause s image a start c end (sigstore.OciReferenceNotValidError text) is = absurd (cc is)
memory_cause s image a start c end (sigstore.RegistryFetchManifestError name e) is = absurd (cc is)
memory_cause s image a start c end (sigstore.RegistryPullError name e) is = absurd (cc is)
memory_cause s image a start c end (sigstore.RegistryPullManifestError name e) is = absurd (cc is)
memory_cause s image a start c end (sigstore.RegistryPushError name e) is = absurd (cc is)
memory_cause s image a start c end sigstore.WantOfMemory is = tt

tag_cause : (s : Context) (image : Reference) (a : RegistryAuth) (start : Snapshot) (c : List Exchange) (end : Snapshot) (r : Result TrustedLayers SigstoreError) → OnRefusal IsMemory r → BySearch s image a start c end r
tag_cause s image a start c end (Ok found) h = tt
tag_cause s image a start c end (Err e) h = memory_cause s image a start c end e h

unread_cause : (s : Context) (image : Reference) (a : RegistryAuth) (start : Snapshot) (c : List Exchange) (end : Snapshot) (digest : List ℕ) (e : SigstoreError) → RanBetween (digest_call s image a) start c end (Ok digest) → reading_back (digest_reference image digest) ≡ Err e → SearchCause s image a start c end e
unread_cause s image a start c end digest e ran is = by_back (reads_back (digest_reference image digest)) refl is where
  by_back : (b : Bool) → reads_back (digest_reference image digest) ≡ b → or_not_valid (digest_reference image digest) b ≡ Err e → SearchCause s image a start c end e
  by_back true back is = absurd (cc is)
  by_back false back is = let same : sigstore.OciReferenceNotValidError (whole_text (digest_reference image digest)) ≡ e = cc is in subst (SearchCause s image a start c end) same (record { digest = digest; answered = ran; unread = back; text_is = refl })

-- the digest was returned, and what followed
after_digest : (trust : Trust) (s : Context) (image : Reference) (a : RegistryAuth) (k j : Kept) (m n : ℕ) (c : List Exchange) (digest : List ℕ) → Runs (digest_call s image a) k m c n j (Ok digest)
    → EveryRunKept (λ j' n' d o l b. (j' ≡ j) → (n' ≡ n) → Between (BySearch s image a) k m (c ++ d) o l b) (Done (reading_back (digest_reference image digest)) >>= (λ u. rest_of trust s image a digest))
after_digest trust s image a k j m n c digest run = EveryRunKept-step (λ j' n' d o l b. (j' ≡ j) → (n' ≡ n) → Between (BySearch s image a) k m (c ++ d) o l b) (reading_back (digest_reference image digest)) (λ u. rest_of trust s image a digest)
    (λ u is. EveryRunKept-more (λ j' n' d o l b. OnRefusal IsMemory b) (λ j' n' d o l b. (j' ≡ j) → (n' ≡ n) → Between (BySearch s image a) k m (c ++ d) o l b) (rest_of trust s image a digest) (ends_shown (OnRefusal IsMemory) (rest_of trust s image a digest) (rest_memory trust s image a digest))
    (λ j' l n' o d b h kept count. tag_cause s image a (snapshot k m) (c ++ d) (snapshot l o) b h))
    (λ e is. at_same (BySearch s image a) k j m n c (Err e) (unread_cause s image a (snapshot k m) c (snapshot j n) digest e run is))

digest_then : (trust : Trust) (s : Context) (image : Reference) (a : RegistryAuth) (k j : Kept) (m n : ℕ) (c : List Exchange) (r : Result (List ℕ) SigstoreError) → Runs (digest_call s image a) k m c n j r → OnRefusal (IsOwn FetchManifest) r
    → EveryRunKept (λ j' n' d o l b. (j' ≡ j) → (n' ≡ n) → Between (BySearch s image a) k m (c ++ d) o l b) (unless_refused (λ digest. Done (reading_back (digest_reference image digest)) >>= (λ u. rest_of trust s image a digest)) r)
digest_then trust s image a k j m n c (Ok digest) run own = after_digest trust s image a k j m n c digest run
digest_then trust s image a k j m n c (Err e) run own = at_once (BySearch s image a) k j m n c (Err e) (digest_cause s image a (snapshot k m) c (snapshot j n) e run own)

pub search_causes : (trust : Trust) (s : Context) (image : Reference) (a : RegistryAuth) → EveryRunKept (Between (BySearch s image a)) (searched trust s image a)
unfolding searched
search_causes trust s image a = EveryRunKept-bind (λ k m c n l r. Runs (digest_call s image a) k m c n l r × OnRefusal (IsOwn FetchManifest) r) (Between (BySearch s image a)) (digest_call s image a) _
    (EveryRunKept-both (λ k m c n l r. Runs (digest_call s image a) k m c n l r) (λ k m c n l r. OnRefusal (IsOwn FetchManifest) r) (digest_call s image a) (EveryRunKept-run (digest_call s image a)) (ends_shown (OnRefusal (IsOwn FetchManifest)) (digest_call s image a) (digest_own s image a)))
    (λ k j m n c r h. digest_then trust s image a k j m n c r h.0 h.1)

-- the error of a call has its cause in the exposed exchanges, also if memory ran out
told_cause : {A E : Type 0} (of : E → Bool) (Q : Snapshot → List Exchange → Snapshot → E → Type 0) (p : Proto Kept (Result A E)) → EveryRunKept (Between (λ start c end r. OnRefusal (Q start c end) r)) p → ((start : Snapshot) (c : List Exchange) (end : Snapshot) (e : E) → of e ≡ true → Q start c end e)
    → {old new : Link} {k l : Kept} (r : Result A E) → Meets of p old new k l r → IfErr r (λ e. Told (λ c. Q (snapshot k old.faults) c (snapshot l new.faults) e) old new)
told_cause of Q p h free (Ok a) met = tt
told_cause {A} {E} of Q p h free {old} {new} {k} {l} (Err e) met = by_memory (of e) refl met.outcome where
  by_memory : (b : Bool) → of e ≡ b → MatchBool b (PerformsPrefix p old new k l) (Performs p old new k l (Err e)) → Told (λ c. Q (snapshot k old.faults) c (snapshot l new.faults) e) old new
  by_memory true is run = record { conversation = run.conversation; told = run.told; holds = free (snapshot k old.faults) run.conversation (snapshot l new.faults) e is }
  by_memory false is run = record { conversation = run.conversation; told = run.told; holds = h.shows k l old.faults new.faults run.conversation (Err e) run.runs }

pub search_cause : (trust : Trust) (s : Context) (image : Reference) (a : RegistryAuth) {old new : Link} {k l : Kept} (r : Result TrustedLayers SigstoreError)
    → Meets of_memory (searched trust s image a) old new k l r → IfErr r (λ e. Told (λ c. SearchCause s image a (snapshot k old.faults) c (snapshot l new.faults) e) old new)
search_cause trust s image a r met = told_cause of_memory (SearchCause s image a) (searched trust s image a) (search_causes trust s image a) (memory_cause s image a) r met

-- ---- the pull

module _ {V : Type 0} {H : V → Type 0} (policy_context : PolicyContext V H) (s : Context) (image : Reference) (a : RegistryAuth) (accepted : List (List ℕ)) where
  abbrev Cause : Snapshot → List Exchange → Snapshot → PullRefusal → Type 0
  Cause = PullCause policy_context s image a accepted

  abbrev ByPull : {A : Type 0} → Snapshot → List Exchange → Snapshot → Result A PullRefusal → Type 0
  ByPull start c end r = OnRefusal (Cause start c end) r

  -- the search as a part of the whole pull
  abbrev AfterSearch : Snapshot → List Exchange → Snapshot → Result TrustedLayers PullRefusal → Type 0
  AfterSearch start c end (Ok found) = Found policy_context s image a start c end found
  AfterSearch start c end (Err e) = Cause start c end e

  lifted_cause : (start : Snapshot) (c : List Exchange) (end : Snapshot) (e : SigstoreError) → SearchCause s image a start c end e → Cause start c end (refused_as e)
  lifted_cause start c end (sigstore.OciReferenceNotValidError text) h = inr h
  lifted_cause start c end (sigstore.RegistryFetchManifestError name e) h = h
  lifted_cause start c end (sigstore.RegistryPullError name e) h = absurd h
  lifted_cause start c end (sigstore.RegistryPullManifestError name e) h = absurd h
  lifted_cause start c end (sigstore.RegistryPushError name e) h = absurd h
  lifted_cause start c end sigstore.WantOfMemory h = tt

  search_part : (start : Snapshot) (c : List Exchange) (end : Snapshot) (r : Result TrustedLayers SigstoreError) → RanBetween (searched policy_context.trust s image a) start c end r → BySearch s image a start c end r → AfterSearch start c end (as_whole r)
  search_part start c end (Ok found) ran cause = ran
  search_part start c end (Err e) ran cause = lifted_cause start c end e cause

  search_shown : EveryRunKept (Between AfterSearch) (part_of (searched policy_context.trust s image a))
  unfolding part_of
  search_shown = EveryRunKept-bind (λ k m c n l r. Runs (searched policy_context.trust s image a) k m c n l r × Between (BySearch s image a) k m c n l r) (Between AfterSearch) (searched policy_context.trust s image a) (λ r. Done (as_whole r))
      (EveryRunKept-both (λ k m c n l r. Runs (searched policy_context.trust s image a) k m c n l r) (Between (BySearch s image a)) (searched policy_context.trust s image a) (EveryRunKept-run (searched policy_context.trust s image a)) (search_causes policy_context.trust s image a))
      (λ k j m n c r h. at_once AfterSearch k j m n c (as_whole r) (search_part (snapshot k m) c (snapshot j n) r h.0 h.1))

  -- a layer of those found satisfies the policy
  record Stood (found : TrustedLayers) (stood : SignedDigest) : Type 0 where
    digest : found.digest ≡ stood.digest
    first : find (stands_by policy_context) found.collected ≡ Some stood.signature

  stood_of : (found : TrustedLayers) (o : Option SignatureLayer) (stood : SignedDigest) → find (stands_by policy_context) found.collected ≡ o → signed_digest found o ≡ Ok stood → Stood found stood
  stood_of found None stood is e = absurd (cc e)
  stood_of found (Some signature) stood is e =
      let same : (let x : SignedDigest = record { digest = found.digest; signature = signature } in x) ≡ stood = cc e in
      subst (Stood found) same (record { digest = refl; first = is })

  unsatisfied : (start : Snapshot) (c : List Exchange) (end : Snapshot) (found : TrustedLayers) (o : Option SignatureLayer) (e : PullRefusal) → Found policy_context s image a start c end found → find (stands_by policy_context) found.collected ≡ o → signed_digest found o ≡ Err e → Cause start c end e
  unsatisfied start c end found (Some signature) e h is wrong = absurd (cc wrong)
  unsatisfied start c end found None e h is wrong =
      let same : refusal.Unsatisfied found.digest found.collected found.skipped ≡ e = cc wrong in
      subst (Cause start c end) same (record { searched_is = h; none = is })

  abbrev row : SignedDigest → Row Pulled
  row stood = image_row s image (digest_reference image stood.digest) a accepted

  -- the image as a part of the whole pull
  image_part : (start between end : Snapshot) (c d : List Exchange) (found : TrustedLayers) (stood : SignedDigest) (r : Result Pulled SigstoreError) → Found policy_context s image a start c between found → Stood found stood → RanBetween (row stood) between d end r → OnRefusal (IsOwn Pull) r → ByPull start (c ++ d) end (as_whole r)
  image_part start between end c d found stood (Ok pulled) h stands ran own = tt
  image_part start between end c d found stood (Err (sigstore.OciReferenceNotValidError text)) h stands ran own = absurd own
  image_part start between end c d found stood (Err (sigstore.RegistryFetchManifestError name e)) h stands ran own = absurd own
  image_part start between end c d found stood (Err (sigstore.RegistryPullError name e)) h stands ran own = record {
    search = c;
    pull = d;
    split = refl;
    between = between;
    found = found;
    searched_is = h;
    signature = stood.signature;
    stands_is = stands.first;
    refused = subst (λ digest. RanBetween (image_row s image (digest_reference image digest) a accepted) between d end (Err (sigstore.RegistryPullError name e))) (sym stands.digest) ran;
  }
  image_part start between end c d found stood (Err (sigstore.RegistryPullManifestError name e)) h stands ran own = absurd own
  image_part start between end c d found stood (Err (sigstore.RegistryPushError name e)) h stands ran own = absurd own
  image_part start between end c d found stood (Err sigstore.WantOfMemory) h stands ran own = tt

  -- why the image is refused, after a search that ended there
  abbrev AfterFound : {A : Type 0} → Kept → ℕ → List Exchange → ℕ → Kept → Kept → ℕ → List Exchange → ℕ → Kept → Result A PullRefusal → Type 0
  AfterFound k m c n j j' n' d o l b = (j' ≡ j) → (n' ≡ n) → ByPull (snapshot k m) (c ++ d) (snapshot l o) b

  image_ran : (k j j' l : Kept) (m n n' o : ℕ) (c d : List Exchange) (found : TrustedLayers) (stood : SignedDigest) (r : Result Pulled SigstoreError) → Found policy_context s image a (snapshot k m) c (snapshot j n) found → Stood found stood
      → Runs (row stood) j' n' d o l r → OnRefusal (IsOwn Pull) r → AfterFound k m c n j j' n' d o l (as_whole r)
  image_ran k j j' l m n n' o c d found stood r h stands run own kept count = image_part (snapshot k m) (snapshot j n) (snapshot l o) c d found stood r h stands
      (subst (λ i. Runs (row stood) i n d o l r) kept (subst (λ i. Runs (row stood) j' i d o l r) count run)) own

  image_shown : (k j : Kept) (m n : ℕ) (c : List Exchange) (found : TrustedLayers) (stood : SignedDigest) → Found policy_context s image a (snapshot k m) c (snapshot j n) found → Stood found stood → EveryRunKept (AfterFound k m c n j) (part_of (row stood))
  unfolding part_of
  image_shown k j m n c found stood h stands = EveryRunKept-bind (λ j' n' d o l r. Runs (row stood) j' n' d o l r × OnRefusal (IsOwn Pull) r) (AfterFound k m c n j) (row stood) (λ r. Done (as_whole r))
      (EveryRunKept-both (λ j' n' d o l r. Runs (row stood) j' n' d o l r) (λ j' n' d o l r. OnRefusal (IsOwn Pull) r) (row stood) (EveryRunKept-run (row stood)) (ends_shown (OnRefusal (IsOwn Pull)) (row stood) (image_own s image (digest_reference image stood.digest) a accepted)))
      (λ j' i n' o d r h'. EveryRunKept-done (λ i' o' e p l b. (i' ≡ i) → (o' ≡ o) → AfterFound k m c n j j' n' (d ++ e) p l b) (as_whole r)
      (λ i' o' kept count. subst (λ d. AfterFound k m c n j j' n' d o' i' (as_whole r)) (sym (append-nil d)) (subst (λ i. AfterFound k m c n j j' n' d o' i (as_whole r)) (sym kept) (subst (λ o. AfterFound k m c n j j' n' d o i (as_whole r)) (sym count) (image_ran k j j' i m n n' o c d found stood r h stands h'.0 h'.1)))))

  image_then : (k j j' i : Kept) (m n n' o : ℕ) (c d : List Exchange) (stood : SignedDigest) (r : Result Pulled PullRefusal) → AfterFound k m c n j j' n' d o i r
      → EveryRunKept (λ i' o' e p l b. (i' ≡ i) → (o' ≡ o) → AfterFound k m c n j j' n' (d ++ e) p l b) (unless_refused (λ pulled. Done (Ok (verified_image stood pulled))) r)
  image_then k j j' i m n n' o c d stood (Ok pulled) h = EveryRunKept-done (λ i' o' e p l b. (i' ≡ i) → (o' ≡ o) → AfterFound k m c n j j' n' (d ++ e) p l b) (Ok (verified_image stood pulled)) (λ i' o' kept count kept' count'. tt)
  image_then k j j' i m n n' o c d stood (Err e) h = EveryRunKept-done (λ i' o' e' p l b. (i' ≡ i) → (o' ≡ o) → AfterFound k m c n j j' n' (d ++ e') p l b) (Err e)
      (λ i' o' kept count. subst (λ d. AfterFound {A = VerifiedImage} k m c n j j' n' d o' i' (Err e)) (sym (append-nil d)) (subst (λ i. AfterFound {A = VerifiedImage} k m c n j j' n' d o' i (Err e)) (sym kept) (subst (λ o. AfterFound {A = VerifiedImage} k m c n j j' n' d o i (Err e)) (sym count) h)))

  after_causes : (k j : Kept) (m n : ℕ) (c : List Exchange) (found : TrustedLayers) → Found policy_context s image a (snapshot k m) c (snapshot j n) found → EveryRunKept (AfterFound k m c n j) (after_search policy_context s image a accepted found)
  unfolding after_search
  after_causes k j m n c found h = EveryRunKept-step (AfterFound k m c n j) (standing policy_context found) _
      (λ stood is. EveryRunKept-bind (AfterFound k m c n j) (AfterFound k m c n j) (part_of (row stood)) _ (image_shown k j m n c found stood h (stood_of found (find (stands_by policy_context) found.collected) stood refl is)) (λ j' i n' o d r h'. image_then k j j' i m n n' o c d stood r h'))
      (λ e is. at_same (ByPull {A = VerifiedImage}) k j m n c (Err e) (unsatisfied (snapshot k m) c (snapshot j n) found (find (stands_by policy_context) found.collected) e h refl is))

  search_then : (k j : Kept) (m n : ℕ) (c : List Exchange) (r : Result TrustedLayers PullRefusal) → AfterSearch (snapshot k m) c (snapshot j n) r → EveryRunKept (AfterFound k m c n j) (unless_refused (after_search policy_context s image a accepted) r)
  search_then k j m n c (Ok found) h = after_causes k j m n c found h
  search_then k j m n c (Err e) h = at_once (ByPull {A = VerifiedImage}) k j m n c (Err e) h

  empty_cause : (start : Snapshot) (b : Bool) (e : PullRefusal) → is_unconstrained policy_context.policy ≡ b → constrained b ≡ Err e → Cause start [] start e
  empty_cause start false e is wrong = absurd (cc wrong)
  empty_cause start true e is wrong = let same : refusal.EmptyPolicy ≡ e = cc wrong in subst (Cause start [] start) same (is, (refl, refl))

  unreadable_cause : (start : Snapshot) (b : Bool) (e : PullRefusal) → reads_back image ≡ b → readable_by image b ≡ Err e → Cause start [] start e
  unreadable_cause start true e is wrong = absurd (cc wrong)
  unreadable_cause start false e is wrong = let same : refusal.OciReferenceNotValidError (whole_text image) ≡ e = cc wrong in subst (Cause start [] start) same (inl (record { unread = is; text_is = refl; silent = (refl, refl) }))

  pub pull_causes : EveryRunKept (Between ByPull) (verified policy_context s image a accepted)
  unfolding verified after_search
  pull_causes = EveryRunKept-step (Between ByPull) (constrained (is_unconstrained policy_context.policy)) _
      (λ u some. EveryRunKept-step (Between ByPull) (readable image) _
      (λ v back. EveryRunKept-bind (Between AfterSearch) (Between ByPull) (part_of (searched policy_context.trust s image a)) _ search_shown (λ k j m n c r h. search_then k j m n c r h))
      (λ e is k m. unreadable_cause (snapshot k m) (reads_back image) e refl is))
      (λ e is k m. empty_cause (snapshot k m) (is_unconstrained policy_context.policy) e refl is)

  free_refusal : (start : Snapshot) (c : List Exchange) (end : Snapshot) (e : PullRefusal) → is_memory e ≡ true → Cause start c end e
  free_refusal start c end refusal.EmptyPolicy is = absurd (cc is)
  free_refusal start c end (refusal.OciReferenceNotValidError text) is = absurd (cc is)
  free_refusal start c end (refusal.RegistryFetchManifestError name e) is = absurd (cc is)
  free_refusal start c end (refusal.RegistryPullError name e) is = absurd (cc is)
  free_refusal start c end (refusal.Unsatisfied digest collected skipped) is = absurd (cc is)
  free_refusal start c end refusal.WantOfMemory is = tt

  pub pull_cause : {old new : Link} {k l : Kept} (r : Result VerifiedImage PullRefusal) → Meets is_memory (verified policy_context s image a accepted) old new k l r
      → IfErr r (λ e. Told (λ c. Cause (snapshot k old.faults) c (snapshot l new.faults) e) old new)
  pull_cause r met = told_cause is_memory Cause (verified policy_context s image a accepted) pull_causes free_refusal r met
