-- Properties of each complete run of the pull's parts.
use Rattle.std.proofs.Common.{◌≡◌, ◌<◌, ◌⊎◌, inl, inr, ℕ, Bool, true, false, List, [], ◌∷◌, ◌++◌, Option, Some, None, Result, Ok, Err, Contains, length, refl, sym, ap, subst, ◌∙◌, arith, append_assoc, append-nil}
use Rattle.std.specs.Prelude.{if◌then◌else◌, bytes_eq}
use Rattle.std.proofs.lemmas.Slice.Eq.{bytes_eq-Decides}
use Rattle.std.proofs.lemmas.List.Elements.{Contains-append_right}
use Rattle.oci_names.specs.declared.reference.Reference.{Reference}
use Rattle.oci_names.specs.Reference.{digest_of, whole_text}
use Rattle.oci_auth.specs.declared.auth.RegistryAuth.{RegistryAuth}
use Rattle.oci_digests.specs.Names.{Names, digest_text}
use Rattle.oci_digests.specs.Checks.{checked, checked_by, and_then}
use Rattle.oci_digests.specs.Checks.{named_algorithm}
use Rattle.oci_names.specs.declared.algorithm.Algorithm.{Algorithm}
use Rattle.oci_digests.specs.declared.error.DigestError.{DigestError}
use Rattle.oci_digests.specs.declared.error.DigestError.TheVariants as digest_refusal
use Rattle.oci_manifests.specs.declared.document.OciManifest.{OciManifest}
use Rattle.oci_manifests.specs.declared.document.OciManifest.TheVariants.{Image, ImageIndex}
use Rattle.oci_manifests.specs.declared.manifest.OciImageManifest.{OciImageManifest}
use Rattle.oci_manifests.specs.declared.descriptor.OciDescriptor.{OciDescriptor}
use Rattle.oci_manifests.specs.declared.index.OciImageIndex.{OciImageIndex}
use Rattle.oci_manifests.specs.declared.index_entry.ImageIndexEntry.{ImageIndexEntry}
use Rattle.oci_manifests.specs.declared.blob.Config.{Config}
use Rattle.oci_manifests.specs.declared.blob.ImageLayer.{ImageLayer}
use Rattle.oci_transport.specs.declared.message.Exchange.{Exchange}
use Rattle.oci_protocol.specs.Proto.{Proto, Done, ◌>>=◌}
use Rattle.oci_protocol.specs.EveryRun.{EveryRun, WhenOk}
use Rattle.oci_protocol.proofs.WiderMemory.{EveryRun-lifted}
use Rattle.oci_protocol.proofs.RunFacts.{EveryRun-done, EveryRun-more, EveryRun-bind, EveryRun-next, EveryRun-step}
use Rattle.engine_terms.specs.Contexts.{Context}
use Rattle.engine_requests.specs.Sources.{Layer, described}
use Rattle.engine_terms.specs.declared.error.OciDistributionError.{OciDistributionError}
use Rattle.engine_terms.specs.declared.error.OciDistributionError.TheVariants as engine_refusal
use Rattle.engine_terms.specs.Error.{is_memory as engine_is_memory}
use Rattle.engine_answers.specs.Answers.{or_digest_error}
use Rattle.engine_requests.specs.Requests.{manifest_types}
use Rattle.engine_answers.specs.Documents.{document_read}
use Rattle.engine_answers.specs.Index.{entry_found, entry_manifest, entry_reference}
use Rattle.oci_manifests.specs.Promise.{Picks}
use Rattle.oci_manifests.specs.declared.promise.ResolverPromise.{ResolverPromise}
use Rattle.engine_rows.specs.Blobs.{IntoMemory}
use Rattle.engine_rows.specs.Rows.{Row as Engine}
use Rattle.engine_rows.specs.Pulls.{fetch_manifest_digest, pull_manifest_raw, held_blob}
use Rattle.engine_rows.specs.Image.{is_accepted, all_accepted, layers_accepted, layer_of, layers_by, config_of}
use Rattle.engine_rows.specs.Answered.{DigestAnswered, Body, Document, LastBody}
use Rattle.request_laws.proofs.DocumentAnswers.{body_before, body_after, raw_shows}
use Rattle.engine_laws.proofs.BlobAnswers.{blob_shows}
use Rattle.engine_laws.proofs.DigestAnswers.{digest_shows}
use Rattle.registry_calls.specs.declared.error.SigstoreError.{SigstoreError}
use Rattle.registry_calls.specs.declared.error.SigstoreError.TheVariants as sigstore
use Rattle.registry_calls.specs.declared.error_context.Called.{Called}
use Rattle.registry_calls.specs.declared.error_context.Called.TheVariants.{FetchManifest, Pull}
use Rattle.registry_calls.specs.ErrorContext.{with_error_context, refusal}
use Rattle.registry_calls.specs.Clients.{Kept, Row}
use Rattle.registry_calls.specs.Calls.{in_words, digest_made, document_made, blob_made, document_call, blob_call}
use Rattle.cosign_rows.specs.declared.pulled.Pulled.{Pulled}
use Rattle.cosign_rows.specs.declared.pulled.PulledManifest.{PulledManifest}
use Rattle.cosign_laws.proofs.Entries.{found_picked}
use Rattle.cosign_rows.specs.Image.{named_by_reference, document_in, entry_in, with_image, layers_row, blobs_row, entry_call, entry_row, manifest_row, image_row}
use Rattle.cosign_chain.specs.Chain.{IsDocument as Reads, ReadsAs, ConfigLinks, LayersLink}
use Rattle.cosign_rows.specs.Sound.{EachBody}
use Rattle.cosign_laws.proofs.DocumentTexts.{both, document_is, entry_is}

-- ---- calls with context

-- the property holds for the exchanges and the result, if there is one
abbrev pub Seen : {A E : Type 0} → (List Exchange → A → Type 0) → ℕ → List Exchange → ℕ → Result A E → Type 0
Seen P = WhenOk (λ m c n a. P c a)

worded_seen : {A : Type 0} (P : List Exchange → A → Type 0) (called : Called) (text : List ℕ) (m n o : ℕ) (c : List Exchange) (r : Result A OciDistributionError) → Seen P m c n r → Seen P m (c ++ []) o (with_error_context called text r)
worded_seen P called text m n o c (Ok a) h = rw append-nil h
worded_seen {A} P called text m n o c (Err e) h = by_memory (engine_is_memory e) where
  by_memory : (b : Bool) → Seen {A = A} {E = SigstoreError} P m (c ++ []) o (if b then Err sigstore.WantOfMemory else Err (refusal called text e))
  by_memory true = tt
  by_memory false = tt

-- a call with context has the properties of the engine's call
words_show : {A : Type 0} (P : List Exchange → A → Type 0) (called : Called) (image : Reference) (p : Engine A) → EveryRun (Seen P) p → EveryRun (Seen P) (in_words called image p)
unfolding in_words
words_show P called image p h = EveryRun-bind (Seen P) (Seen P) p (λ r. Done (with_error_context called (whole_text image) r)) h
    (λ m n c r at. EveryRun-done (λ s d o b. Seen P m (c ++ d) o b) (with_error_context called (whole_text image) r) (λ o. worded_seen P called (whole_text image) m n o c r at))

pub digest_made_shows : (s : Context) (image : Reference) (a : RegistryAuth) → EveryRun (Seen (DigestAnswered s.settings image)) (digest_made s image a)
unfolding digest_made
digest_made_shows s image a = words_show (DigestAnswered s.settings image) FetchManifest image (fetch_manifest_digest s image a) (digest_shows s image a)

-- a document of this image
abbrev IsDocument : Reference → List Exchange → List ℕ × List ℕ → Type 0
IsDocument image c found = Document image c found.0 found.1

document_call_shows : (s : Context) (image : Reference) (a : RegistryAuth) (types : List ℕ) → EveryRun (Seen (IsDocument image)) (document_call s image a types)
unfolding document_call document_made
document_call_shows s image a types = EveryRun-lifted (Seen (IsDocument image)) (document_made s image a types) (words_show (IsDocument image) Pull image (pull_manifest_raw s image a types) (raw_shows s image a types))

-- the bytes of the last answer, which the digest names
abbrev IsBlob : List ℕ → List Exchange → List ℕ → Type 0
IsBlob digest c bytes = Body c bytes × Names digest bytes × LastBody c bytes

blob_call_shows : (s : Context) (image : Reference) (layer : Layer) → EveryRun (Seen (IsBlob layer.digest)) (blob_call s image layer)
unfolding blob_call blob_made
blob_call_shows s image layer = EveryRun-lifted (Seen (IsBlob layer.digest)) (blob_made s image layer) (words_show (IsBlob layer.digest) Pull image (held_blob s image layer) (blob_shows IntoMemory s image layer))

-- a step, and what it leads to, after what was seen before
pub next_seen : {A B E : Type 0} (P : List Exchange → A → Type 0) (Q : List Exchange → B → Type 0) (p : Proto Kept (Result A E)) (f : A → Proto Kept (Result B E)) → EveryRun (Seen P) p → ((c : List Exchange) (a : A) → P c a → EveryRun (Seen (λ d b. Q (c ++ d) b)) (f a)) → EveryRun (Seen Q) (p >>= f)
next_seen {B = B} {E = E} P Q p f h each = EveryRun-next (λ m c n a. P c a) (λ m c n b. Q c b) p f h (λ m n c a at. EveryRun-more (Seen (λ d b. Q (c ++ d) b)) (λ s d o b. Seen Q m (c ++ d) o b) (f a) (each c a at) (λ s o d b seen. moved c m s o d b seen)) where
  moved : (c : List Exchange) (m s o : ℕ) (d : List Exchange) (b : Result B E) → Seen (λ d b. Q (c ++ d) b) s d o b → Seen Q m (c ++ d) o b
  moved c m s o d (Ok b) h = h
  moved c m s o d (Err e) h = tt

-- a step without a request
pub step_seen : {A B E : Type 0} (Q : List Exchange → B → Type 0) (r : Result A E) (f : A → Proto Kept (Result B E)) → ((a : A) → r ≡ Ok a → EveryRun (Seen Q) (f a)) → EveryRun (Seen Q) (Done r >>= f)
step_seen Q r f each = EveryRun-step (Seen Q) r f each (λ e is m. tt)

pub done_seen : {A E : Type 0} (Q : List Exchange → A → Type 0) (a : A) → Q [] a → EveryRun {K = Kept} {A = Result A E} (Seen Q) (Done (Ok a))
done_seen Q a h = EveryRun-done (Seen Q) (Ok a) (λ m. h)

pub more_seen : {A : Type 0} (P Q : List Exchange → A → Type 0) (p : Row A) → EveryRun (Seen P) p → ((c : List Exchange) (a : A) → P c a → Q c a) → EveryRun (Seen Q) p
more_seen {A} P Q p h more = EveryRun-more (Seen P) (Seen Q) p h each where
  each : (m n : ℕ) (c : List Exchange) (r : Result A SigstoreError) → Seen P m c n r → Seen Q m c n r
  each m n c (Ok a) h = more c a h
  each m n c (Err e) h = tt

-- a step with context that succeeded
worded_ok : {A : Type 0} (called : Called) (text : List ℕ) (r : Result A OciDistributionError) (a : A) → with_error_context called text r ≡ Ok a → r ≡ Ok a
worded_ok called text (Ok x) a is = let same : x ≡ a = cc is in ap Ok same
worded_ok {A} called text (Err e) a is = by_memory (engine_is_memory e) is where
  by_memory : (b : Bool) → (if b then Err sigstore.WantOfMemory else Err (refusal called text e)) ≡ Ok a → (let r : Result A OciDistributionError = Err e in r) ≡ Ok a
  by_memory true h = absurd (cc h)
  by_memory false h = absurd (cc h)

-- ---- the layers of an image

-- a descriptor's layer is the body of an answer, and the digest names it
record IsLayer (c : List Exchange) (x : OciDescriptor) (layer : ImageLayer) : Type 0 where
  body : Body c layer.content
  named : Names x.digest layer.content
  media_type : layer.media_type ≡ x.media_type
  annotations : layer.annotations ≡ x.annotations

-- one for each
abbrev AreLayers : List Exchange → List OciDescriptor → List ImageLayer → Type 0
AreLayers c [] [] = Unit {0}
AreLayers c [] (layer ∷ layers) = ⊥
AreLayers c (x ∷ xs) [] = ⊥
AreLayers c (x ∷ xs) (layer ∷ layers) = IsLayer c x layer × AreLayers c xs layers

-- also in a longer conversation
layers_after : (c d : List Exchange) (xs : List OciDescriptor) (layers : List ImageLayer) → AreLayers d xs layers → AreLayers (c ++ d) xs layers
layers_after c d [] [] h = tt
layers_after c d [] (layer ∷ layers) h = h
layers_after c d (x ∷ xs) [] h = h
layers_after c d (x ∷ xs) (layer ∷ layers) h = (record { body = body_after c (h.0).body; named = (h.0).named; media_type = (h.0).media_type; annotations = (h.0).annotations }, layers_after c d xs layers h.1)

-- after the layers that were already present
record Behind (xs : List OciDescriptor) (got : List ImageLayer) (c : List Exchange) (all : List ImageLayer) : Type 0 where
  more : List ImageLayer
  is : all ≡ got ++ more
  layers : AreLayers c xs more

one_more : (x : OciDescriptor) (xs : List OciDescriptor) (got : List ImageLayer) (content : List ℕ) (c d : List Exchange) (all : List ImageLayer) → IsBlob x.digest c content → Behind xs (got ++ layer_of x content ∷ []) d all → Behind (x ∷ xs) got (c ++ d) all
one_more x xs got content c d all blob rest = record {
  more = layer_of x content ∷ rest.more;
  is = rest.is ∙ append_assoc got (layer_of x content ∷ []) rest.more;
  layers = (record { body = body_before d blob.0; named = blob.1; media_type = refl; annotations = refl }, layers_after c d xs rest.more rest.layers);
}

layers_show : (s : Context) (source : Reference) (xs : List OciDescriptor) (got : List ImageLayer) → EveryRun (Seen (Behind xs got)) (layers_row s source xs got)
unfolding layers_by
layers_show s source [] got = done_seen (Behind [] got) got (record { more = []; is = sym (append-nil got); layers = tt })
layers_show s source (x ∷ xs) got = next_seen (IsBlob x.digest) (Behind (x ∷ xs) got) (blob_call s source (described x)) (λ content. layers_row s source xs (got ++ layer_of x content ∷ [])) (blob_call_shows s source (described x))
    (λ c content blob. more_seen (Behind xs (got ++ layer_of x content ∷ [])) (λ d all. Behind (x ∷ xs) got (c ++ d) all) (layers_row s source xs (got ++ layer_of x content ∷ [])) (layers_show s source xs (got ++ layer_of x content ∷ [])) (λ d all rest. one_more x xs got content c d all blob rest))

-- ---- an image

accepted_by : (a : List ℕ) (accepted : List (List ℕ)) (kind : List ℕ) (b : Bool) → bytes_eq a kind ≡ b → (is_accepted accepted kind ≡ true → Contains accepted kind) → (if b then true else is_accepted accepted kind) ≡ true → Contains (a ∷ accepted) kind
accepted_by a accepted kind true same later h = (0, omega arith, (bytes_eq-Decides a kind).0 same)
accepted_by a accepted kind false same later h = Contains-append_right (a ∷ []) accepted kind (later h)

accepted_in : (accepted : List (List ℕ)) (kind : List ℕ) → is_accepted accepted kind ≡ true → Contains accepted kind
accepted_in [] kind is = absurd (cc is)
accepted_in (a ∷ accepted) kind is = accepted_by a accepted kind (bytes_eq a kind) refl (λ h. accepted_in accepted kind h) is

links_by : (accepted : List (List ℕ)) (c : List Exchange) (x : OciDescriptor) (xs : List OciDescriptor) (layer : ImageLayer) (layers : List ImageLayer) (u : Unit) (b : Bool) → is_accepted accepted x.media_type ≡ b → IsLayer c x layer → (all_accepted accepted xs ≡ Ok u → LayersLink accepted xs layers)
    → (if b then all_accepted accepted xs else Err (engine_refusal.IncompatibleLayerMediaTypeError x.media_type)) ≡ Ok u → LayersLink accepted (x ∷ xs) (layer ∷ layers)
links_by accepted c x xs layer layers u true so h later rest = (record { named = h.named; media_type = h.media_type; annotations = h.annotations; allowed = rw h.media_type (accepted_in accepted x.media_type so) }, later rest)
links_by accepted c x xs layer layers u false so h later rest = absurd (cc rest)

links_of : (accepted : List (List ℕ)) (c : List Exchange) (xs : List OciDescriptor) (layers : List ImageLayer) (u : Unit) → all_accepted accepted xs ≡ Ok u → AreLayers c xs layers → LayersLink accepted xs layers
links_of accepted c [] [] u all h = tt
links_of accepted c [] (layer ∷ layers) u all h = h
links_of accepted c (x ∷ xs) [] u all h = h
links_of accepted c (x ∷ xs) (layer ∷ layers) u all h = links_by accepted c x xs layer layers u (is_accepted accepted x.media_type) refl h.0 (λ rest. links_of accepted c xs layers u rest h.1) all

some_layers : (accepted : List (List ℕ)) (c : List Exchange) (xs : List OciDescriptor) (layers : List ImageLayer) (u : Unit) → layers_accepted accepted xs ≡ Ok u → AreLayers c xs layers → (0 < length layers) × LayersLink accepted xs layers
some_layers accepted c [] layers u is h = absurd (cc is)
some_layers accepted c (x ∷ xs) [] u is h = absurd h
some_layers accepted c (x ∷ xs) (layer ∷ layers) u is h = (omega arith, links_of accepted c (x ∷ xs) (layer ∷ layers) u is h)

bodies_of : (c : List Exchange) (xs : List OciDescriptor) (layers : List ImageLayer) → AreLayers c xs layers → EachBody c layers
bodies_of c [] [] h = tt
bodies_of c [] (layer ∷ layers) h = absurd h
bodies_of c (x ∷ xs) [] h = absurd h
bodies_of c (x ∷ xs) (layer ∷ layers) h = ((h.0).body, bodies_of c xs layers h.1)

-- the digest of the requested reference names the document
digest_ok : {A : Type 0} (r : Result A DigestError) (a : A) → or_digest_error r ≡ Ok a → r ≡ Ok a
digest_ok (Ok x) a h = let same : x ≡ a = cc h in ap Ok same
digest_ok (Err e) a h = absurd (cc h)

by_algorithm : (text bytes u : List ℕ) (r : Result Algorithm DigestError) → and_then r (λ a. checked_by a bytes text) ≡ Ok u → Names text bytes
by_algorithm text bytes u (Err e) h = absurd (cc h)
by_algorithm text bytes u (Ok a) h = by_test (bytes_eq text (digest_text a bytes)) refl h where
  by_test : (b : Bool) → bytes_eq text (digest_text a bytes) ≡ b → (if b then Ok text else Err (digest_refusal.VerificationError text (digest_text a bytes))) ≡ Ok u → Names text bytes
  by_test true same h = (a, (bytes_eq-Decides text (digest_text a bytes)).0 same)
  by_test false same h = absurd (cc h)

asked_names : (o : Option (List ℕ)) (bytes : List ℕ) (u : Unit) → named_by_reference o bytes ≡ Ok u → (digest : List ℕ) → o ≡ Some digest → Names digest bytes
asked_names None bytes u is digest so = absurd (cc so)
asked_names (Some own) bytes u is digest so =
    let same : own ≡ digest = cc so in
    let parts = both (or_digest_error (checked bytes own)) (λ t. Ok tt) u is in
    rw (← same) (by_algorithm own bytes parts.0 (named_algorithm own) (digest_ok (checked bytes own) parts.0 parts.1))

-- ---- the blobs of a manifest

record HasBlobs (accepted : List (List ℕ)) (manifest : OciImageManifest) (c : List Exchange) (blobs : Config × List ImageLayer) : Type 0 where
  config : ConfigLinks manifest blobs.0
  some : 0 < length blobs.1
  layers : LayersLink accepted manifest.layers blobs.1
  config_body : Body c (blobs.0).content
  layer_bodies : EachBody c blobs.1

has_blobs : (accepted : List (List ℕ)) (manifest : OciImageManifest) (c d : List Exchange) (content : List ℕ) (layers : List ImageLayer) (u : Unit) → IsBlob manifest.config.digest c content → layers_accepted accepted manifest.layers ≡ Ok u → Behind manifest.layers [] d layers → HasBlobs accepted manifest (c ++ (d ++ [])) (config_of manifest content, layers)
has_blobs accepted manifest c d content layers u blob allowed behind =
    let some = some_layers accepted d manifest.layers behind.more u allowed behind.layers in
    let same : layers ≡ behind.more = behind.is in
    record {
      config = record { named = blob.1; media_type = refl; annotations = refl };
      some = rw same some.0;
      layers = rw same some.1;
      config_body = body_before (d ++ []) blob.0;
      layer_bodies = rw same (bodies_of (c ++ (d ++ [])) manifest.layers behind.more (layers_after c (d ++ []) manifest.layers behind.more (rw append-nil behind.layers)));
    }

blobs_show : (s : Context) (source : Reference) (accepted : List (List ℕ)) (manifest : OciImageManifest) → EveryRun (Seen (HasBlobs accepted manifest)) (blobs_row s source accepted manifest)
unfolding blobs_row
blobs_show s source accepted manifest =
    next_seen (IsBlob manifest.config.digest) (HasBlobs accepted manifest) (blob_call s source (described manifest.config)) _ (blob_call_shows s source (described manifest.config)) (λ c content blob.
    step_seen (λ d b. HasBlobs accepted manifest (c ++ d) b) (with_error_context Pull (whole_text source) (layers_accepted accepted manifest.layers)) _ (λ u allowed.
    next_seen (Behind manifest.layers []) (λ d b. HasBlobs accepted manifest (c ++ d) b) (layers_row s source manifest.layers []) _ (layers_show s source manifest.layers []) (λ d layers behind.
    done_seen (λ e b. HasBlobs accepted manifest (c ++ (d ++ e)) b) (config_of manifest content, layers)
    (has_blobs accepted manifest c d content layers u blob (worded_ok Pull (whole_text source) (layers_accepted accepted manifest.layers) u allowed) behind))))

-- also in a longer conversation
pub bodies_after : (c d : List Exchange) (layers : List ImageLayer) → EachBody d layers → EachBody (c ++ d) layers
bodies_after c d [] h = tt
bodies_after c d (layer ∷ layers) h = (body_after c h.0, bodies_after c d layers h.1)

-- ---- the manifest, which may be an entry's

-- a refused pull with another image's text has the same properties
with_seen : {A : Type 0} (P : List Exchange → A → Type 0) (text : List ℕ) (m n o : ℕ) (c : List Exchange) (r : Result A SigstoreError) → Seen P m c n r → Seen P m (c ++ []) o (with_image text r)
with_seen P text m n o c (Ok a) h = rw append-nil h
with_seen P text m n o c (Err (sigstore.OciReferenceNotValidError t)) h = tt
with_seen P text m n o c (Err (sigstore.RegistryFetchManifestError t e)) h = tt
with_seen P text m n o c (Err (sigstore.RegistryPullError t e)) h = tt
with_seen P text m n o c (Err (sigstore.RegistryPullManifestError t e)) h = tt
with_seen P text m n o c (Err (sigstore.RegistryPushError t e)) h = tt
with_seen P text m n o c (Err sigstore.WantOfMemory) h = tt

entry_call_shows : (s : Context) (source : Reference) (a : RegistryAuth) (entry : List ℕ) → EveryRun (Seen (IsDocument (entry_reference source entry))) (entry_call s source a entry)
unfolding entry_call
entry_call_shows s source a entry = EveryRun-bind (Seen (IsDocument (entry_reference source entry))) (Seen (IsDocument (entry_reference source entry))) (document_call s (entry_reference source entry) a manifest_types) (λ r. Done (with_image (whole_text source) r)) (document_call_shows s (entry_reference source entry) a manifest_types)
    (λ m n c r at. EveryRun-done (λ t d o b. Seen (IsDocument (entry_reference source entry)) m (c ++ d) o b) (with_image (whole_text source) r) (λ o. with_seen (IsDocument (entry_reference source entry)) (whole_text source) m n o c r at))

-- the manifest of an entry that the promise picks
record OfEntry (promise : Option ResolverPromise) (entries : List ImageIndexEntry) (p : PulledManifest) : Type 0 where
  entry : List ℕ
  is : p.entry ≡ Some entry
  found : entry_found promise entries ≡ Ok entry
  named : Names entry p.bytes
  reads : ReadsAs p.bytes p.manifest

record SeenEntry (promise : Option ResolverPromise) (entries : List ImageIndexEntry) (c : List Exchange) (p : PulledManifest) : Type 0 where
  of_entry : OfEntry promise entries p
  body : Body c p.bytes

entry_seen : (promise : Option ResolverPromise) (entries : List ImageIndexEntry) (source : Reference) (entry : List ℕ) (c d : List Exchange) (found : List ℕ × List ℕ) (manifest : OciImageManifest) → entry_found promise entries ≡ Ok entry → IsDocument (entry_reference source entry) c found → entry_in entry found.0 ≡ Ok manifest
    → SeenEntry promise entries (c ++ d) (record { bytes = found.0; manifest = manifest; entry = Some entry })
entry_seen promise entries source entry c d found manifest is document read =
    let parts = both (document_read found.0) (entry_manifest entry) manifest read in
    record {
      of_entry = record { entry = entry; is = refl; found = is; named = document.named entry refl; reads = subst (Reads found.0) (entry_is entry parts.0 manifest parts.2) (document_is found.0 parts.0 parts.1) };
      body = body_before d document.body;
    }

entry_shows : (s : Context) (source : Reference) (a : RegistryAuth) (entries : List ImageIndexEntry) → EveryRun (Seen (SeenEntry s.settings.platform_resolver entries)) (entry_row s source a entries)
unfolding entry_row
entry_shows s source a entries =
    step_seen (SeenEntry s.settings.platform_resolver entries) (with_error_context Pull (whole_text source) (entry_found s.settings.platform_resolver entries)) _ (λ entry found.
    next_seen (IsDocument (entry_reference source entry)) (SeenEntry s.settings.platform_resolver entries) (entry_call s source a entry) _ (entry_call_shows s source a entry) (λ c document at.
    step_seen (λ d p. SeenEntry s.settings.platform_resolver entries (c ++ d) p) (with_error_context Pull (whole_text source) (entry_in entry document.0)) _ (λ manifest read.
    done_seen (λ d p. SeenEntry s.settings.platform_resolver entries (c ++ d) p) (record { bytes = document.0; manifest = manifest; entry = Some entry })
    (entry_seen s.settings.platform_resolver entries source entry c [] document manifest (worded_ok Pull (whole_text source) (entry_found s.settings.platform_resolver entries) entry found) at (worded_ok Pull (whole_text source) (entry_in entry document.0) manifest read)))))

-- the manifest is the first document, or that of an entry that the promise picks
pub record IsFirst (first : List ℕ) (p : PulledManifest) : Type 0 where
  pub reads : ReadsAs first p.manifest
  pub bytes : p.bytes ≡ first
  pub none : p.entry ≡ None

pub record IsEntry (promise : ResolverPromise) (first : List ℕ) (p : PulledManifest) : Type 0 where
  pub index : OciImageIndex
  pub indexed : Reads first (ImageIndex index)
  pub entry : List ℕ
  pub is : p.entry ≡ Some entry
  pub picked : Picks promise index.manifests entry
  pub named : Names entry p.bytes
  pub reads : ReadsAs p.bytes p.manifest

abbrev pub Leads : Option ResolverPromise → List ℕ → PulledManifest → Type 0
Leads None first p = IsFirst first p
Leads (Some promise) first p = IsFirst first p ⊎ IsEntry promise first p

first_leads : (promise : Option ResolverPromise) (first : List ℕ) (p : PulledManifest) → IsFirst first p → Leads promise first p
first_leads None first p h = h
first_leads (Some promise) first p h = inl h

entry_leads : (promise : Option ResolverPromise) (first : List ℕ) (index : OciImageIndex) (p : PulledManifest) → Reads first (ImageIndex index) → OfEntry promise index.manifests p → Leads promise first p
entry_leads None first index p indexed h = absurd (unresolved h.found) where
  unresolved : entry_found None index.manifests ≡ Ok h.entry → ⊥
  unresolved is = cc is
entry_leads (Some promise) first index p indexed h = inr (record { index = index; indexed = indexed; entry = h.entry; is = h.is; picked = found_picked promise index.manifests h.entry h.found; named = h.named; reads = h.reads })

-- from a first document that was the body of an answer
record HasManifest (promise : Option ResolverPromise) (first : List ℕ) (c : List Exchange) (p : PulledManifest) : Type 0 where
  leads : Leads promise first p
  bytes : (p.bytes ≡ first) ⊎ Body c p.bytes

manifest_shows : (s : Context) (source : Reference) (a : RegistryAuth) (first : List ℕ) (document : OciManifest) → document_read first ≡ Ok document → EveryRun (Seen (HasManifest s.settings.platform_resolver first)) (manifest_row s source a first document)
manifest_shows s source a first (Image manifest) is = done_seen (HasManifest s.settings.platform_resolver first) (record { bytes = first; manifest = manifest; entry = None })
    (record { leads = first_leads s.settings.platform_resolver first (record { bytes = first; manifest = manifest; entry = None }) (record { reads = document_is first (Image manifest) is; bytes = refl; none = refl }); bytes = inl refl })
manifest_shows s source a first (ImageIndex index) is = more_seen (SeenEntry s.settings.platform_resolver index.manifests) (HasManifest s.settings.platform_resolver first) (entry_row s source a index.manifests) (entry_shows s source a index.manifests)
    (λ c p h. record { leads = entry_leads s.settings.platform_resolver first index p (document_is first (ImageIndex index) is) h.of_entry; bytes = inr h.body })

-- an image whose parts are linked
pub record Links (promise : Option ResolverPromise) (image : Reference) (digest : List ℕ) (accepted : List (List ℕ)) (c : List Exchange) (p : Pulled) : Type 0 where
  pub named : Names digest p.first
  pub asked : (own : List ℕ) → digest_of image ≡ Some own → Names own p.first
  pub leads : Leads promise p.first p.chosen
  pub config : ConfigLinks p.chosen.manifest p.config
  pub some : 0 < length p.layers
  pub layers : LayersLink accepted p.chosen.manifest.layers p.layers
  pub first_body : Body c p.first
  pub manifest_body : Body c p.chosen.bytes
  pub config_body : Body c p.config.content
  pub layer_bodies : EachBody c p.layers

-- the manifest's bytes are a body, as the first document's are
manifest_body : (first bytes : List ℕ) (c d e : List Exchange) → Body c first → (bytes ≡ first) ⊎ Body d bytes → Body (c ++ (d ++ e)) bytes
manifest_body first bytes c d e body (inl same) = subst (Body (c ++ (d ++ e))) (sym same) (body_before (d ++ e) body)
manifest_body first bytes c d e body (inr own) = body_after c (body_before e own)

abbrev Linked : Context → Reference → List ℕ → List (List ℕ) → List Exchange → Pulled → Type 0
Linked s image digest accepted = Links s.settings.platform_resolver image digest accepted

pub image_shows : (s : Context) (image source : Reference) (digest : List ℕ) (a : RegistryAuth) (accepted : List (List ℕ)) → digest_of source ≡ Some digest → EveryRun (Seen (Links s.settings.platform_resolver image digest accepted)) (image_row s image source a accepted)
unfolding image_row
image_shows s image source digest a accepted is = next_seen (IsDocument source) (Linked s image digest accepted) (document_call s source a manifest_types) _ (document_call_shows s source a manifest_types) (λ c found document.
    step_seen (λ d p. Linked s image digest accepted (c ++ d) p) (with_error_context Pull (whole_text source) (document_in image found.0)) _ (λ read worded_read.
    let asked = both (named_by_reference (digest_of image) found.0) (λ u. document_read found.0) read (worded_ok Pull (whole_text source) (document_in image found.0) read worded_read) in
    next_seen (HasManifest s.settings.platform_resolver found.0) (λ d p. Linked s image digest accepted (c ++ d) p) (manifest_row s source a found.0 read) _ (manifest_shows s source a found.0 read asked.2) (λ d chosen has.
    next_seen (HasBlobs accepted chosen.manifest) (λ e p. Linked s image digest accepted (c ++ (d ++ e)) p) (blobs_row s source accepted chosen.manifest) _ (blobs_show s source accepted chosen.manifest) (λ e blobs got.
    done_seen (λ f p. Linked s image digest accepted (c ++ (d ++ (e ++ f))) p) (record { first = found.0; chosen = chosen; config = blobs.0; layers = blobs.1 })
    (linked c d e found.0 chosen blobs asked.0 document.body (document.named digest is) asked.1 has got))))) where
      linked : (c d e : List Exchange) (first : List ℕ) (chosen : PulledManifest) (blobs : Config × List ImageLayer) (u : Unit) → Body c first → Names digest first → named_by_reference (digest_of image) first ≡ Ok u → HasManifest s.settings.platform_resolver first d chosen → HasBlobs accepted chosen.manifest e blobs
          → Links s.settings.platform_resolver image digest accepted (c ++ (d ++ (e ++ []))) (record { first = first; chosen = chosen; config = blobs.0; layers = blobs.1 })
      linked c d e first chosen blobs u body named asked has got = record {
        named = named;
        asked = asked_names (digest_of image) first u asked;
        leads = has.leads;
        config = got.config;
        some = got.some;
        layers = got.layers;
        first_body = body_before (d ++ (e ++ [])) body;
        manifest_body = manifest_body first chosen.bytes c d (e ++ []) body has.bytes;
        config_body = body_after c (body_after d (body_before [] got.config_body));
        layer_bodies = bodies_after c (d ++ (e ++ [])) blobs.1 (bodies_after d (e ++ []) blobs.1 (rw append-nil got.layer_bodies));
      }
