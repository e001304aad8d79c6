-- Properties of each complete run of the pull of documents that a digest names.
use Rattle.std.proofs.Common.{◌≡◌, ◌⊎◌, inl, inr, ℕ, Bool, true, false, List, [], ◌++◌, Option, Some, None, Result, Ok, Err, refl, sym, ap, subst, append-nil}
use Rattle.std.specs.Prelude.{if◌then◌else◌, bytes_eq}
use Rattle.std.proofs.lemmas.Slice.Eq.{bytes_eq-Decides}
use Rattle.oci_names.specs.declared.reference.Reference.{Reference}
use Rattle.oci_names.specs.Reference.{digest_of, whole_text}
use Rattle.oci_auth.specs.declared.auth.RegistryAuth.{RegistryAuth}
use Rattle.oci_digests.specs.Names.{Names, digest_text}
use Rattle.oci_digests.specs.Checks.{checked, checked_by, and_then}
use Rattle.oci_digests.specs.Checks.{named_algorithm}
use Rattle.oci_names.specs.declared.algorithm.Algorithm.{Algorithm}
use Rattle.oci_digests.specs.declared.error.DigestError.{DigestError}
use Rattle.oci_digests.specs.declared.error.DigestError.TheVariants as digest_refusal
use Rattle.oci_manifests.specs.declared.document.OciManifest.{OciManifest}
use Rattle.oci_manifests.specs.declared.document.OciManifest.TheVariants.{Image, ImageIndex}
use Rattle.oci_manifests.specs.declared.manifest.OciImageManifest.{OciImageManifest}
use Rattle.oci_manifests.specs.declared.index.OciImageIndex.{OciImageIndex}
use Rattle.oci_manifests.specs.declared.index_entry.ImageIndexEntry.{ImageIndexEntry}
use Rattle.oci_transport.specs.declared.message.Exchange.{Exchange}
use Rattle.oci_protocol.specs.Proto.{Done}
use Rattle.oci_protocol.specs.EveryRun.{EveryRun}
use Rattle.oci_protocol.proofs.WiderMemory.{EveryRun-lifted}
use Rattle.oci_protocol.proofs.RunFacts.{EveryRun-done, EveryRun-bind}
use Rattle.engine_terms.specs.Contexts.{Context}
use Rattle.engine_terms.specs.declared.error.OciDistributionError.{OciDistributionError}
use Rattle.engine_terms.specs.Error.{is_memory as engine_is_memory}
use Rattle.engine_answers.specs.Answers.{or_digest_error}
use Rattle.engine_requests.specs.Requests.{manifest_types}
use Rattle.engine_answers.specs.Documents.{document_read}
use Rattle.engine_answers.specs.Index.{entry_found, entry_manifest, entry_reference}
use Rattle.oci_manifests.specs.declared.promise.ResolverPromise.{ResolverPromise}
use Rattle.engine_rows.specs.Rows.{Row as Engine}
use Rattle.engine_rows.specs.Pulls.{pull_manifest_raw}
use Rattle.engine_rows.specs.Answered.{Body, Document}
use Rattle.request_laws.proofs.DocumentAnswers.{body_before, body_after, raw_shows}
use Rattle.registry_calls.specs.declared.error.SigstoreError.{SigstoreError}
use Rattle.registry_calls.specs.declared.error.SigstoreError.TheVariants as sigstore
use Rattle.registry_calls.specs.declared.error_context.Called.{Called}
use Rattle.registry_calls.specs.declared.error_context.Called.TheVariants.{Pull}
use Rattle.registry_calls.specs.ErrorContext.{with_error_context, refusal}
use Rattle.registry_calls.specs.Calls.{in_words, document_made, document_call}
use Rattle.cosign_rows.specs.declared.pulled.PulledManifest.{PulledManifest}
use Rattle.cosign_laws.proofs.Entries.{found_picked}
use Rattle.cosign_rows.specs.Image.{named_by_reference, document_in, entry_in, with_image, entry_call, entry_row, manifest_row}
use Rattle.cosign_chain.specs.Chain.{IsDocument as Reads, ReadsAs}
use Rattle.cosign_laws.proofs.DocumentTexts.{both, document_is, entry_is}
use Rattle.cosign_laws.proofs.Images.{Seen, next_seen, step_seen, done_seen, more_seen, IsFirst, Leads}
use Rattle.cosign_rows.specs.Rows.{image_documents}
use Rattle.cosign_rows.specs.declared.pulled_documents.PulledDocuments.{PulledDocuments}

-- ---- calls with context

worded_seen : {A : Type 0} (P : List Exchange → A → Type 0) (called : Called) (text : List ℕ) (m n o : ℕ) (c : List Exchange) (r : Result A OciDistributionError) → Seen P m c n r → Seen P m (c ++ []) o (with_error_context called text r)
worded_seen P called text m n o c (Ok a) h = rw append-nil h
worded_seen {A} P called text m n o c (Err e) h = by_memory (engine_is_memory e) where
  by_memory : (b : Bool) → Seen {A = A} {E = SigstoreError} P m (c ++ []) o (if b then Err sigstore.WantOfMemory else Err (refusal called text e))
  by_memory true = tt
  by_memory false = tt

-- a call with context has the properties of the engine's call
words_show : {A : Type 0} (P : List Exchange → A → Type 0) (called : Called) (image : Reference) (p : Engine A) → EveryRun (Seen P) p → EveryRun (Seen P) (in_words called image p)
unfolding in_words
words_show P called image p h = EveryRun-bind (Seen P) (Seen P) p (λ r. Done (with_error_context called (whole_text image) r)) h
    (λ m n c r at. EveryRun-done (λ s d o b. Seen P m (c ++ d) o b) (with_error_context called (whole_text image) r) (λ o. worded_seen P called (whole_text image) m n o c r at))

-- a document of this image
abbrev IsDocument : Reference → List Exchange → List ℕ × List ℕ → Type 0
IsDocument image c found = Document image c found.0 found.1

document_call_shows : (s : Context) (image : Reference) (a : RegistryAuth) (types : List ℕ) → EveryRun (Seen (IsDocument image)) (document_call s image a types)
unfolding document_call document_made
document_call_shows s image a types = EveryRun-lifted (Seen (IsDocument image)) (document_made s image a types) (words_show (IsDocument image) Pull image (pull_manifest_raw s image a types) (raw_shows s image a types))

-- a step with context that succeeded
worded_ok : {A : Type 0} (called : Called) (text : List ℕ) (r : Result A OciDistributionError) (a : A) → with_error_context called text r ≡ Ok a → r ≡ Ok a
worded_ok called text (Ok x) a is = let same : x ≡ a = cc is in ap Ok same
worded_ok {A} called text (Err e) a is = by_memory (engine_is_memory e) is where
  by_memory : (b : Bool) → (if b then Err sigstore.WantOfMemory else Err (refusal called text e)) ≡ Ok a → (let r : Result A OciDistributionError = Err e in r) ≡ Ok a
  by_memory true h = absurd (cc h)
  by_memory false h = absurd (cc h)

-- ---- the requested reference

-- the digest of the requested reference names the document
digest_ok : {A : Type 0} (r : Result A DigestError) (a : A) → or_digest_error r ≡ Ok a → r ≡ Ok a
digest_ok (Ok x) a h = let same : x ≡ a = cc h in ap Ok same
digest_ok (Err e) a h = absurd (cc h)

by_algorithm : (text bytes u : List ℕ) (r : Result Algorithm DigestError) → and_then r (λ a. checked_by a bytes text) ≡ Ok u → Names text bytes
by_algorithm text bytes u (Err e) h = absurd (cc h)
by_algorithm text bytes u (Ok a) h = by_test (bytes_eq text (digest_text a bytes)) refl h where
  by_test : (b : Bool) → bytes_eq text (digest_text a bytes) ≡ b → (if b then Ok text else Err (digest_refusal.VerificationError text (digest_text a bytes))) ≡ Ok u → Names text bytes
  by_test true same h = (a, (bytes_eq-Decides text (digest_text a bytes)).0 same)
  by_test false same h = absurd (cc h)

asked_names : (o : Option (List ℕ)) (bytes : List ℕ) (u : Unit) → named_by_reference o bytes ≡ Ok u → (digest : List ℕ) → o ≡ Some digest → Names digest bytes
asked_names None bytes u is digest so = absurd (cc so)
asked_names (Some own) bytes u is digest so =
    let same : own ≡ digest = cc so in
    let parts = both (or_digest_error (checked bytes own)) (λ t. Ok tt) u is in
    rw (← same) (by_algorithm own bytes parts.0 (named_algorithm own) (digest_ok (checked bytes own) parts.0 parts.1))

-- ---- the manifest, which may be an entry's

-- a refused pull with another image's text has the same properties
with_seen : {A : Type 0} (P : List Exchange → A → Type 0) (text : List ℕ) (m n o : ℕ) (c : List Exchange) (r : Result A SigstoreError) → Seen P m c n r → Seen P m (c ++ []) o (with_image text r)
with_seen P text m n o c (Ok a) h = rw append-nil h
with_seen P text m n o c (Err (sigstore.OciReferenceNotValidError t)) h = tt
with_seen P text m n o c (Err (sigstore.RegistryFetchManifestError t e)) h = tt
with_seen P text m n o c (Err (sigstore.RegistryPullError t e)) h = tt
with_seen P text m n o c (Err (sigstore.RegistryPullManifestError t e)) h = tt
with_seen P text m n o c (Err (sigstore.RegistryPushError t e)) h = tt
with_seen P text m n o c (Err sigstore.WantOfMemory) h = tt

entry_call_shows : (s : Context) (source : Reference) (a : RegistryAuth) (entry : List ℕ) → EveryRun (Seen (IsDocument (entry_reference source entry))) (entry_call s source a entry)
unfolding entry_call
entry_call_shows s source a entry = EveryRun-bind (Seen (IsDocument (entry_reference source entry))) (Seen (IsDocument (entry_reference source entry))) (document_call s (entry_reference source entry) a manifest_types) (λ r. Done (with_image (whole_text source) r)) (document_call_shows s (entry_reference source entry) a manifest_types)
    (λ m n c r at. EveryRun-done (λ t d o b. Seen (IsDocument (entry_reference source entry)) m (c ++ d) o b) (with_image (whole_text source) r) (λ o. with_seen (IsDocument (entry_reference source entry)) (whole_text source) m n o c r at))

-- the manifest of an entry that the promise picks
record OfEntry (promise : Option ResolverPromise) (entries : List ImageIndexEntry) (p : PulledManifest) : Type 0 where
  entry : List ℕ
  is : p.entry ≡ Some entry
  found : entry_found promise entries ≡ Ok entry
  named : Names entry p.bytes
  reads : ReadsAs p.bytes p.manifest

record SeenEntry (promise : Option ResolverPromise) (entries : List ImageIndexEntry) (c : List Exchange) (p : PulledManifest) : Type 0 where
  of_entry : OfEntry promise entries p
  body : Body c p.bytes

entry_seen : (promise : Option ResolverPromise) (entries : List ImageIndexEntry) (source : Reference) (entry : List ℕ) (c d : List Exchange) (found : List ℕ × List ℕ) (manifest : OciImageManifest) → entry_found promise entries ≡ Ok entry → IsDocument (entry_reference source entry) c found → entry_in entry found.0 ≡ Ok manifest
    → SeenEntry promise entries (c ++ d) (record { bytes = found.0; manifest = manifest; entry = Some entry })
entry_seen promise entries source entry c d found manifest is document read =
    let parts = both (document_read found.0) (entry_manifest entry) manifest read in
    record {
      of_entry = record { entry = entry; is = refl; found = is; named = document.named entry refl; reads = subst (Reads found.0) (entry_is entry parts.0 manifest parts.2) (document_is found.0 parts.0 parts.1) };
      body = body_before d document.body;
    }

entry_shows : (s : Context) (source : Reference) (a : RegistryAuth) (entries : List ImageIndexEntry) → EveryRun (Seen (SeenEntry s.settings.platform_resolver entries)) (entry_row s source a entries)
unfolding entry_row
entry_shows s source a entries =
    step_seen (SeenEntry s.settings.platform_resolver entries) (with_error_context Pull (whole_text source) (entry_found s.settings.platform_resolver entries)) _ (λ entry found.
    next_seen (IsDocument (entry_reference source entry)) (SeenEntry s.settings.platform_resolver entries) (entry_call s source a entry) _ (entry_call_shows s source a entry) (λ c document at.
    step_seen (λ d p. SeenEntry s.settings.platform_resolver entries (c ++ d) p) (with_error_context Pull (whole_text source) (entry_in entry document.0)) _ (λ manifest read.
    done_seen (λ d p. SeenEntry s.settings.platform_resolver entries (c ++ d) p) (record { bytes = document.0; manifest = manifest; entry = Some entry })
    (entry_seen s.settings.platform_resolver entries source entry c [] document manifest (worded_ok Pull (whole_text source) (entry_found s.settings.platform_resolver entries) entry found) at (worded_ok Pull (whole_text source) (entry_in entry document.0) manifest read)))))

first_leads : (promise : Option ResolverPromise) (first : List ℕ) (p : PulledManifest) → IsFirst first p → Leads promise first p
first_leads None first p h = h
first_leads (Some promise) first p h = inl h

entry_leads : (promise : Option ResolverPromise) (first : List ℕ) (index : OciImageIndex) (p : PulledManifest) → Reads first (ImageIndex index) → OfEntry promise index.manifests p → Leads promise first p
entry_leads None first index p indexed h = absurd (unresolved h.found) where
  unresolved : entry_found None index.manifests ≡ Ok h.entry → ⊥
  unresolved is = cc is
entry_leads (Some promise) first index p indexed h = inr (record { index = index; indexed = indexed; entry = h.entry; is = h.is; picked = found_picked promise index.manifests h.entry h.found; named = h.named; reads = h.reads })

-- from a first document that was the body of an answer
record HasManifest (promise : Option ResolverPromise) (first : List ℕ) (c : List Exchange) (p : PulledManifest) : Type 0 where
  leads : Leads promise first p
  bytes : (p.bytes ≡ first) ⊎ Body c p.bytes

manifest_shows : (s : Context) (source : Reference) (a : RegistryAuth) (first : List ℕ) (document : OciManifest) → document_read first ≡ Ok document → EveryRun (Seen (HasManifest s.settings.platform_resolver first)) (manifest_row s source a first document)
manifest_shows s source a first (Image manifest) is = done_seen (HasManifest s.settings.platform_resolver first) (record { bytes = first; manifest = manifest; entry = None })
    (record { leads = first_leads s.settings.platform_resolver first (record { bytes = first; manifest = manifest; entry = None }) (record { reads = document_is first (Image manifest) is; bytes = refl; none = refl }); bytes = inl refl })
manifest_shows s source a first (ImageIndex index) is = more_seen (SeenEntry s.settings.platform_resolver index.manifests) (HasManifest s.settings.platform_resolver first) (entry_row s source a index.manifests) (entry_shows s source a index.manifests)
    (λ c p h. record { leads = entry_leads s.settings.platform_resolver first index p (document_is first (ImageIndex index) is) h.of_entry; bytes = inr h.body })

-- the manifest's bytes are a body, as the first document's are
manifest_body : (first bytes : List ℕ) (c d e : List Exchange) → Body c first → (bytes ≡ first) ⊎ Body d bytes → Body (c ++ (d ++ e)) bytes
manifest_body first bytes c d e body (inl same) = subst (Body (c ++ (d ++ e))) (sym same) (body_before (d ++ e) body)
manifest_body first bytes c d e body (inr own) = body_after c (body_before e own)

-- ---- the documents

-- what was pulled for a digest is named by it, and leads to its manifest
pub record HasDocuments (promise : Option ResolverPromise) (image : Reference) (digest : List ℕ) (c : List Exchange) (p : PulledDocuments) : Type 0 where
  pub named : Names digest p.first
  pub asked : (own : List ℕ) → digest_of image ≡ Some own → Names own p.first
  pub leads : Leads promise p.first p.chosen
  pub first_body : Body c p.first
  pub manifest_body : Body c p.chosen.bytes

abbrev Has : Context → Reference → List ℕ → List Exchange → PulledDocuments → Type 0
Has s image digest = HasDocuments s.settings.platform_resolver image digest

pub documents_show : (s : Context) (image source : Reference) (digest : List ℕ) (a : RegistryAuth) → digest_of source ≡ Some digest → EveryRun (Seen (HasDocuments s.settings.platform_resolver image digest)) (image_documents s image source a)
unfolding image_documents
documents_show s image source digest a is = next_seen (IsDocument source) (Has s image digest) (document_call s source a manifest_types) _ (document_call_shows s source a manifest_types) (λ c found document.
    step_seen (λ d p. Has s image digest (c ++ d) p) (with_error_context Pull (whole_text source) (document_in image found.0)) _ (λ read worded_read.
    let asked = both (named_by_reference (digest_of image) found.0) (λ u. document_read found.0) read (worded_ok Pull (whole_text source) (document_in image found.0) read worded_read) in
    next_seen (HasManifest s.settings.platform_resolver found.0) (λ d p. Has s image digest (c ++ d) p) (manifest_row s source a found.0 read) _ (manifest_shows s source a found.0 read asked.2) (λ d chosen has.
    done_seen (λ e p. Has s image digest (c ++ (d ++ e)) p) (record { first = found.0; chosen = chosen })
    (record {
      named = document.named digest is;
      asked = asked_names (digest_of image) found.0 asked.0 asked.1;
      leads = has.leads;
      first_body = body_before (d ++ []) document.body;
      manifest_body = manifest_body found.0 chosen.bytes c d [] document.body has.bytes;
    }))))
