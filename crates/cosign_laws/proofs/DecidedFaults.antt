-- The second part returns a fault of the transport only if its fault count increased, and no fault of a sink.
use Rattle.std.proofs.Common.{◌≡◌, ◌≤◌, ℕ, Bool, true, false, List, Option, Some, None, Result, Ok, Err, refl, sym, ap, subst, ◌∙◌, arith}
use Rattle.std.specs.Prelude.{if◌then◌else◌, find, MatchBool, pos}
use Rattle.std.specs.Ordering.{int_eq}
use Rattle.json_values.specs.Counts.{Increased}
use Rattle.json_values.specs.JsonText.{json_of}
use Rattle.json_values.specs.Refusals.{◌>>=◌ as ◌before◌}
use Rattle.oci_names.specs.declared.reference.Reference.{Reference}
use Rattle.oci_names.specs.Reference.{digest_of, whole_text}
use Rattle.oci_auth.specs.declared.auth.RegistryAuth.{RegistryAuth}
use Rattle.oci_auth.specs.declared.auth_state.AuthState.{AuthState}
use Rattle.oci_digests.specs.Checks.{checked}
use Rattle.oci_digests.specs.declared.error.DigestError.{DigestError}
use Rattle.oci_manifests.specs.Types.{is_manifest_type}
use Rattle.oci_manifests.specs.Document.{document_of}
use Rattle.oci_manifests.specs.declared.versioned.Versioned.{Versioned}
use Rattle.oci_manifests.specs.declared.document.OciManifest.{OciManifest}
use Rattle.oci_manifests.specs.declared.document.OciManifest.TheVariants.{Image, ImageIndex}
use Rattle.oci_manifests.specs.Promise.{lists, resolved}
use Rattle.oci_manifests.specs.declared.index_entry.ImageIndexEntry.{ImageIndexEntry}
use Rattle.oci_manifests.specs.declared.promise.ResolverPromise.{ResolverPromise}
use Rattle.oci_transport.specs.Link.{Link}
use Rattle.oci_transport.specs.declared.message.Exchange.{Exchange}
use Rattle.oci_protocol.specs.Proto.{Proto, Done, unless_refused, ◌>>=◌}
use Rattle.oci_protocol.specs.Runs.{Runs, Meets}
use Rattle.oci_protocol.proofs.Laws.{Runs-count}
use Rattle.engine_answers.specs.Answers.{or_digest_error}
use Rattle.engine_answers.specs.Documents.{plain_of, type_checked, version_checked, versioned_in, or_unread, reads_twice, tables_read, document_read}
use Rattle.engine_answers.specs.Index.{entry_named, entry_found, entry_manifest, entry_reference}
use Rattle.engine_laws.proofs.CallCauses.{raw_fault}
use Rattle.engine_requests.specs.Requests.{manifest_types}
use Rattle.engine_rows.specs.Causes.{Act, AnswerCause, ManifestUrl, OwnDigest}
use Rattle.engine_rows.specs.Pulls.{pull_manifest_raw}
use Rattle.engine_terms.specs.Contexts.{Context}
use Rattle.engine_terms.specs.Error.{is_memory as engine_is_memory}
use Rattle.engine_terms.specs.declared.error.OciDistributionError.{OciDistributionError}
use Rattle.engine_terms.specs.declared.error.OciDistributionError.TheVariants as engine_refusal
use Rattle.engine_terms.specs.declared.settings.Settings.{Settings}
use Rattle.request_laws.proofs.DocumentCauses.{raw_causes}
use Rattle.request_laws.proofs.EarlyCauses.{Loose}
use Rattle.registry_calls.specs.Calls.{in_words, document_made, document_call}
use Rattle.registry_calls.specs.Clients.{Kept, Row}
use Rattle.registry_calls.specs.Error.{registry_refusal, FaultCounted, NoSinkFault}
use Rattle.registry_calls.specs.ErrorContext.{with_error_context}
use Rattle.registry_calls.specs.declared.error.SigstoreError.{SigstoreError}
use Rattle.registry_calls.specs.declared.error.SigstoreError.TheVariants as sigstore
use Rattle.registry_calls.specs.declared.error_context.Called.TheVariants.{Pull}
use Rattle.cosign_layers.specs.Satisfying.{PolicyContext}
use Rattle.cosign_parts.specs.declared.layer.SignatureLayer.{SignatureLayer}
use Rattle.cosign_chain.specs.declared.verified_documents.VerifiedDocuments.{VerifiedDocuments}
use Rattle.cosign_rows.specs.Image.{named_by_reference, document_in, entry_in, with_image, entry_call, entry_row, manifest_row}
use Rattle.cosign_rows.specs.References.{digest_reference}
use Rattle.cosign_rows.specs.Refusal.{is_memory, refused_as, client_refusal}
use Rattle.cosign_rows.specs.Skips.{is_engine_fault}
use Rattle.cosign_rows.specs.Verified.{constrained, is_unconstrained, as_whole, part_of, stands_by, signed_digest, standing}
use Rattle.cosign_rows.specs.declared.found.TrustedLayers.{TrustedLayers}
use Rattle.cosign_rows.specs.declared.refusal.PullRefusal.{PullRefusal}
use Rattle.cosign_rows.specs.declared.refusal.PullRefusal.TheVariants as refusal
use Rattle.cosign_laws.proofs.Counts.{Counts, Counts-done, Counts-more, Counts-bind, Counts-lifted, Meets-counts}
use Rattle.cosign_laws.proofs.Faults.{fault_of}
use Rattle.cosign_rows.specs.Again.{read_again}
use Rattle.cosign_rows.specs.Rows.{image_documents, documents_after, decided}

-- ---- what a result shows of the fault counts before and after it

-- an error that holds a fault of the transport shows that the count increased, and none holds a fault of a sink
record Rises {X : Type 0} (held : X → Option OciDistributionError) (m n : ℕ) (e : X) : Type 0 where
  falls : m ≤ n
  fault : held e ≡ Some engine_refusal.TransportFault → Increased m n
  no_sink : held e ≡ Some engine_refusal.SinkFault → ⊥

abbrev Rising : {A X : Type 0} → (X → Option OciDistributionError) → ℕ → ℕ → Result A X → Type 0
Rising held m n (Ok a) = m ≤ n
Rising held m n (Err e) = Rises held m n e

later : {A X : Type 0} (held : X → Option OciDistributionError) (m n o : ℕ) (r : Result A X) → m ≤ n → Rising held n o r → Rising held m o r
later held m n o (Ok a) le h = omega (arith, le, h)
later held m n o (Err e) le h = record { falls = omega (arith, le, h.falls); fault = λ is. let rose : Increased n o = h.fault is in omega (arith, le, rose); no_sink = h.no_sink }

next : {K A B X : Type 0} (held : X → Option OciDistributionError) (p : Proto K (Result A X)) (f : A → Proto K (Result B X)) → Counts (Rising held) p → ((a : A) → Counts (Rising held) (f a)) → Counts (Rising held) (p >>= f)
next {K} {A} {B} {X} held p f h each = Counts-bind (Rising held) (Rising held) p (unless_refused f) h leads where
  leads : (m n : ℕ) (r : Result A X) → Rising held m n r → Counts (λ t q b. t ≡ n → Rising held m q b) (unless_refused f r)
  leads m n (Ok a) at = Counts-more (Rising held) (λ t q b. t ≡ n → Rising held m q b) (f a) (each a) (λ t q b h same. later held m t q b (rw same at) h)
  leads m n (Err e) at = Counts-done (λ t q b. t ≡ n → Rising held m q b) (Err e) (λ q same. rw same at)

answered : {A X : Type 0} (held : X → Option OciDistributionError) (a : A) → Counts {K = Kept} {A = Result A X} (Rising held) (Done (Ok a))
answered held a = Counts-done (Rising held) (Ok a) (λ m. omega arith)

-- an error that holds no error of the registry's client
unheld : {X : Type 0} (held : X → Option OciDistributionError) (m : ℕ) (e : X) → held e ≡ None → Rises held m m e
unheld held m e none = record { falls = omega arith; fault = λ is. absurd (cc (sym none ∙ is)); no_sink = λ is. cc (sym none ∙ is) }

-- ---- one document

-- an error of the registry's client holds itself
abbrev own : OciDistributionError → Option OciDistributionError
own e = Some e

no_sink_cause : (T : Act → Type 0) (Given : List ℕ → Type 0) (s : Settings) (types : List ℕ) (c : List Exchange) (n : ℕ) → Loose T (AnswerCause Given) s types c n engine_refusal.SinkFault → ⊥
no_sink_cause T Given s types c n h = absurd h.holds

raw_rises : (s : Context) (image : Reference) (a : RegistryAuth) (types : List ℕ) → Counts (Rising own) (pull_manifest_raw s image a types)
raw_rises s image a types = record { counts = λ k l m n c r run. by_result k l m n c r run } where
  sinking : (k l : AuthState) (m n : ℕ) (c : List Exchange) → Runs (pull_manifest_raw s image a types) k m c n l (Err engine_refusal.SinkFault) → ⊥
  sinking k l m n c run = no_sink_cause (ManifestUrl s.settings image) (OwnDigest image) s.settings types c n ((raw_causes s image a types).shows k l m n c (Err engine_refusal.SinkFault) run)

  by_result : (k l : AuthState) (m n : ℕ) (c : List Exchange) (r : Result (List ℕ × List ℕ) OciDistributionError) → Runs (pull_manifest_raw s image a types) k m c n l r → Rising own m n r
  by_result k l m n c (Ok found) run = Runs-count (pull_manifest_raw s image a types) k l m n c (Ok found) run
  by_result k l m n c (Err e) run = record {
    falls = Runs-count (pull_manifest_raw s image a types) k l m n c (Err e) run;
    fault = λ is. let same : e ≡ engine_refusal.TransportFault = cc is in fault_of (pull_manifest_raw s image a types) k l m n c e run (λ old new met. raw_fault s image a types met refl) (ap is_engine_fault same);
    no_sink = λ is. let same : e ≡ engine_refusal.SinkFault = cc is in sinking k l m n c (subst (λ (x : OciDistributionError). Runs (pull_manifest_raw s image a types) k m c n l (Err x)) same run);
  }

worded : {A : Type 0} (text : List ℕ) (m n : ℕ) (r : Result A OciDistributionError) → Rising own m n r → Rising registry_refusal m n (with_error_context Pull text r)
worded text m n (Ok a) h = h
worded {A} text m n (Err e) h = by_memory (engine_is_memory e) where
  by_memory : (b : Bool) → Rising {A = A} registry_refusal m n (if b then Err sigstore.WantOfMemory else Err (sigstore.RegistryPullError text e))
  by_memory true = record { falls = h.falls; fault = λ is. absurd (cc is); no_sink = λ is. cc is }
  by_memory false = record { falls = h.falls; fault = h.fault; no_sink = h.no_sink }

document_rises : (s : Context) (image : Reference) (a : RegistryAuth) (types : List ℕ) → Counts (Rising registry_refusal) (document_call s image a types)
unfolding document_call document_made in_words
document_rises s image a types = Counts-lifted (Rising registry_refusal) (document_made s image a types)
    (Counts-bind (Rising own) (Rising registry_refusal) (pull_manifest_raw s image a types) (λ r. Done (with_error_context Pull (whole_text image) r)) (raw_rises s image a types)
    (λ m n r at. Counts-done (λ start o b. start ≡ n → Rising registry_refusal m o b) (with_error_context Pull (whole_text image) r) (λ o same. rw same (worded (whole_text image) m n r at))))

-- ---- steps without a request

-- the error is about what was read
abbrev IsOfBytes : OciDistributionError → Type 0
IsOfBytes engine_refusal.TransportFault = ⊥
IsOfBytes engine_refusal.SinkFault = ⊥
IsOfBytes _ = Unit {0}

abbrev OfBytes : {A : Type 0} → Result A OciDistributionError → Type 0
OfBytes (Ok a) = Unit {0}
OfBytes (Err e) = IsOfBytes e

still : {A : Type 0} (m : ℕ) (r : Result A OciDistributionError) → OfBytes r → Rising own m m r
still m (Ok a) h = omega arith
still m (Err e) h = record {
  falls = omega arith;
  fault = λ is. let same : e ≡ engine_refusal.TransportFault = cc is in absurd (subst IsOfBytes same h);
  no_sink = λ is. let same : e ≡ engine_refusal.SinkFault = cc is in subst IsOfBytes same h;
}

said : {A : Type 0} (text : List ℕ) (r : Result A OciDistributionError) → OfBytes r → Counts {K = Kept} (Rising registry_refusal) (Done (with_error_context Pull text r))
said text r h = Counts-done (Rising registry_refusal) (with_error_context Pull text r) (λ m. worded text m m r (still m r h))

before_bytes : {A B : Type 0} (r : Result A OciDistributionError) (f : A → Result B OciDistributionError) → OfBytes r → ((a : A) → OfBytes (f a)) → OfBytes (r before f)
before_bytes (Ok a) f h each = each a
before_bytes (Err e) f h each = h

digest_bytes : {A : Type 0} (r : Result A DigestError) → OfBytes (or_digest_error r)
digest_bytes (Ok a) = tt
digest_bytes (Err e) = tt

asked_bytes : (o : Option (List ℕ)) (body : List ℕ) → OfBytes (named_by_reference o body)
asked_bytes None body = tt
asked_bytes (Some digest) body = before_bytes (or_digest_error (checked body digest)) _ (digest_bytes (checked body digest)) (λ u. tt)

type_bytes : (o : Option (List ℕ)) → OfBytes (type_checked o)
type_bytes None = tt
type_bytes (Some kind) = by_test (is_manifest_type kind) where
  by_test : (b : Bool) → OfBytes {A = Unit {0}} (if b then Ok tt else Err (engine_refusal.UnsupportedMediaTypeError kind))
  by_test true = tt
  by_test false = tt

version_bytes : (body : List ℕ) (o : Option Versioned) → OfBytes (version_checked body o)
version_bytes body None = tt
version_bytes body (Some v) = by_test (int_eq v.schema_version (pos 2)) where
  by_test : (b : Bool) → OfBytes (if b then type_checked v.media_type else Err (engine_refusal.UnsupportedSchemaVersionError v.schema_version))
  by_test true = type_bytes v.media_type
  by_test false = tt

one_bytes : (body : List ℕ) (o : Option OciManifest) → OfBytes (or_unread body o)
one_bytes body None = tt
one_bytes body (Some document) = tt

tables_bytes : (body : List ℕ) → OfBytes (tables_read body (plain_of (json_of body)))
tables_bytes body =
    elim (plain_of (json_of body)) as (λ o. OfBytes (tables_read body o)) [
      | None ↦ tt
      | Some d ↦ elim (reads_twice d) as (λ b. OfBytes (if b then Err (engine_refusal.AmbiguousManifest body) else or_unread body (document_of d))) [ true ↦ tt | false ↦ one_bytes body (document_of d) ]
    ]

document_bytes : (body : List ℕ) → OfBytes (document_read body)
document_bytes body = before_bytes (version_checked body (versioned_in (json_of body))) _ (version_bytes body (versioned_in (json_of body))) (λ u. tables_bytes body)

document_in_bytes : (image : Reference) (body : List ℕ) → OfBytes (document_in image body)
document_in_bytes image body = before_bytes (named_by_reference (digest_of image) body) _ (asked_bytes (digest_of image) body) (λ u. document_bytes body)

entry_kind_bytes : (entry : List ℕ) (document : OciManifest) → OfBytes (entry_manifest entry document)
entry_kind_bytes entry (Image manifest) = tt
entry_kind_bytes entry (ImageIndex index) = tt

entry_in_bytes : (entry body : List ℕ) → OfBytes (entry_in entry body)
entry_in_bytes entry body = before_bytes (document_read body) (entry_manifest entry) (document_bytes body) (λ document. entry_kind_bytes entry document)

entry_named_bytes : (entries : List ImageIndexEntry) (o : Option (List ℕ)) → OfBytes (entry_named entries o)
entry_named_bytes entries None = tt
entry_named_bytes entries (Some digest) = by_test (lists digest entries) where
  by_test : (b : Bool) → OfBytes (if b then Ok digest else Err (engine_refusal.ImageManifestNotFoundError digest))
  by_test true = tt
  by_test false = tt

entry_found_bytes : (promise : Option ResolverPromise) (entries : List ImageIndexEntry) → OfBytes (entry_found promise entries)
entry_found_bytes None entries = tt
entry_found_bytes (Some promise) entries = entry_named_bytes entries (resolved promise entries)

-- ---- the documents of a digest

with_rises : {A : Type 0} (text : List ℕ) (m n : ℕ) (r : Result A SigstoreError) → Rising registry_refusal m n r → Rising registry_refusal m n (with_image text r)
with_rises text m n (Ok a) h = h
with_rises text m n (Err (sigstore.OciReferenceNotValidError t)) h = h
with_rises text m n (Err (sigstore.RegistryFetchManifestError t e)) h = h
with_rises text m n (Err (sigstore.RegistryPullError t e)) h = record { falls = h.falls; fault = h.fault; no_sink = h.no_sink }
with_rises text m n (Err (sigstore.RegistryPullManifestError t e)) h = h
with_rises text m n (Err (sigstore.RegistryPushError t e)) h = h
with_rises text m n (Err sigstore.WantOfMemory) h = h

entry_call_rises : (s : Context) (source : Reference) (a : RegistryAuth) (entry : List ℕ) → Counts (Rising registry_refusal) (entry_call s source a entry)
unfolding entry_call
entry_call_rises s source a entry = Counts-bind (Rising registry_refusal) (Rising registry_refusal) (document_call s (entry_reference source entry) a manifest_types) (λ r. Done (with_image (whole_text source) r)) (document_rises s (entry_reference source entry) a manifest_types)
    (λ m n r at. Counts-done (λ t p b. t ≡ n → Rising registry_refusal m p b) (with_image (whole_text source) r) (λ p same. rw same (with_rises (whole_text source) m n r at)))

entry_rises : (s : Context) (source : Reference) (a : RegistryAuth) (entries : List ImageIndexEntry) → Counts (Rising registry_refusal) (entry_row s source a entries)
unfolding entry_row
entry_rises s source a entries =
    next registry_refusal (Done (with_error_context Pull (whole_text source) (entry_found s.settings.platform_resolver entries))) _ (said (whole_text source) (entry_found s.settings.platform_resolver entries) (entry_found_bytes s.settings.platform_resolver entries)) (λ entry.
    next registry_refusal (entry_call s source a entry) _ (entry_call_rises s source a entry) (λ found.
    next registry_refusal (Done (with_error_context Pull (whole_text source) (entry_in entry found.0))) _ (said (whole_text source) (entry_in entry found.0) (entry_in_bytes entry found.0)) (λ manifest.
    answered registry_refusal _)))

manifest_rises : (s : Context) (source : Reference) (a : RegistryAuth) (first : List ℕ) (document : OciManifest) → Counts (Rising registry_refusal) (manifest_row s source a first document)
manifest_rises s source a first (Image manifest) = answered registry_refusal _
manifest_rises s source a first (ImageIndex index) = entry_rises s source a index.manifests

documents_rise : (s : Context) (image source : Reference) (a : RegistryAuth) → Counts (Rising registry_refusal) (image_documents s image source a)
unfolding image_documents
documents_rise s image source a =
    next registry_refusal (document_call s source a manifest_types) _ (document_rises s source a manifest_types) (λ found.
    next registry_refusal (Done (with_error_context Pull (whole_text source) (document_in image found.0))) _ (said (whole_text source) (document_in image found.0) (document_in_bytes image found.0)) (λ document.
    next registry_refusal (manifest_row s source a found.0 document) _ (manifest_rises s source a found.0 document) (λ chosen.
    answered registry_refusal _)))

-- ---- the second part

as_rises : (m n : ℕ) (e : SigstoreError) → Rises registry_refusal m n e → Rises client_refusal m n (refused_as e)
as_rises m n (sigstore.OciReferenceNotValidError text) h = record { falls = h.falls; fault = λ is. absurd (cc is); no_sink = λ is. cc is }
as_rises m n (sigstore.RegistryFetchManifestError image e) h = record { falls = h.falls; fault = h.fault; no_sink = h.no_sink }
as_rises m n (sigstore.RegistryPullError image e) h = record { falls = h.falls; fault = h.fault; no_sink = h.no_sink }
as_rises m n (sigstore.RegistryPullManifestError image e) h = record { falls = h.falls; fault = h.fault; no_sink = h.no_sink }
as_rises m n (sigstore.RegistryPushError image e) h = record { falls = h.falls; fault = h.fault; no_sink = h.no_sink }
as_rises m n sigstore.WantOfMemory h = record { falls = h.falls; fault = λ is. absurd (cc is); no_sink = λ is. cc is }

whole_rises : {A : Type 0} (m n : ℕ) (r : Result A SigstoreError) → Rising registry_refusal m n r → Rising client_refusal m n (as_whole r)
whole_rises m n (Ok a) h = h
whole_rises m n (Err e) h = as_rises m n e h

part_rises : {A : Type 0} (p : Row A) → Counts (Rising registry_refusal) p → Counts (Rising client_refusal) (part_of p)
unfolding part_of
part_rises p h = Counts-bind (Rising registry_refusal) (Rising client_refusal) p (λ r. Done (as_whole r)) h (λ m n r at. Counts-done (λ t q b. t ≡ n → Rising client_refusal m q b) (as_whole r) (λ q same. rw same (whole_rises m n r at)))

policy_rises : (b : Bool) → Counts {K = Kept} (Rising client_refusal) (Done (constrained b))
policy_rises true = Counts-done (Rising client_refusal) (Err refusal.EmptyPolicy) (λ m. unheld client_refusal m refusal.EmptyPolicy refl)
policy_rises false = answered client_refusal tt

stood_rises : (found : TrustedLayers) (o : Option SignatureLayer) → Counts {K = Kept} (Rising client_refusal) (Done (signed_digest found o))
stood_rises found None = Counts-done (Rising client_refusal) (Err (refusal.Unsatisfied found.digest found.collected found.skipped)) (λ m. unheld client_refusal m (refusal.Unsatisfied found.digest found.collected found.skipped) refl)
stood_rises found (Some signature) = answered client_refusal _

module _ {V : Type 0} {H : V → Type 0} (policy_context : PolicyContext V H) (s : Context) (image : Reference) (a : RegistryAuth) (found : TrustedLayers) where
  after_rises : (again : TrustedLayers) → Counts (Rising client_refusal) (documents_after policy_context s image a again)
  unfolding documents_after
  after_rises again =
      next client_refusal (Done (standing policy_context again)) _ (stood_rises again (find (stands_by policy_context) again.collected)) (λ stood.
      next client_refusal (part_of (image_documents s image (digest_reference image stood.digest) a)) _ (part_rises (image_documents s image (digest_reference image stood.digest) a) (documents_rise s image (digest_reference image stood.digest) a)) (λ pulled.
      answered client_refusal _))

  decided_rises : Counts (Rising client_refusal) (decided policy_context s image a found)
  unfolding decided
  decided_rises =
      next client_refusal (Done (constrained (is_unconstrained policy_context.policy))) _ (policy_rises (is_unconstrained policy_context.policy)) (λ u.
      after_rises (read_again policy_context.trust found))

  unless_memory : (P : Type 0) (m n : ℕ) (x : OciDistributionError) (e : PullRefusal) → (Rises client_refusal m n e → client_refusal e ≡ Some x → P) → MatchBool (is_memory e) (Unit {0}) (Rises client_refusal m n e) → client_refusal e ≡ Some x → P
  unless_memory P m n x refusal.WantOfMemory so h is = absurd (cc is)
  unless_memory P m n x refusal.EmptyPolicy so h is = so h is
  unless_memory P m n x (refusal.OciReferenceNotValidError text) so h is = so h is
  unless_memory P m n x (refusal.RegistryFetchManifestError name e) so h is = so h is
  unless_memory P m n x (refusal.RegistryPullError name e) so h is = so h is
  unless_memory P m n x (refusal.Unsatisfied digest collected skipped) so h is = so h is

  pub decided_fault : {old new : Link} {k l : Kept} (r : Result VerifiedDocuments PullRefusal) → Meets is_memory (decided policy_context s image a found) old new k l r → FaultCounted client_refusal old new r
  decided_fault (Ok d) met held = absurd held
  decided_fault {old} {new} (Err e) met held = unless_memory (Increased old.faults new.faults) old.faults new.faults engine_refusal.TransportFault e (λ h is. h.fault is) (Meets-counts (Rising client_refusal) decided_rises met) held

  pub decided_no_sink : {old new : Link} {k l : Kept} (r : Result VerifiedDocuments PullRefusal) → Meets is_memory (decided policy_context s image a found) old new k l r → NoSinkFault client_refusal r
  decided_no_sink (Ok d) met held = held
  decided_no_sink {old} {new} (Err e) met held = unless_memory ⊥ old.faults new.faults engine_refusal.SinkFault e (λ h is. h.no_sink is) (Meets-counts (Rising client_refusal) decided_rises met) held
