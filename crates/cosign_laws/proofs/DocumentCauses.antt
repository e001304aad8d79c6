-- Why a pull of documents was refused.
use Rattle.std.proofs.Common.{◌≡◌, ◌⊎◌, inl, inr, ℕ, Bool, true, false, List, [], ◌∷◌, ◌++◌, Option, Some, None, Result, Ok, Err, IfErr, refl, sym, ap, subst, append-nil, ◌∙◌}
use Rattle.std.specs.Prelude.{if◌then◌else◌, find}
use Rattle.oci_names.specs.declared.reference.Reference.{Reference}
use Rattle.oci_names.specs.Reference.{whole_text, reads_back}
use Rattle.oci_auth.specs.declared.auth.RegistryAuth.{RegistryAuth}
use Rattle.oci_manifests.specs.declared.document.OciManifest.{OciManifest}
use Rattle.oci_manifests.specs.declared.document.OciManifest.TheVariants.{Image, ImageIndex}
use Rattle.oci_manifests.specs.declared.index_entry.ImageIndexEntry.{ImageIndexEntry}
use Rattle.engine_answers.specs.Index.{entry_found, entry_reference}
use Rattle.oci_transport.specs.Link.{Link}
use Rattle.oci_transport.specs.declared.message.Exchange.{Exchange}
use Rattle.oci_protocol.specs.Proto.{Proto, Done, bind, unless_refused, ◌>>=◌}
use Rattle.oci_protocol.specs.Ends.{Ends}
use Rattle.oci_protocol.specs.Runs.{Runs, Meets, Told}
use Rattle.oci_protocol.proofs.Ends.{Ends-any, Ends-bind, Runs-ends}
use Rattle.oci_protocol.proofs.Parts.{Parts, Runs-parts, Runs-done}
use Rattle.oci_protocol.proofs.WiderMemory.{Ends-lifted}
use Rattle.engine_terms.specs.Contexts.{Context}
use Rattle.engine_terms.specs.declared.error.OciDistributionError.{OciDistributionError}
use Rattle.engine_terms.specs.Error.{is_memory as engine_is_memory}
use Rattle.engine_requests.specs.Requests.{manifest_types}
use Rattle.engine_rows.specs.Rows.{Row as Engine}
use Rattle.engine_rows.specs.Pulls.{pull_manifest_raw}
use Rattle.registry_cache.specs.declared.answers.Answers.{Answers}
use Rattle.registry_calls.specs.declared.error.SigstoreError.{SigstoreError}
use Rattle.registry_calls.specs.declared.error.SigstoreError.TheVariants as sigstore
use Rattle.registry_calls.specs.declared.error_context.Called.{Called}
use Rattle.registry_calls.specs.declared.error_context.Called.TheVariants.{FetchManifest, Pull, PullManifest, Push}
use Rattle.registry_calls.specs.ErrorContext.{with_error_context, refusal as call_refusal}
use Rattle.registry_calls.specs.Clients.{Kept, Row}
use Rattle.registry_calls.specs.Calls.{in_words, document_made, document_call}
use Rattle.cosign_layers.specs.Satisfying.{PolicyContext}
use Rattle.cosign_parts.specs.declared.layer.SignatureLayer.{SignatureLayer}
use Rattle.cosign_chain.specs.declared.verified_documents.VerifiedDocuments.{VerifiedDocuments}
use Rattle.cosign_rows.specs.Causes.{SearchCause, Found}
use Rattle.cosign_rows.specs.Image.{document_in, entry_in, with_image, entry_call, entry_row, manifest_row}
use Rattle.cosign_rows.specs.References.{digest_reference}
use Rattle.cosign_rows.specs.Refusal.{is_memory, refused_as}
use Rattle.cosign_rows.specs.Search.{searched}
use Rattle.cosign_rows.specs.Snapshots.{snapshot, RanBetween}
use Rattle.cosign_rows.specs.Verified.{Whole, constrained, is_unconstrained, readable_by, readable, as_whole, part_of, stands_by, signed_digest, standing}
use Rattle.cosign_rows.specs.declared.found.TrustedLayers.{TrustedLayers}
use Rattle.cosign_rows.specs.declared.refusal.PullRefusal.{PullRefusal}
use Rattle.cosign_rows.specs.declared.refusal.PullRefusal.TheVariants as refusal
use Rattle.cosign_rows.specs.declared.signed_digest.SignedDigest.{SignedDigest}
use Rattle.cosign_laws.proofs.Causes.{search_causes, pull_cause}
use Rattle.cosign_rows.specs.DocumentCauses.{DocumentsRefused, DocumentsCause}
use Rattle.cosign_rows.specs.Rows.{image_documents, signed_documents, selected, documents_after, collected, documents_row}
use Rattle.cosign_rows.specs.declared.pulled_documents.PulledDocuments.{PulledDocuments}
use Rattle.cosign_laws.proofs.Pulls.{pull_of}

-- ---- which errors the documents can return

-- the property holds for the error, if there is one
abbrev pub OnRefusal : {A E : Type 0} → (E → Type 0) → Result A E → Type 0
OnRefusal Q (Ok a) = Unit {0}
OnRefusal Q (Err e) = Q e

-- the error is the call's own, or out of memory
abbrev pub IsOwn : Called → SigstoreError → Type 0
IsOwn FetchManifest (sigstore.RegistryFetchManifestError name e) = Unit {0}
IsOwn Pull (sigstore.RegistryPullError name e) = Unit {0}
IsOwn PullManifest (sigstore.RegistryPullManifestError name e) = Unit {0}
IsOwn Push (sigstore.RegistryPushError name e) = Unit {0}
IsOwn called sigstore.WantOfMemory = Unit {0}
IsOwn called other = ⊥

own_refusal : (called : Called) (text : List ℕ) (e : OciDistributionError) → IsOwn called (call_refusal called text e)
own_refusal FetchManifest text e = tt
own_refusal Pull text e = tt
own_refusal PullManifest text e = tt
own_refusal Push text e = tt

own_memory : (called : Called) → IsOwn called sigstore.WantOfMemory
own_memory FetchManifest = tt
own_memory Pull = tt
own_memory PullManifest = tt
own_memory Push = tt

worded_own : {A : Type 0} (called : Called) (text : List ℕ) (r : Result A OciDistributionError) → OnRefusal (IsOwn called) (with_error_context called text r)
worded_own called text (Ok a) = tt
worded_own {A} called text (Err e) = by_memory (engine_is_memory e) where
  by_memory : (b : Bool) → OnRefusal {A = A} (IsOwn called) (if b then Err sigstore.WantOfMemory else Err (call_refusal called text e))
  by_memory true = own_memory called
  by_memory false = own_refusal called text e

any_ends : {K A : Type 0} (p : Proto K A) → Ends (λ (a : A). Unit {0}) p
any_ends p = Ends-any (λ a. Unit {0}) p (λ a. tt)

words_own : {A : Type 0} (called : Called) (image : Reference) (p : Engine A) → Ends (OnRefusal (IsOwn called)) (in_words called image p)
unfolding in_words Ends
words_own called image p = Ends-bind (λ r. Unit {0}) (OnRefusal (IsOwn called)) p (λ r. Done (with_error_context called (whole_text image) r)) (any_ends p) (λ r u. worded_own called (whole_text image) r)

unless : {K A B E : Type 0} (Q : E → Type 0) (f : A → Proto K (Result B E)) → ((a : A) → Ends (OnRefusal Q) (f a)) → (r : Result A E) → OnRefusal Q r → Ends (OnRefusal Q) (unless_refused f r)
unfolding Ends
unless Q f each (Ok a) h = each a
unless Q f each (Err e) h = h

next_own : {K A B E : Type 0} (Q : E → Type 0) (p : Proto K (Result A E)) (f : A → Proto K (Result B E)) → Ends (OnRefusal Q) p → ((a : A) → Ends (OnRefusal Q) (f a)) → Ends (OnRefusal Q) (p >>= f)
next_own Q p f h each = Ends-bind (OnRefusal Q) (OnRefusal Q) p (unless_refused f) h (unless Q f each)

done_own : {A E : Type 0} (Q : E → Type 0) (r : Result A E) → OnRefusal Q r → Ends {K = Kept} (OnRefusal Q) (Done r)
unfolding Ends
done_own Q r h = h

document_own : (s : Context) (image : Reference) (a : RegistryAuth) (types : List ℕ) → Ends (OnRefusal (IsOwn Pull)) (document_call s image a types)
unfolding document_call document_made
document_own s image a types = Ends-lifted (Option Answers) (OnRefusal (IsOwn Pull)) (document_made s image a types) (words_own Pull image (pull_manifest_raw s image a types))

with_own : {A : Type 0} (text : List ℕ) (r : Result A SigstoreError) → OnRefusal (IsOwn Pull) r → OnRefusal (IsOwn Pull) (with_image text r)
with_own text (Ok a) h = tt
with_own text (Err (sigstore.OciReferenceNotValidError t)) h = h
with_own text (Err (sigstore.RegistryFetchManifestError t e)) h = h
with_own text (Err (sigstore.RegistryPullError t e)) h = tt
with_own text (Err (sigstore.RegistryPullManifestError t e)) h = h
with_own text (Err (sigstore.RegistryPushError t e)) h = h
with_own text (Err sigstore.WantOfMemory) h = h

entry_call_own : (s : Context) (source : Reference) (a : RegistryAuth) (entry : List ℕ) → Ends (OnRefusal (IsOwn Pull)) (entry_call s source a entry)
unfolding entry_call Ends
entry_call_own s source a entry = Ends-bind (OnRefusal (IsOwn Pull)) (OnRefusal (IsOwn Pull)) (document_call s (entry_reference source entry) a manifest_types) (λ r. Done (with_image (whole_text source) r)) (document_own s (entry_reference source entry) a manifest_types) (λ r h. with_own (whole_text source) r h)

entry_own : (s : Context) (source : Reference) (a : RegistryAuth) (entries : List ImageIndexEntry) → Ends (OnRefusal (IsOwn Pull)) (entry_row s source a entries)
unfolding entry_row
entry_own s source a entries =
    next_own (IsOwn Pull) (Done (with_error_context Pull (whole_text source) (entry_found s.settings.platform_resolver entries))) _ (done_own (IsOwn Pull) _ (worded_own Pull (whole_text source) (entry_found s.settings.platform_resolver entries))) (λ entry.
    next_own (IsOwn Pull) (entry_call s source a entry) _ (entry_call_own s source a entry) (λ found.
    next_own (IsOwn Pull) (Done (with_error_context Pull (whole_text source) (entry_in entry found.0))) _ (done_own (IsOwn Pull) _ (worded_own Pull (whole_text source) (entry_in entry found.0))) (λ manifest.
    done_own (IsOwn Pull) (Ok _) tt)))

manifest_own : (s : Context) (source : Reference) (a : RegistryAuth) (first : List ℕ) (document : OciManifest) → Ends (OnRefusal (IsOwn Pull)) (manifest_row s source a first document)
manifest_own s source a first (Image manifest) = done_own (IsOwn Pull) (Ok _) tt
manifest_own s source a first (ImageIndex index) = entry_own s source a index.manifests

pub documents_own : (s : Context) (image source : Reference) (a : RegistryAuth) → Ends (OnRefusal (IsOwn Pull)) (image_documents s image source a)
unfolding image_documents
documents_own s image source a =
    next_own (IsOwn Pull) (document_call s source a manifest_types) _ (document_own s source a manifest_types) (λ found.
    next_own (IsOwn Pull) (Done (with_error_context Pull (whole_text source) (document_in image found.0))) _ (done_own (IsOwn Pull) _ (worded_own Pull (whole_text source) (document_in image found.0))) (λ document.
    next_own (IsOwn Pull) (manifest_row s source a found.0 document) _ (manifest_own s source a found.0 document) (λ chosen.
    done_own (IsOwn Pull) (Ok _) tt)))

-- ---- the parts of a run

-- a step without a request, and what follows it
abbrev pub StepRun : {A B E : Type 0} → Result A E → (A → Proto Kept (Result B E)) → Kept → ℕ → List Exchange → ℕ → Kept → Result B E → Type 0
StepRun {A} {B} {E} r f k m c n l x = ((a : A) × (r ≡ Ok a) × Runs (f a) k m c n l x) ⊎ ((e : E) × (r ≡ Err e) × ((let y : Result B E = Err e in y) ≡ x))

pub step_run : {A B E : Type 0} (r : Result A E) (f : A → Proto Kept (Result B E)) (k l : Kept) (m n : ℕ) (c : List Exchange) (x : Result B E) → Runs (Done r >>= f) k m c n l x → StepRun r f k m c n l x
unfolding bind
step_run (Ok a) f k l m n c x run = inl (a, refl, run)
step_run (Err e) f k l m n c x run = inr (e, refl, (Runs-done (Err e) k m c n l x run).2)

-- nothing follows a result
pub ended : {A : Type 0} (x : A) (k l : Kept) (m n : ℕ) (c : List Exchange) (a : A) → Runs (Done x) k m c n l a → (c ≡ []) × (m ≡ n) × (k ≡ l) × (x ≡ a)
unfolding Runs
ended x k l m n [] a run = (refl, run.0, run.1, run.2)
ended x k l m n (e ∷ c) a run = absurd run

-- a part, as one of the whole pull
pub record PartRun {A : Type 0} (p : Row A) (k : Kept) (m : ℕ) (c : List Exchange) (n : ℕ) (l : Kept) (x : Result A PullRefusal) : Type 0 where
  pub answer : Result A SigstoreError
  pub run : Runs p k m c n l answer
  pub is : as_whole answer ≡ x

pub part_run : {A : Type 0} (p : Row A) (k l : Kept) (m n : ℕ) (c : List Exchange) (x : Result A PullRefusal) → Runs (part_of p) k m c n l x → PartRun p k m c n l x
unfolding part_of
part_run p k l m n c x run =
    let t = Runs-parts p (λ r. Done (as_whole r)) k m c n l x run in
    let end = ended (as_whole t.answer) t.between l t.count n t.second x t.runs_second in
    let all : c ≡ t.first = t.joined ∙ ap (λ d. t.first ++ d) end.0 ∙ append-nil t.first in
    record {
      answer = t.answer;
      run = subst (λ d. Runs p k m d n l t.answer) (sym all) (subst (λ j. Runs p k m t.first n j t.answer) end.2 (subst (λ o. Runs p k m t.first o t.between t.answer) end.1 t.runs_first));
      is = end.3;
    }

-- a part that was refused, or what follows its result
pub record NextRun {A B E : Type 0} (p : Proto Kept (Result A E)) (f : A → Proto Kept (Result B E)) (k : Kept) (m : ℕ) (c : List Exchange) (n : ℕ) (l : Kept) (x : Result B E) : Type 0 where
  pub first : List Exchange
  pub second : List Exchange
  pub joined : c ≡ first ++ second
  pub between : Kept
  pub count : ℕ
  pub answer : A
  pub runs_first : Runs p k m first count between (Ok answer)
  pub runs_second : Runs (f answer) between count second n l x

pub next_run : {A B E : Type 0} (p : Proto Kept (Result A E)) (f : A → Proto Kept (Result B E)) (k l : Kept) (m n : ℕ) (c : List Exchange) (e : E) → Runs (p >>= f) k m c n l (Err e) → Runs p k m c n l (Err e) ⊎ NextRun p f k m c n l (Err e)
next_run {A} {B} {E} p f k l m n c e run = by_answer t.answer t.runs_first t.runs_second where
  t : Parts p (unless_refused f) k m c n l (Err e)
  t = Runs-parts p (unless_refused f) k m c n l (Err e) run

  by_answer : (r : Result A E) → Runs p k m t.first t.count t.between r → Runs (unless_refused f r) t.between t.count t.second n l (Err e) → Runs p k m c n l (Err e) ⊎ NextRun p f k m c n l (Err e)
  by_answer (Ok a) first second = inr (record { first = t.first; second = t.second; joined = t.joined; between = t.between; count = t.count; answer = a; runs_first = first; runs_second = second })
  by_answer (Err x) first second =
      let end = ended (Err x) t.between l t.count n t.second (Err e) second in
      let all : c ≡ t.first = t.joined ∙ ap (λ d. t.first ++ d) end.0 ∙ append-nil t.first in
      let same : x ≡ e = cc end.3 in
      inl (subst (λ y. Runs p k m c n l (Err y)) same (subst (λ d. Runs p k m d n l (Err x)) (sym all) (subst (λ j. Runs p k m t.first n j (Err x)) end.2 (subst (λ o. Runs p k m t.first o t.between (Err x)) end.1 first))))

-- ---- the pull

module _ {V : Type 0} {H : V → Type 0} (policy_context : PolicyContext V H) (s : Context) (image : Reference) (a : RegistryAuth) where
  abbrev search : Row TrustedLayers
  search = searched policy_context.trust s image a

  abbrev reading : Whole TrustedLayers
  reading = Done (readable image) >>= (λ u. part_of search)

  -- what was collected was found
  read_found : (k l : Kept) (m n : ℕ) (c : List Exchange) (found : TrustedLayers) → PartRun search k m c n l (Ok found) → Runs search k m c n l (Ok found)
  read_found k l m n c found h = by_answer h.answer h.run h.is where
    by_answer : (r : Result TrustedLayers SigstoreError) → Runs search k m c n l r → as_whole r ≡ Ok found → Runs search k m c n l (Ok found)
    by_answer (Ok own) run is = let same : own ≡ found = cc is in subst (λ (x : TrustedLayers). Runs search k m c n l (Ok x)) same run
    by_answer (Err e) run is = absurd (cc is)

  pub collected_found : (k l : Kept) (m n : ℕ) (c : List Exchange) (found : TrustedLayers) → Runs (collected policy_context s image a) k m c n l (Ok found) → Found policy_context s image a (snapshot k m) c (snapshot l n) found
  unfolding collected
  collected_found k l m n c found run = after_policy (step_run (constrained (is_unconstrained policy_context.policy)) (λ u. reading) k l m n c (Ok found) run) where
    after_reading : StepRun (readable image) (λ u. part_of search) k m c n l (Ok found) → Found policy_context s image a (snapshot k m) c (snapshot l n) found
    after_reading (inl h) = read_found k l m n c found (part_run search k l m n c (Ok found) h.2)
    after_reading (inr h) = absurd (cc h.2)

    after_policy : StepRun (constrained (is_unconstrained policy_context.policy)) (λ u. reading) k m c n l (Ok found) → Found policy_context s image a (snapshot k m) c (snapshot l n) found
    after_policy (inl h) = after_reading (step_run (readable image) (λ u. part_of search) k l m n c (Ok found) h.2)
    after_policy (inr h) = absurd (cc h.2)

  -- what is collected is never refused as a pull
  module _ (name : List ℕ) (x : OciDistributionError) where
    abbrev Refused : PullRefusal
    Refused = refusal.RegistryPullError name x

    not_empty : (b : Bool) (e : PullRefusal) → constrained b ≡ Err e → (let r : Result TrustedLayers PullRefusal = Err e in r) ≡ Err Refused → ⊥
    not_empty true e is same = let own : refusal.EmptyPolicy ≡ e = cc is in let other : e ≡ Refused = cc same in cc (own ∙ other)
    not_empty false e is same = cc is

    not_unread : (b : Bool) (e : PullRefusal) → readable_by image b ≡ Err e → (let r : Result TrustedLayers PullRefusal = Err e in r) ≡ Err Refused → ⊥
    not_unread true e is same = cc is
    not_unread false e is same = let own : refusal.OciReferenceNotValidError (whole_text image) ≡ e = cc is in let other : e ≡ Refused = cc same in cc (own ∙ other)

    not_search : (k l : Kept) (m n : ℕ) (c : List Exchange) (e : SigstoreError) → SearchCause s image a (snapshot k m) c (snapshot l n) e → (let r : Result TrustedLayers PullRefusal = Err (refused_as e) in r) ≡ Err Refused → ⊥
    not_search k l m n c (sigstore.OciReferenceNotValidError text) h is = cc is
    not_search k l m n c (sigstore.RegistryFetchManifestError text e) h is = cc is
    not_search k l m n c (sigstore.RegistryPullError text e) h is = h
    not_search k l m n c (sigstore.RegistryPullManifestError text e) h is = h
    not_search k l m n c (sigstore.RegistryPushError text e) h is = h
    not_search k l m n c sigstore.WantOfMemory h is = cc is

    not_searched : (k l : Kept) (m n : ℕ) (c : List Exchange) → PartRun search k m c n l (Err Refused) → ⊥
    not_searched k l m n c h = by_answer h.answer h.run h.is where
      by_answer : (r : Result TrustedLayers SigstoreError) → Runs search k m c n l r → as_whole r ≡ Err Refused → ⊥
      by_answer (Ok found) run is = cc is
      by_answer (Err e) run is = not_search k l m n c e ((search_causes policy_context.trust s image a).shows k l m n c (Err e) run) is

    not_collected : (k l : Kept) (m n : ℕ) (c : List Exchange) → Runs (collected policy_context s image a) k m c n l (Err Refused) → ⊥
    unfolding collected
    not_collected k l m n c run = after_policy (step_run (constrained (is_unconstrained policy_context.policy)) (λ u. reading) k l m n c (Err Refused) run) where
      after_reading : StepRun (readable image) (λ u. part_of search) k m c n l (Err Refused) → ⊥
      after_reading (inl h) = not_searched k l m n c (part_run search k l m n c (Err Refused) h.2)
      after_reading (inr h) = not_unread (reads_back image) h.0 h.1 h.2

      after_policy : StepRun (constrained (is_unconstrained policy_context.policy)) (λ u. reading) k m c n l (Err Refused) → ⊥
      after_policy (inl h) = after_reading (step_run (readable image) (λ u. part_of search) k l m n c (Err Refused) h.2)
      after_policy (inr h) = not_empty (is_unconstrained policy_context.policy) h.0 h.1 h.2

    -- ---- the documents

    abbrev documents : List ℕ → Row PulledDocuments
    documents digest = image_documents s image (digest_reference image digest) a

    own_refused : (k l : Kept) (m n : ℕ) (c : List Exchange) (digest : List ℕ) (e : SigstoreError) → IsOwn Pull e → refused_as e ≡ Refused → Runs (documents digest) k m c n l (Err e) → Runs (documents digest) k m c n l (Err (sigstore.RegistryPullError name x))
    own_refused k l m n c digest (sigstore.OciReferenceNotValidError text) own is run = absurd own
    own_refused k l m n c digest (sigstore.RegistryFetchManifestError text e) own is run = absurd own
    own_refused k l m n c digest (sigstore.RegistryPullError text e) own is run =
        let texts : text ≡ name = cc is in
        let errors : e ≡ x = cc is in
        subst (λ (t : List ℕ). Runs (documents digest) k m c n l (Err (sigstore.RegistryPullError t x))) texts (subst (λ (y : OciDistributionError). Runs (documents digest) k m c n l (Err (sigstore.RegistryPullError text y))) errors run)
    own_refused k l m n c digest (sigstore.RegistryPullManifestError text e) own is run = absurd own
    own_refused k l m n c digest (sigstore.RegistryPushError text e) own is run = absurd own
    own_refused k l m n c digest sigstore.WantOfMemory own is run = absurd (cc is)

    part_refused : (k l : Kept) (m n : ℕ) (c : List Exchange) (digest : List ℕ) → PartRun (documents digest) k m c n l (Err Refused) → RanBetween (documents digest) (snapshot k m) c (snapshot l n) (Err (sigstore.RegistryPullError name x))
    part_refused k l m n c digest h = by_answer h.answer h.run h.is where
      by_answer : (r : Result PulledDocuments SigstoreError) → Runs (documents digest) k m c n l r → as_whole r ≡ Err Refused → RanBetween (documents digest) (snapshot k m) c (snapshot l n) (Err (sigstore.RegistryPullError name x))
      by_answer (Ok pulled) run is = absurd (cc is)
      by_answer (Err e) run is = own_refused k l m n c digest e (Runs-ends (OnRefusal (IsOwn Pull)) (documents digest) k l m n c (Err e) (documents_own s image (digest_reference image digest) a) run) (cc is) run

    -- a layer of those found satisfies the policy
    record Stood (found : TrustedLayers) (stood : SignedDigest) : Type 0 where
      digest : stood.digest ≡ found.digest
      first : find (stands_by policy_context) found.collected ≡ Some stood.signature

    stood_of : (found : TrustedLayers) (o : Option SignatureLayer) (stood : SignedDigest) → find (stands_by policy_context) found.collected ≡ o → signed_digest found o ≡ Ok stood → Stood found stood
    stood_of found None stood is e = absurd (cc e)
    stood_of found (Some signature) stood is e =
        let same : (let x : SignedDigest = record { digest = found.digest; signature = signature } in x) ≡ stood = cc e in
        subst (Stood found) same (record { digest = refl; first = is })

    not_unsatisfied : (found : TrustedLayers) (o : Option SignatureLayer) (e : PullRefusal) → signed_digest found o ≡ Err e → (let r : Result VerifiedDocuments PullRefusal = Err e in r) ≡ Err Refused → ⊥
    not_unsatisfied found (Some signature) e is same = cc is
    not_unsatisfied found None e is same = let own : refusal.Unsatisfied found.digest found.collected found.skipped ≡ e = cc is in let other : e ≡ Refused = cc same in cc (own ∙ other)

    record AfterRefused (k : Kept) (m : ℕ) (c : List Exchange) (n : ℕ) (l : Kept) (found : TrustedLayers) : Type 0 where
      signature : SignatureLayer
      stands_is : find (stands_by policy_context) found.collected ≡ Some signature
      refused : RanBetween (documents found.digest) (snapshot k m) c (snapshot l n) (Err (sigstore.RegistryPullError name x))

    selected_refused : (k l : Kept) (m n : ℕ) (c : List Exchange) (found : TrustedLayers) (stood : SignedDigest) → Stood found stood → Runs (selected s image a stood) k m c n l (Err Refused) → AfterRefused k m c n l found
    selected_refused k l m n c found stood h run = by_part (next_run (part_of (documents stood.digest)) (λ pulled. Done (Ok (signed_documents stood pulled))) k l m n c Refused run) where
      by_part : Runs (part_of (documents stood.digest)) k m c n l (Err Refused) ⊎ NextRun (part_of (documents stood.digest)) (λ pulled. Done (Ok (signed_documents stood pulled))) k m c n l (Err Refused) → AfterRefused k m c n l found
      by_part (inl run) = record {
        signature = stood.signature;
        stands_is = h.first;
        refused = subst (λ (t : List ℕ). RanBetween (documents t) (snapshot k m) c (snapshot l n) (Err (sigstore.RegistryPullError name x))) h.digest (part_refused k l m n c stood.digest (part_run (documents stood.digest) k l m n c (Err Refused) run));
      }
      by_part (inr t) = absurd (cc (Runs-done (Ok (signed_documents stood t.answer)) t.between t.count t.second n l (Err Refused) t.runs_second).2)

    after_refused : (k l : Kept) (m n : ℕ) (c : List Exchange) (found : TrustedLayers) → Runs (documents_after policy_context s image a found) k m c n l (Err Refused) → AfterRefused k m c n l found
    unfolding documents_after
    after_refused k l m n c found run = by_step (step_run (standing policy_context found) (λ stood. selected s image a stood) k l m n c (Err Refused) run) where
      by_step : StepRun (standing policy_context found) (λ stood. selected s image a stood) k m c n l (Err Refused) → AfterRefused k m c n l found
      by_step (inl h) = selected_refused k l m n c found h.0 (stood_of found (find (stands_by policy_context) found.collected) h.0 refl h.1) h.2
      by_step (inr h) = absurd (not_unsatisfied found (find (stands_by policy_context) found.collected) h.0 h.1 h.2)

    pull_refused : (k l : Kept) (m n : ℕ) (c : List Exchange) → Runs (documents_row policy_context s image a) k m c n l (Err Refused) → DocumentsRefused policy_context s image a (snapshot k m) c (snapshot l n) (sigstore.RegistryPullError name x)
    unfolding documents_row
    pull_refused k l m n c run = by_part (next_run (collected policy_context s image a) (λ found. documents_after policy_context s image a found) k l m n c Refused run) where
      by_part : Runs (collected policy_context s image a) k m c n l (Err Refused) ⊎ NextRun (collected policy_context s image a) (λ found. documents_after policy_context s image a found) k m c n l (Err Refused) → DocumentsRefused policy_context s image a (snapshot k m) c (snapshot l n) (sigstore.RegistryPullError name x)
      by_part (inl run) = absurd (not_collected k l m n c run)
      by_part (inr t) =
          let after = after_refused t.between l t.count n t.second t.answer t.runs_second in
          record {
            search = t.first;
            pull = t.second;
            split = t.joined;
            between = snapshot t.between t.count;
            found = t.answer;
            searched_is = collected_found k t.between m t.count t.first t.answer t.runs_first;
            signature = after.signature;
            stands_is = after.stands_is;
            refused = after.refused;
          }

  -- each refusal has its cause
  pub documents_cause : {old new : Link} {k l : Kept} (r : Result VerifiedDocuments PullRefusal) → Meets is_memory (documents_row policy_context s image a) old new k l r
      → IfErr r (λ e. Told (λ c. DocumentsCause policy_context s image a (snapshot k old.faults) c (snapshot l new.faults) e) old new)
  documents_cause (Ok d) met = tt
  documents_cause {old} {new} {k} {l} (Err (refusal.RegistryPullError name x)) met = let run = met.outcome in record { conversation = run.conversation; told = run.told; holds = pull_refused name x k l old.faults new.faults run.conversation run.runs }
  documents_cause (Err refusal.EmptyPolicy) met = pull_cause policy_context s image a [] (Err refusal.EmptyPolicy) (pull_of policy_context s image a [] (Err refusal.EmptyPolicy) met)
  documents_cause (Err (refusal.OciReferenceNotValidError text)) met = pull_cause policy_context s image a [] (Err (refusal.OciReferenceNotValidError text)) (pull_of policy_context s image a [] (Err (refusal.OciReferenceNotValidError text)) met)
  documents_cause (Err (refusal.RegistryFetchManifestError name x)) met = pull_cause policy_context s image a [] (Err (refusal.RegistryFetchManifestError name x)) (pull_of policy_context s image a [] (Err (refusal.RegistryFetchManifestError name x)) met)
  documents_cause (Err (refusal.Unsatisfied digest layers skipped)) met = pull_cause policy_context s image a [] (Err (refusal.Unsatisfied digest layers skipped)) (pull_of policy_context s image a [] (Err (refusal.Unsatisfied digest layers skipped)) met)
  documents_cause (Err refusal.WantOfMemory) met = pull_cause policy_context s image a [] (Err refusal.WantOfMemory) (pull_of policy_context s image a [] (Err refusal.WantOfMemory) met)
