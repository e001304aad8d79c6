-- Properties of all runs of the second part, over whatever was collected.
use Rattle.std.proofs.Common.{◌≡◌, ◌⊎◌, inl, inr, ℕ, Bool, true, false, List, Option, Some, None, Result, Ok, Err, IfOk, IfErr, codes, refl, sym, ap, subst}
use Rattle.std.specs.Prelude.{if◌then◌else◌, find, bytes_eq, unwrap_or}
use Rattle.oci_names.specs.declared.reference.Reference.{Reference}
use Rattle.oci_names.specs.Reference.{mirror_of, resolved_registry, whole_text}
use Rattle.oci_auth.specs.declared.auth.RegistryAuth.{RegistryAuth}
use Rattle.oci_auth.specs.declared.auth_state.AuthState.{AuthState}
use Rattle.oci_manifests.specs.declared.document.OciManifest.{OciManifest}
use Rattle.oci_manifests.specs.declared.document.OciManifest.TheVariants.{Image, ImageIndex}
use Rattle.oci_manifests.specs.declared.index_entry.ImageIndexEntry.{ImageIndexEntry}
use Rattle.oci_transport.specs.Link.{Link}
use Rattle.oci_transport.specs.declared.message.Exchange.{Exchange}
use Rattle.oci_protocol.specs.Proto.{Proto, Done, bind, ◌>>=◌}
use Rattle.oci_protocol.specs.Runs.{Runs, Meets, Told}
use Rattle.oci_protocol.proofs.Ends.{Runs-ends}
use Rattle.oci_protocol.proofs.Parts.{Runs-done}
use Rattle.engine_answers.specs.Index.{entry_found, entry_reference}
use Rattle.engine_laws.proofs.Confines.{ConfinesBy, Alone, Beside, confines_by, confines_done, confines_bind, confines_next, confines_lifted, confines_same, confines_call}
use Rattle.engine_requests.specs.Requests.{manifest_types}
use Rattle.engine_rows.specs.Confined.{Within}
use Rattle.engine_rows.specs.Held.{Entry, pulling}
use Rattle.engine_rows.specs.Pulls.{pull_manifest_raw}
use Rattle.engine_rows.specs.Rows.{Row as Engine}
use Rattle.engine_terms.specs.Contexts.{Context}
use Rattle.engine_terms.specs.declared.settings.Settings.{Settings}
use Rattle.request_laws.proofs.HeaderCauses.{raw_sound}
use Rattle.request_laws.proofs.ShownTokens.{Ended}
use Rattle.registry_calls.specs.Calls.{in_words, document_made, document_call}
use Rattle.registry_calls.specs.Clients.{Kept, Row}
use Rattle.registry_calls.specs.ErrorContext.{with_error_context}
use Rattle.registry_calls.specs.declared.error.SigstoreError.{SigstoreError}
use Rattle.registry_calls.specs.declared.error.SigstoreError.TheVariants as sigstore
use Rattle.registry_calls.specs.declared.error_context.Called.{Called}
use Rattle.registry_calls.specs.declared.error_context.Called.TheVariants.{Pull}
use Rattle.cosign_layers.specs.Satisfying.{PolicyContext}
use Rattle.cosign_parts.specs.declared.layer.SignatureLayer.{SignatureLayer}
use Rattle.cosign_chain.specs.VerifiedDocuments.{Documents}
use Rattle.cosign_chain.specs.declared.verified_documents.VerifiedDocuments.{VerifiedDocuments}
use Rattle.cosign_rows.specs.Image.{document_in, entry_in, with_image, entry_call, entry_row, manifest_row}
use Rattle.cosign_rows.specs.References.{digest_reference}
use Rattle.cosign_rows.specs.Refusal.{is_memory, refused_as}
use Rattle.cosign_rows.specs.Snapshots.{snapshot, NoOp}
use Rattle.cosign_rows.specs.Verified.{constrained, is_unconstrained, as_whole, part_of, stands_by, signed_digest, standing}
use Rattle.cosign_rows.specs.declared.found.TrustedLayers.{TrustedLayers}
use Rattle.cosign_rows.specs.declared.refusal.PullRefusal.{PullRefusal}
use Rattle.cosign_rows.specs.declared.refusal.PullRefusal.TheVariants as refusal
use Rattle.cosign_rows.specs.declared.signed_digest.SignedDigest.{SignedDigest}
use Rattle.cosign_rows.specs.Again.{read_again}
use Rattle.cosign_rows.specs.DocumentCauses.{DecidedCause}
use Rattle.cosign_rows.specs.Rows.{image_documents, signed_documents, selected, documents_after, decided}
use Rattle.cosign_rows.specs.DocumentsSound.{DecidedOver}
use Rattle.cosign_rows.specs.declared.pulled_documents.PulledDocuments.{PulledDocuments}
use Rattle.cosign_laws.proofs.DocumentCauses.{OnRefusal, IsOwn, documents_own, PartRun, NextRun, ended, part_run, next_run}
use Rattle.cosign_laws.proofs.Sound.{sound_decided}

-- ---- where credentials and tokens are sent

-- a part is confined, whatever the cache holds
abbrev Confines : {A : Type 0} → Entry → Settings → Proto Kept A → Type 0
Confines x t p = ConfinesBy Beside x t p

words_confine : {A : Type 0} (x : Entry) (t : Settings) (called : Called) (image : Reference) (p : Engine A) → ConfinesBy Alone x t p → ConfinesBy Alone x t (in_words called image p)
unfolding in_words
words_confine x t called image p h = confines_bind Alone x t p (λ r. Done (with_error_context called (whole_text image) r)) h (λ r. confines_done Alone x t (with_error_context called (whole_text image) r))

document_confines : (k : AuthState) (s : Context) (image : Reference) (a : RegistryAuth) (types : List ℕ) → Confines (pulling k s image (Some a)) s.settings (document_call s image a types)
unfolding document_call document_made
document_confines k s image a types = let x = pulling k s image (Some a) in confines_lifted x s.settings (document_made s image a types) (words_confine x s.settings Pull image (pull_manifest_raw s image a types) (confines_by x s.settings (Ended x s.settings types) (pull_manifest_raw s image a types) (raw_sound s image a types k)))

entry_call_confines : (k : AuthState) (s : Context) (source : Reference) (a : RegistryAuth) (entry : List ℕ) → Confines (pulling k s source (Some a)) s.settings (entry_call s source a entry)
unfolding entry_call
entry_call_confines k s source a entry = let x = pulling k s source (Some a) in
    confines_bind Beside x s.settings (document_call s (entry_reference source entry) a manifest_types) (λ r. Done (with_image (whole_text source) r))
    (confines_same Beside k s source (entry_reference source entry) (Some a) refl refl s.settings (document_call s (entry_reference source entry) a manifest_types) (document_confines k s (entry_reference source entry) a manifest_types))
    (λ r. confines_done Beside x s.settings (with_image (whole_text source) r))

entry_confines : (k : AuthState) (s : Context) (source : Reference) (a : RegistryAuth) (entries : List ImageIndexEntry) → Confines (pulling k s source (Some a)) s.settings (entry_row s source a entries)
unfolding entry_row
entry_confines k s source a entries = let x = pulling k s source (Some a) in
    confines_next Beside x s.settings (Done (with_error_context Pull (whole_text source) (entry_found s.settings.platform_resolver entries))) _ (confines_done Beside x s.settings _) (λ entry.
    confines_next Beside x s.settings (entry_call s source a entry) _ (entry_call_confines k s source a entry) (λ found.
    confines_next Beside x s.settings (Done (with_error_context Pull (whole_text source) (entry_in entry found.0))) _ (confines_done Beside x s.settings _) (λ manifest.
    confines_done Beside x s.settings _)))

manifest_confines : (k : AuthState) (s : Context) (source : Reference) (a : RegistryAuth) (first : List ℕ) (document : OciManifest) → Confines (pulling k s source (Some a)) s.settings (manifest_row s source a first document)
manifest_confines k s source a first (Image manifest) = confines_done Beside _ s.settings _
manifest_confines k s source a first (ImageIndex index) = entry_confines k s source a index.manifests

documents_confine : (k : AuthState) (s : Context) (image source : Reference) (a : RegistryAuth) → Confines (pulling k s source (Some a)) s.settings (image_documents s image source a)
unfolding image_documents
documents_confine k s image source a = let x = pulling k s source (Some a) in
    confines_next Beside x s.settings (document_call s source a manifest_types) _ (document_confines k s source a manifest_types) (λ found.
    confines_next Beside x s.settings (Done (with_error_context Pull (whole_text source) (document_in image found.0))) _ (confines_done Beside x s.settings _) (λ document.
    confines_next Beside x s.settings (manifest_row s source a found.0 document) _ (manifest_confines k s source a found.0 document) (λ chosen.
    confines_done Beside x s.settings _)))

-- a reference by a digest has no mirror, nor has the image
plain_registry : (image : Reference) → mirror_of image ≡ None → (if bytes_eq image.registry (codes "docker.io") then codes "index.docker.io" else image.registry) ≡ resolved_registry image
plain_registry image direct = sym (ap (λ m. unwrap_or m (if bytes_eq image.registry (codes "docker.io") then codes "index.docker.io" else image.registry)) direct)

module _ (k : AuthState) (s : Context) (image : Reference) (a : RegistryAuth) (direct : mirror_of image ≡ None) where
  abbrev OfImage : {A : Type 0} → Proto Kept A → Type 0
  OfImage p = Confines (pulling k s image (Some a)) s.settings p

  part_confines : {A : Type 0} (p : Row A) → OfImage p → OfImage (part_of p)
  unfolding part_of
  part_confines p h = confines_bind Beside (pulling k s image (Some a)) s.settings p (λ r. Done (as_whole r)) h (λ r. confines_done Beside _ s.settings (as_whole r))

  digest_confines : (digest : List ℕ) → OfImage (image_documents s image (digest_reference image digest) a)
  digest_confines digest = let source = digest_reference image digest in confines_same Beside k s image source (Some a) (plain_registry image direct) refl s.settings (image_documents s image source a) (documents_confine k s image source a)

  module _ {V : Type 0} {H : V → Type 0} (policy_context : PolicyContext V H) where
    selected_confines : (stood : SignedDigest) → OfImage (selected s image a stood)
    selected_confines stood = let x = pulling k s image (Some a) in
        confines_next Beside x s.settings (part_of (image_documents s image (digest_reference image stood.digest) a)) _ (part_confines (image_documents s image (digest_reference image stood.digest) a) (digest_confines stood.digest)) (λ pulled.
        confines_done Beside x s.settings _)

    after_confines : (found : TrustedLayers) → OfImage (documents_after policy_context s image a found)
    unfolding documents_after
    after_confines found = let x = pulling k s image (Some a) in
        confines_next Beside x s.settings (Done (standing policy_context found)) _ (confines_done Beside x s.settings _) (λ stood. selected_confines stood)

    decided_confines : (found : TrustedLayers) → OfImage (decided policy_context s image a found)
    unfolding decided
    decided_confines found = let x = pulling k s image (Some a) in
        confines_next Beside x s.settings (Done (constrained (is_unconstrained policy_context.policy))) _ (confines_done Beside x s.settings _) (λ u.
        after_confines (read_again policy_context.trust found))

-- ---- what a run shows

module _ {V : Type 0} {H : V → Type 0} (policy_context : PolicyContext V H) (s : Context) (image : Reference) (a : RegistryAuth) (found : TrustedLayers) where
  pub decided_confined : {old new : Link} {k l : Kept} (r : Result VerifiedDocuments PullRefusal) → mirror_of image ≡ None → Meets is_memory (decided policy_context s image a found) old new k l r → Told (Within (pulling k.0 s image (Some a)) s.settings l.0) old new
  decided_confined {k = k} r direct met = confines_call Beside (pulling k.0 s image (Some a)) s.settings refl (decided_confines k.0 s image a direct policy_context found) met

  -- the documents hold under the trust of this part, whatever was collected
  pub decided_hold : {old new : Link} {k l : Kept} (r : Result VerifiedDocuments PullRefusal) → Meets is_memory (decided policy_context s image a found) old new k l r → IfOk r (λ d. Documents policy_context image s.settings.platform_resolver d)
  decided_hold (Ok d) met = ((sound_decided s policy_context image a found (Ok d) met).holds.0).documents
  decided_hold (Err e) met = tt

  -- they are the bodies of its answers, and their digest is the one that was collected
  pub decided_over : {old new : Link} {k l : Kept} (r : Result VerifiedDocuments PullRefusal) → Meets is_memory (decided policy_context s image a found) old new k l r → IfOk r (λ d. Told (λ c. DecidedOver found c d) old new)
  decided_over (Ok d) met = let told = sound_decided s policy_context image a found (Ok d) met in record { conversation = told.conversation; told = told.told; holds = record { digest = told.holds.1; bodies = (told.holds.0).bodies } }
  decided_over (Err e) met = tt

  -- ---- why it was refused

  abbrev again : TrustedLayers
  again = read_again policy_context.trust found

  abbrev documents : List ℕ → Row PulledDocuments
  documents digest = image_documents s image (digest_reference image digest) a

  -- a refusal, by the step that it comes from
  record Unconstrained (k : Kept) (m : ℕ) (c : List Exchange) (n : ℕ) (l : Kept) (e : PullRefusal) : Type 0 where
    none : is_unconstrained policy_context.policy ≡ true
    silent : NoOp (snapshot k m) c (snapshot l n)
    is : e ≡ refusal.EmptyPolicy

  record Unsatisfying (k : Kept) (m : ℕ) (c : List Exchange) (n : ℕ) (l : Kept) (e : PullRefusal) : Type 0 where
    none : find (stands_by policy_context) again.collected ≡ None
    silent : NoOp (snapshot k m) c (snapshot l n)
    is : e ≡ refusal.Unsatisfied again.digest again.collected again.skipped

  record Unpulled (k : Kept) (m : ℕ) (c : List Exchange) (n : ℕ) (l : Kept) (e : PullRefusal) : Type 0 where
    signature : SignatureLayer
    stands_is : find (stands_by policy_context) again.collected ≡ Some signature
    error : SigstoreError
    own : IsOwn Pull error
    ran : Runs (documents found.digest) k m c n l (Err error)
    is : e ≡ refused_as error

  abbrev Why : Kept → ℕ → List Exchange → ℕ → Kept → PullRefusal → Type 0
  Why k m c n l e = Unconstrained k m c n l e ⊎ (Unsatisfying k m c n l e ⊎ Unpulled k m c n l e)

  -- the end of a step that was refused
  step_refused : {A B : Type 0} (x : PullRefusal) (f : A → Proto Kept (Result B PullRefusal)) (k l : Kept) (m n : ℕ) (c : List Exchange) (e : PullRefusal) → Runs (Done (Err x) >>= f) k m c n l (Err e) → NoOp (snapshot k m) c (snapshot l n) × (e ≡ x)
  unfolding bind
  step_refused x f k l m n c e run =
      let end = ended (Err x) k l m n c (Err e) run in
      let same : x ≡ e = cc end.3 in
      ((end.0, λ i. snapshot (end.2 i) (end.1 i)), sym same)

  -- ---- a layer that satisfies the policy, and then the documents

  own_of : (k l : Kept) (m n : ℕ) (c : List Exchange) (digest : List ℕ) (r : Result PulledDocuments SigstoreError) → Runs (documents digest) k m c n l r → OnRefusal (IsOwn Pull) r
  own_of k l m n c digest r run = Runs-ends (OnRefusal (IsOwn Pull)) (documents digest) k l m n c r (documents_own s image (digest_reference image digest) a) run

  part_unpulled : (signature : SignatureLayer) → find (stands_by policy_context) again.collected ≡ Some signature → (k l : Kept) (m n : ℕ) (c : List Exchange) (e : PullRefusal) → PartRun (documents found.digest) k m c n l (Err e) → Unpulled k m c n l e
  part_unpulled signature first k l m n c e h = by_answer h.answer h.run h.is where
    by_answer : (r : Result PulledDocuments SigstoreError) → Runs (documents found.digest) k m c n l r → as_whole r ≡ Err e → Unpulled k m c n l e
    by_answer (Ok pulled) run is = absurd (cc is)
    by_answer (Err x) run is = let same : refused_as x ≡ e = cc is in record { signature = signature; stands_is = first; error = x; own = own_of k l m n c found.digest (Err x) run; ran = run; is = sym same }

  selected_unpulled : (stood : SignedDigest) → stood.digest ≡ found.digest → find (stands_by policy_context) again.collected ≡ Some stood.signature → (k l : Kept) (m n : ℕ) (c : List Exchange) (e : PullRefusal) → Runs (selected s image a stood) k m c n l (Err e) → Unpulled k m c n l e
  selected_unpulled stood digest first k l m n c e run = by_part (next_run (part_of (documents stood.digest)) (λ pulled. Done (Ok (signed_documents stood pulled))) k l m n c e run) where
    by_part : Runs (part_of (documents stood.digest)) k m c n l (Err e) ⊎ NextRun (part_of (documents stood.digest)) (λ pulled. Done (Ok (signed_documents stood pulled))) k m c n l (Err e) → Unpulled k m c n l e
    by_part (inl run) = part_unpulled stood.signature first k l m n c e (part_run (documents found.digest) k l m n c (Err e) (subst (λ (t : List ℕ). Runs (part_of (documents t)) k m c n l (Err e)) digest run))
    by_part (inr t) = absurd (cc (Runs-done (Ok (signed_documents stood t.answer)) t.between t.count t.second n l (Err e) t.runs_second).2)

  -- after the first layer that satisfies the policy, if there is one
  stood_refused : (o : Option SignatureLayer) → find (stands_by policy_context) again.collected ≡ o → (k l : Kept) (m n : ℕ) (c : List Exchange) (e : PullRefusal)
      → Runs (Done (signed_digest again o) >>= (λ stood. selected s image a stood)) k m c n l (Err e) → Unsatisfying k m c n l e ⊎ Unpulled k m c n l e
  unfolding bind
  stood_refused None none k l m n c e run =
      let end = step_refused (refusal.Unsatisfied again.digest again.collected again.skipped) (λ stood. selected s image a stood) k l m n c e run in
      inl (record { none = none; silent = end.0; is = end.1 })
  stood_refused (Some signature) first k l m n c e run = inr (selected_unpulled (record { digest = again.digest; signature = signature }) refl first k l m n c e run)

  after_refused : (k l : Kept) (m n : ℕ) (c : List Exchange) (e : PullRefusal) → Runs (documents_after policy_context s image a again) k m c n l (Err e) → Unsatisfying k m c n l e ⊎ Unpulled k m c n l e
  unfolding documents_after
  after_refused k l m n c e run = stood_refused (find (stands_by policy_context) again.collected) refl k l m n c e run

  -- ---- the policy

  by_policy : (b : Bool) → is_unconstrained policy_context.policy ≡ b → (k l : Kept) (m n : ℕ) (c : List Exchange) (e : PullRefusal)
      → Runs (Done (constrained b) >>= (λ u. documents_after policy_context s image a again)) k m c n l (Err e) → Why k m c n l e
  unfolding bind
  by_policy true none k l m n c e run =
      let end = step_refused {A = Unit {0}} refusal.EmptyPolicy (λ u. documents_after policy_context s image a again) k l m n c e run in
      inl (record { none = none; silent = end.0; is = end.1 })
  by_policy false some k l m n c e run = inr (after_refused k l m n c e run)

  why : (k l : Kept) (m n : ℕ) (c : List Exchange) (e : PullRefusal) → Runs (decided policy_context s image a found) k m c n l (Err e) → Why k m c n l e
  unfolding decided
  why k l m n c e run = by_policy (is_unconstrained policy_context.policy) refl k l m n c e run

  -- ---- as a cause

  abbrev Cause : Kept → ℕ → List Exchange → ℕ → Kept → PullRefusal → Type 0
  Cause k m c n l e = DecidedCause policy_context s image a found (snapshot k m) c (snapshot l n) e

  unpulled_cause : (k l : Kept) (m n : ℕ) (c : List Exchange) (signature : SignatureLayer) → find (stands_by policy_context) again.collected ≡ Some signature
      → (x : SigstoreError) → IsOwn Pull x → Runs (documents found.digest) k m c n l (Err x) → Cause k m c n l (refused_as x)
  unpulled_cause k l m n c signature first (sigstore.OciReferenceNotValidError text) own run = absurd own
  unpulled_cause k l m n c signature first (sigstore.RegistryFetchManifestError text e) own run = absurd own
  unpulled_cause k l m n c signature first (sigstore.RegistryPullError text e) own run = record { signature = signature; stands_is = first; refused = run }
  unpulled_cause k l m n c signature first (sigstore.RegistryPullManifestError text e) own run = absurd own
  unpulled_cause k l m n c signature first (sigstore.RegistryPushError text e) own run = absurd own
  unpulled_cause k l m n c signature first sigstore.WantOfMemory own run = tt

  why_cause : (k l : Kept) (m n : ℕ) (c : List Exchange) (e : PullRefusal) → Why k m c n l e → Cause k m c n l e
  why_cause k l m n c e (inl h) = subst (Cause k m c n l) (sym h.is) (h.none, h.silent)
  why_cause k l m n c e (inr (inl h)) = subst (Cause k m c n l) (sym h.is) (record { again_is = refl; none = h.none; silent = h.silent })
  why_cause k l m n c e (inr (inr h)) = subst (Cause k m c n l) (sym h.is) (unpulled_cause k l m n c h.signature h.stands_is h.error h.own h.ran)

  run_cause : (k l : Kept) (m n : ℕ) (c : List Exchange) (e : PullRefusal) → Runs (decided policy_context s image a found) k m c n l (Err e) → Cause k m c n l e
  run_cause k l m n c e run = why_cause k l m n c e (why k l m n c e run)

  -- each refusal has its cause
  pub decided_cause : {old new : Link} {k l : Kept} (r : Result VerifiedDocuments PullRefusal) → Meets is_memory (decided policy_context s image a found) old new k l r
      → IfErr r (λ e. Told (λ c. DecidedCause policy_context s image a found (snapshot k old.faults) c (snapshot l new.faults) e) old new)
  decided_cause (Ok d) met = tt
  decided_cause {old} {new} {k} {l} (Err refusal.EmptyPolicy) met = let run = met.outcome in record { conversation = run.conversation; told = run.told; holds = run_cause k l old.faults new.faults run.conversation refusal.EmptyPolicy run.runs }
  decided_cause {old} {new} {k} {l} (Err (refusal.OciReferenceNotValidError text)) met = let run = met.outcome in record { conversation = run.conversation; told = run.told; holds = run_cause k l old.faults new.faults run.conversation (refusal.OciReferenceNotValidError text) run.runs }
  decided_cause {old} {new} {k} {l} (Err (refusal.RegistryFetchManifestError name x)) met = let run = met.outcome in record { conversation = run.conversation; told = run.told; holds = run_cause k l old.faults new.faults run.conversation (refusal.RegistryFetchManifestError name x) run.runs }
  decided_cause {old} {new} {k} {l} (Err (refusal.RegistryPullError name x)) met = let run = met.outcome in record { conversation = run.conversation; told = run.told; holds = run_cause k l old.faults new.faults run.conversation (refusal.RegistryPullError name x) run.runs }
  decided_cause {old} {new} {k} {l} (Err (refusal.Unsatisfied digest layers skipped)) met = let run = met.outcome in record { conversation = run.conversation; told = run.told; holds = run_cause k l old.faults new.faults run.conversation (refusal.Unsatisfied digest layers skipped) run.runs }
  decided_cause (Err refusal.WantOfMemory) met = let run = met.outcome in record { conversation = run.conversation; told = run.told; holds = tt }
