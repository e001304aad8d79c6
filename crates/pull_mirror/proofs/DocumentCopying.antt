-- The exits of the functions that copy documents, as steps of their row.
use Rattle.std.proofs.Common.{◌≡◌, ◌≤◌, ◌⊎◌, inl, inr, ℕ, Bool, true, false, List, [], ◌∷◌, ◌++◌, All, Option, Some, None, Result, Ok, Err, IfErr, IfOk, codes, refl, sym, ap, subst, ◌∙◌, append_assoc, append-nil}
use Rattle.std.specs.Result.{IsErrAnd}
use Rattle.std.proofs.lemmas.Result.{err_from_is_err_and}
use Rattle.oci_auth.specs.declared.auth.RegistryAuth.{RegistryAuth}
use Rattle.oci_auth.specs.declared.auth_state.AuthState.{AuthState}
use Rattle.oci_auth.specs.declared.token_type.RegistryOperation.TheVariants.{Push as ForPush}
use Rattle.oci_digests.specs.Names.{digest_text}
use Rattle.oci_names.specs.Reference.{mirror_of}
use Rattle.oci_names.specs.declared.algorithm.Algorithm.TheVariants.{Sha256}
use Rattle.oci_names.specs.declared.reference.Reference.{Reference}
use Rattle.oci_protocol.specs.Runs.{Meets, Performs, Told}
use Rattle.oci_protocol.proofs.Conversations.{Extends-more, Extends-none}
use Rattle.oci_protocol.proofs.Laws.{Meets-refused, Meets-memory, Runs-count}
use Rattle.oci_transport.specs.Link.{Link}
use Rattle.oci_protocol.proofs.Exits.{and_then, done}
use Rattle.engine_rows.specs.Confined.{Within}
use Rattle.engine_rows.specs.Held.{asking, pulling}
use Rattle.engine_rows.specs.Rows.{Row}
use Rattle.engine_terms.specs.Contexts.{Context}
use Rattle.engine_terms.specs.Error.{is_memory}
use Rattle.engine_terms.specs.declared.error.OciDistributionError.{OciDistributionError}
use Rattle.engine_terms.specs.declared.error.OciDistributionError.TheVariants as refusal
use Rattle.engine_terms.specs.declared.settings.Settings.{Settings}
use Rattle.oci_engine.specs.Refusals.{FaultCounted}
use Rattle.push_laws.proofs.Confinement.{pushing}
use Rattle.cosign_chain.specs.declared.verified_documents.VerifiedDocuments.{VerifiedDocuments}
use Rattle.pull_mirror.specs.Asked.{AskedUpTo, CopyWithin, StoppedAsking, StoppedCopy, StoppedPushing, missing_of, of_push, outcome_of}
use Rattle.pull_mirror.specs.Copies.{all_pushed, push_row}
use Rattle.pull_mirror.specs.DocumentCopies.{CopyOutcome, Absent, PushedAt, blobs_asked, first_missing, parts_copied, parts_pushed, unless_missing}
use Rattle.pull_mirror.specs.DocumentPlans.{AreIn, IsDocumentPlan, parts_planned}
use Rattle.pull_mirror.specs.declared.documents.DocumentPlan.{DocumentPlan}
use Rattle.pull_mirror.specs.DocumentPushes.{AreNamed, Parts, all_of, blobs_named, manifest_parts, parts_of, signature_blobs, tagged_parts}
use Rattle.pull_mirror.specs.Errors.{IfRefused, IsRefusalOf, error_of, url_answered}
use Rattle.pull_mirror.specs.Every.{Every, IsIn}
use Rattle.pull_mirror.specs.Pushes.{Push, IsNamed, digests_of, entry_by, manifest_push, push_digest, sha256_blob}
use Rattle.pull_mirror.specs.Signatures.{signature_text}
use Rattle.pull_mirror.specs.Stopped.{Stopped}
use Rattle.pull_mirror.specs.Underway.{Made}
use Rattle.pull_mirror.specs.declared.absences.DocumentsRefusal.{DocumentsRefusal}
use Rattle.pull_mirror.specs.declared.absences.DocumentsRefusal.TheVariants as copying
use Rattle.pull_mirror.specs.declared.refusals.PushRefusal.{PushRefusal}
use Rattle.pull_mirror.specs.declared.refusals.PushRefusal.TheVariants.{Refused, WantOfMemory}
use Rattle.pull_mirror.specs.declared.refusals.PushReport.{PushReport}
use Rattle.pull_mirror.proofs.Asking.{asked_fault}
use Rattle.pull_mirror.proofs.Confining.{Stays, stays_done, stays_next, stays_told}
use Rattle.pull_mirror.proofs.Copied.{all_stays, push_stays, still_more, stopped_fault}
use Rattle.pull_mirror.proofs.Copying.{stopped_by}
use Rattle.pull_mirror.proofs.Images.{every_all, every_both, every_once, plain_is, signed_in}
use Rattle.pull_mirror.proofs.Pushing.{made_all, made_next, mapped, stopped_in}

-- ---- results that are passed on

outcome_err : (r : Result PushReport DocumentsRefusal) (e : DocumentsRefusal) → IsErrAnd r (λ x. x ≡ e) → outcome_of r ≡ outcome_of (Err e)
outcome_err r e is = let at = err_from_is_err_and r is in rw (at.1, at.2) refl

pub outcome_passed : {p : Row CopyOutcome} {old new : Link} {k l : AuthState} (r : Result PushReport DocumentsRefusal) (e : DocumentsRefusal) → IsErrAnd r (λ x. x ≡ e) → Meets is_memory p old new k l (outcome_of (Err e)) → Meets is_memory p old new k l (outcome_of r)
outcome_passed r e is met = rw (outcome_err r e is) met

-- memory ran out before the first request
pub uncopied : {p : Row CopyOutcome} {link : Link} {k : AuthState} (r : Result PushReport DocumentsRefusal) → IsErrAnd r (λ x. x ≡ copying.WantOfMemory) → Meets is_memory p link link k k (outcome_of r)
uncopied {p} {link} {k} r is = rw (outcome_err r copying.WantOfMemory is) (Meets-memory is_memory p link k refusal.WantOfMemory refl)

-- ---- the pushes of documents

-- pushes that were made, and then one of those after them that was refused
stopped_later : {s : Context} {target : Reference} {ps qs : List Push} {old mid new : Link} {k j l : AuthState} {digest : List ℕ} {e : OciDistributionError} → Made s target ps old mid k j → Stopped s target qs mid new j l digest e → Stopped s target (ps ++ qs) old new k l digest e
stopped_later {ps = ps} made h = record {
  made = ps ++ h.made;
  push = h.push;
  left = h.left;
  split = ap (λ rest. ps ++ rest) h.split ∙ sym (append_assoc ps h.made (h.push ∷ h.left));
  digest_is = h.digest_is;
  mid = h.mid;
  between = h.between;
  pushed = (made.met h.made h.mid h.between (Ok tt) (record { outcome = h.pushed })).outcome;
  refused = h.refused;
}

module _ (s : Context) (target : Reference) (p : Parts) where
  pub first_refused : {old new : Link} {k l : AuthState} (e : OciDistributionError) → ((rest : List Push) → Meets is_memory (all_pushed s target (p.first ++ rest)) old new k l (Err e)) → Meets is_memory (parts_pushed s target p) old new k l (Err e)
  unfolding parts_pushed
  first_refused {old} {new} {k} {l} e met = Meets-refused _ (subst (λ ps. Meets is_memory (all_pushed s target ps) old new k l (Err e)) (append-nil p.first) (met []))

  pub document_refused : {old mid new : Link} {k j l : AuthState} (e : OciDistributionError) → Made s target p.first old mid k j → Meets is_memory (push_row s target p.document) mid new j l (Err e) → Meets is_memory (parts_pushed s target p) old new k l (Err e)
  unfolding parts_pushed
  document_refused e made met = and_then _ (made_all s target made) (Meets-refused _ met)

  pub after_refused : {old mid more new : Link} {k j i l : AuthState} {url : List ℕ} (e : OciDistributionError) → Made s target p.first old mid k j → Meets is_memory (push_row s target p.document) mid more j i (Ok url) → ((rest : List Push) → Meets is_memory (all_pushed s target (p.after ++ rest)) more new i l (Err e)) → Meets is_memory (parts_pushed s target p) old new k l (Err e)
  unfolding parts_pushed
  after_refused {more = more} {new = new} {i = i} {l = l} e made document met = and_then _ (made_all s target made) (and_then _ document (Meets-refused _ (subst (λ ps. Meets is_memory (all_pushed s target ps) more new i l (Err e)) (append-nil p.after) (met []))))

  pub parts_met : {old mid more new : Link} {k j i l : AuthState} {url : List ℕ} → Made s target p.first old mid k j → Meets is_memory (push_row s target p.document) mid more j i (Ok url) → Made s target p.after more new i l → Meets is_memory (parts_pushed s target p) old new k l (Ok url)
  unfolding parts_pushed
  parts_met made document after = and_then _ (made_all s target made) (and_then _ document (and_then _ (made_all s target after) done))

  pub first_stopped : (old new : Link) (k l : AuthState) (e : PushRefusal) → IfRefused e (λ digest error. (rest : List Push) → Stopped s target (p.first ++ rest) old new k l digest error × (is_memory error ≡ false)) → IfRefused e (λ digest error. Stopped s target (all_of p) old new k l digest error × (is_memory error ≡ false))
  first_stopped old new k l (Refused digest error) h = h (p.document ∷ p.after)
  first_stopped old new k l WantOfMemory h = tt

  pub document_stopped : {old mid new : Link} {k j l : AuthState} (e : PushRefusal) → Made s target p.first old mid k j → IsRefusalOf (push_digest p.document) e → Meets is_memory (push_row s target p.document) mid new j l (Err (error_of e)) → IfRefused e (λ digest error. Stopped s target (all_of p) old new k l digest error × (is_memory error ≡ false))
  document_stopped e made is met = stopped_by s target p.document e made is met p.after

  pub after_stopped : {old mid more : Link} (new : Link) {k j i : AuthState} (l : AuthState) {url : List ℕ} (e : PushRefusal) → Made s target p.first old mid k j → Meets is_memory (push_row s target p.document) mid more j i (Ok url) → IfRefused e (λ digest error. (rest : List Push) → Stopped s target (p.after ++ rest) more new i l digest error × (is_memory error ≡ false)) → IfRefused e (λ digest error. Stopped s target (all_of p) old new k l digest error × (is_memory error ≡ false))
  after_stopped new l (Refused digest error) made document h =
      let at = h [] in
      (stopped_in (append_assoc p.first (p.document ∷ []) p.after) (stopped_later (made_next s target p.document made document) (stopped_in (append-nil p.after) at.0)), at.1)
  after_stopped new l WantOfMemory made document h = tt

  pub parts_digests : {pushed one two three : List (List ℕ)} → pushed ≡ [] → one ≡ pushed ++ digests_of p.first → two ≡ one ++ push_digest p.document ∷ [] → three ≡ two ++ digests_of p.after → three ≡ digests_of (all_of p)
  parts_digests none one_is two_is three_is =
      three_is ∙ ap (λ ds. ds ++ digests_of p.after) two_is ∙ ap (λ ds. (ds ++ push_digest p.document ∷ []) ++ digests_of p.after) (one_is ∙ ap (λ ds. ds ++ digests_of p.first) none)
      ∙ append_assoc (digests_of p.first) (push_digest p.document ∷ []) (digests_of p.after)
      ∙ sym (mapped push_digest p.first (p.document ∷ p.after))

-- ---- the questions, and the pushes after them

module _ (s : Context) (target : Reference) (a : RegistryAuth) (digests : List (List ℕ)) (p : Parts) where
  pub asked_ended : {old new : Link} {k l : AuthState} (e : DocumentsRefusal) → Meets is_memory (blobs_asked s target a digests) old new k l (missing_of (Err e)) → Meets is_memory (parts_copied s target a digests p) old new k l (outcome_of (Err e))
  unfolding parts_copied
  asked_ended (copying.Missing digest) met = and_then (unless_missing s target p) met done
  asked_ended (copying.Refused digest error) met = Meets-refused (unless_missing s target p) met
  asked_ended copying.WantOfMemory met = Meets-refused (unless_missing s target p) met

  pub copy_met : {old mid new : Link} {k j l : AuthState} (report : PushReport) → Meets is_memory (blobs_asked s target a digests) old mid k j (Ok None) → Meets is_memory (parts_pushed s target p) mid new j l (Ok report.manifest_url) → Meets is_memory (parts_copied s target a digests p) old new k l (outcome_of (Ok report))
  unfolding parts_copied
  copy_met report asked met = and_then (unless_missing s target p) asked (and_then _ met done)

  pub copy_refused : {old mid new : Link} {k j l : AuthState} (e : PushRefusal) → Meets is_memory (blobs_asked s target a digests) old mid k j (Ok None) → Meets is_memory (parts_pushed s target p) mid new j l (Err (error_of e)) → Meets is_memory (parts_copied s target a digests p) old new k l (outcome_of (Err (of_push e)))
  unfolding parts_copied
  copy_refused (Refused digest error) asked met = and_then (unless_missing s target p) asked (Meets-refused _ met)
  copy_refused WantOfMemory asked met = and_then (unless_missing s target p) asked (Meets-refused _ met)

module _ (s : Context) (target : Reference) (digests : List (List ℕ)) (pushes : List Push) where
  pub stopped_asking : (old new : Link) (k l : AuthState) (e : DocumentsRefusal) → StoppedAsking s target digests old new k l e → StoppedCopy s target digests pushes old new k l e
  stopped_asking old new k l (copying.Missing digest) h = h
  stopped_asking old new k l (copying.Refused digest error) h = (inl h.0, h.1)
  stopped_asking old new k l copying.WantOfMemory h = tt

  pub stopped_pushing : {old mid : Link} (new : Link) {k j : AuthState} (l : AuthState) (e : PushRefusal) → Performs (first_missing s target digests) old mid k j (Ok None) → IfRefused e (λ digest error. Stopped s target pushes mid new j l digest error × (is_memory error ≡ false)) → StoppedCopy s target digests pushes old new k l (of_push e)
  stopped_pushing {mid = mid} new {j = j} l (Refused digest error) there h = (inr (record { mid = mid; between = j; all_there = there; stopped = h.0 }), h.1)
  stopped_pushing new l WantOfMemory there h = tt

-- ---- credentials

nothing_pushed : (s : Context) (target : Reference) (k : AuthState) → Within (asking k s target ForPush None) s.settings k []
nothing_pushed s target k = record { confined = tt; kept = λ key at token there. inl there; stored = λ registry a there. inl there }

module _ (s : Context) (target : Reference) (a : RegistryAuth) where
  pub asked_only : {old new : Link} {k l : AuthState} → Told (Within (pulling k s target (Some a)) s.settings l) old new → Told (CopyWithin k s target a l) old new
  asked_only {l = l} asked = record {
    conversation = asked.conversation;
    told = asked.told;
    holds = record {
      asked = asked.conversation;
      pushed = [];
      split = sym (append-nil asked.conversation);
      between = l;
      questions = asked.holds;
      pushes = nothing_pushed s target l;
    };
  }

  pub asked_pushed : {old mid new : Link} {k j l : AuthState} → Told (Within (pulling k s target (Some a)) s.settings j) old mid → Told (Within (asking j s target ForPush None) s.settings l) mid new → Told (CopyWithin k s target a l) old new
  asked_pushed {old} {mid} {new} {j = j} asked pushed = record {
    conversation = asked.conversation ++ pushed.conversation;
    told = Extends-more old mid new asked.conversation pushed.conversation asked.told pushed.told;
    holds = record {
      asked = asked.conversation;
      pushed = pushed.conversation;
      split = refl;
      between = j;
      questions = asked.holds;
      pushes = pushed.holds;
    };
  }

  pub not_asked : (link : Link) (k : AuthState) → Told (CopyWithin k s target a k) link link
  not_asked link k = asked_only (record { conversation = []; told = Extends-none link; holds = record { confined = tt; kept = λ key at token there. inl there; stored = λ registry a there. inl there } })

parts_stays : (k : AuthState) (s : Context) (target : Reference) (p : Parts) → mirror_of target ≡ None → AreIn target p → Stays (pushing k s target None) s.settings (parts_pushed s target p)
unfolding parts_pushed
parts_stays k s target p none are =
    let x = pushing k s target None in
    stays_next x s.settings (all_pushed s target p.first) _ (all_stays k s target None none p.first are.0) (λ u.
    stays_next x s.settings (push_row s target p.document) _ (push_stays k s target None none p.document are.1.0) (λ url.
    stays_next x s.settings (all_pushed s target p.after) _ (all_stays k s target None none p.after are.1.1) (λ v.
    stays_done x s.settings (Ok url))))

pub parts_confined : (s : Context) (target : Reference) (p : Parts) {old new : Link} {k l : AuthState} {r : Result (List ℕ) OciDistributionError} → mirror_of target ≡ None → AreIn target p → Meets is_memory (parts_pushed s target p) old new k l r → Told (Within (asking k s target ForPush None) s.settings l) old new
parts_confined s target p {k = k} none are met = stays_told s target None (parts_pushed s target p) (parts_stays k s target p none are) met

-- ---- what is pushed for documents

entry_in : (target : Reference) (o : Option (List ℕ)) (digest bytes : List ℕ) → Every (IsIn target) (entry_by o (manifest_push digest bytes target))
entry_in target None digest bytes = tt
entry_in target (Some list) digest bytes = ((None, Some digest, refl), tt)

tagged_in : (d : VerifiedDocuments) (target : Reference) → mirror_of target ≡ None → AreIn target (tagged_parts d target)
tagged_in d target none = (
  every_both (IsIn target) (signature_blobs d) (entry_by d.list_digest (manifest_push d.manifest_digest d.manifest_bytes target))
      (every_once (IsIn target) [] (sha256_blob d.signature.content ∷ sha256_blob (codes "{}") ∷ []) (tt, (tt, tt)))
      (entry_in target d.list_digest d.manifest_digest d.manifest_bytes),
  ((target.tag, target.digest, plain_is target none), (signed_in d.signature.kind d.digest (digest_text Sha256 (signature_text d.signature d.digest d.first)) target, tt)),
)

pub parts_in : (tag : Bool) (d : VerifiedDocuments) (target : Reference) → mirror_of target ≡ None → AreIn target (parts_of tag d target)
parts_in true d target none = tagged_in d target none
parts_in false d target none = (tt, ((None, Some d.manifest_digest, refl), tt))

entry_names : (target : Reference) (o : Option (List ℕ)) (d : VerifiedDocuments) → AreNamed d → Every IsNamed (entry_by o (manifest_push d.manifest_digest d.manifest_bytes target))
entry_names target None d h = tt
entry_names target (Some list) d h = (h.1, tt)

pub parts_named : (tag : Bool) (d : VerifiedDocuments) (target : Reference) → AreNamed d → All IsNamed (all_of (parts_of tag d target))
parts_named true d target h =
    let p = tagged_parts d target in
    every_all IsNamed (all_of p) (every_both IsNamed p.first (p.document ∷ p.after)
    (every_both IsNamed (signature_blobs d) (entry_by d.list_digest (manifest_push d.manifest_digest d.manifest_bytes target))
    (every_once IsNamed [] (sha256_blob d.signature.content ∷ sha256_blob (codes "{}") ∷ []) ((Sha256, refl), ((Sha256, refl), tt)))
    (entry_names target d.list_digest d h))
    (h.0, ((Sha256, refl), tt)))
parts_named false d target h = every_all IsNamed (all_of (manifest_parts d target)) (h.1, tt)

-- ---- faults

same_fault : (e : OciDistributionError) → (let r : Result CopyOutcome OciDistributionError = Err e in r) ≡ Err refusal.TransportFault → e ≡ refusal.TransportFault
same_fault e is = cc is

pub copy_fault : (s : Context) (target : Reference) (digests : List (List ℕ)) (pushes : List Push) (old new : Link) (k l : AuthState) (r : Result PushReport DocumentsRefusal) → IfErr r (StoppedCopy s target digests pushes old new k l) → FaultCounted old new (outcome_of r)
copy_fault s target digests pushes old new k l (Ok report) h = λ fault. absurd (cc fault)
copy_fault s target digests pushes old new k l (Err (copying.Missing digest)) h = λ fault. absurd (cc fault)
copy_fault s target digests pushes old new k l (Err copying.WantOfMemory) h = λ fault. absurd (cc fault)
copy_fault s target digests pushes old new k l (Err (copying.Refused digest error)) (inl asked, plain) = λ fault. asked_fault error asked (same_fault error fault)
copy_fault s target digests pushes old new k l (Err (copying.Refused digest error)) (inr pushing, plain) = λ fault.
    still_more old.faults pushing.mid.faults new.faults (asked_count pushing) (stopped_fault error pushing.stopped (same_fault error fault)) where
      asked_count : (h : StoppedPushing s target digests pushes old new k l digest error) → old.faults ≤ h.mid.faults
      asked_count h = Runs-count (first_missing s target digests) k h.between old.faults h.mid.faults h.all_there.conversation (Ok None) h.all_there.runs

-- ---- by a plan

module _ {tag : Bool} {d : VerifiedDocuments} {target : Reference} {p : DocumentPlan} (plan : IsDocumentPlan tag d target p) where
  pub pushed_as : (r : Result PushReport DocumentsRefusal) → IfOk r (λ report. report.pushed ≡ digests_of (all_of (parts_planned p.parts))) → IfOk r (λ report. report.pushed ≡ digests_of (all_of (parts_of tag d target)))
  pushed_as (Ok report) h = h ∙ ap (λ (x : Parts). digests_of (all_of x)) plan.parts
  pushed_as (Err e) h = tt

  pub stopped_as : (s : Context) (old new : Link) (k l : AuthState) (r : Result PushReport DocumentsRefusal) → IfErr r (StoppedCopy s target p.asked (all_of (parts_planned p.parts)) old new k l) → IfErr r (StoppedCopy s target (blobs_named d.manifest) (all_of (parts_of tag d target)) old new k l)
  stopped_as s old new k l (Ok report) h = tt
  stopped_as s old new k l (Err e) h =
      subst (λ (x : Parts). StoppedCopy s target (blobs_named d.manifest) (all_of x) old new k l e) plan.parts
      (subst (λ (ds : List (List ℕ)). StoppedCopy s target ds (all_of (parts_planned p.parts)) old new k l e) plan.asked h)

  pub planned_in : mirror_of target ≡ None → AreIn target (parts_planned p.parts)
  planned_in none = subst (AreIn target) (sym plan.parts) (parts_in tag d target none)
