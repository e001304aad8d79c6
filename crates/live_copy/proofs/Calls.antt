-- A call of a client by a transport over the streams, by the frames that carried it.
use Rattle.std.proofs.Common.{◌≡◌, inl, inr, ℕ, [], Bool, Option, Result, Ok, Err, IfOk, IfErr, subst}
use Rattle.oci_auth.specs.declared.auth.RegistryAuth.{RegistryAuth}
use Rattle.oci_auth.specs.declared.auth_state.AuthState.{AuthState}
use Rattle.oci_names.specs.declared.reference.Reference.{Reference}
use Rattle.oci_protocol.specs.Runs.{Meets, Performs, Runs, Told}
use Rattle.oci_transport.specs.Link.{Link}
use Rattle.engine_rows.specs.Rows.{Row}
use Rattle.engine_terms.specs.Contexts.{Context}
use Rattle.engine_terms.specs.Error.{is_memory}
use Rattle.engine_terms.specs.declared.error.OciDistributionError.{OciDistributionError}
use Rattle.cosign_chain.specs.declared.verified_documents.VerifiedDocuments.{VerifiedDocuments}
use Rattle.live_link.specs.State.{told_from}
use Rattle.live_link.specs.declared.stage.Breach.{Breach}
use Rattle.live_host.specs.Wire.{Wire}
use Rattle.live_pull.proofs.CarriedCalls.{Lets, shown}
use Rattle.pull_mirror.specs.Asked.{CopyWithin, StoppedCopy, outcome_of}
use Rattle.pull_mirror.specs.DocumentCopies.{documents_copied}
use Rattle.pull_mirror.specs.DocumentPushes.{all_of, blobs_named, parts_of}
use Rattle.pull_mirror.specs.Pushes.{digests_of}
use Rattle.pull_mirror.specs.declared.absences.DocumentsRefusal.{DocumentsRefusal}
use Rattle.pull_mirror.specs.declared.absences.DocumentsRefusal.TheVariants.{Missing, Refused, WantOfMemory}
use Rattle.pull_mirror.specs.declared.refusals.PushReport.{PushReport}
use Rattle.cosign_rows.specs.References.{tag_reference}
use Rattle.live_copy.specs.FreeTargets.{target_free}
use Rattle.live_copy.specs.Taken.{IsOfTarget, TagsWithin, taken_of}
use Rattle.live_copy.specs.declared.refusals.TargetRefusal.{TargetRefusal}
use Rattle.live_copy.specs.declared.refusals.TargetRefusal.TheVariants.{Taken, Unread}
use Rattle.live_copy.specs.declared.refusals.TargetRefusal.TheVariants as tags
use Rattle.live_copy.specs.Course.{AskedTags, ByFrames, Pushed, UnlessMemory, UnlessTagsMemory}

-- what a refused copy states
abbrev StoppedIf : Context → Reference → Bool → VerifiedDocuments → Link → Link → AuthState → AuthState → Result PushReport DocumentsRefusal → Type 0
StoppedIf s image tag d first last from l r = IfErr r (StoppedCopy s image (blobs_named d.manifest) (all_of (parts_of tag d image)) first last from l)

module _ (first last : Link) (breach : Option Breach) (old new : Wire) (told : first.told ≡ told_from old.sink.taken old.source.left []) (none : first.faults ≡ 0) (lets : Lets last breach new.sink new.source) where
  carried : {A : Type 0} (row : Row A) (k l : AuthState) (r : Result A OciDistributionError) → Performs row first last k l r → ByFrames row old new k l r
  carried row k l r performed =
      let it = shown (λ c. Runs row k 0 c last.faults l r) first last breach old new told (record {
        conversation = performed.conversation;
        told = performed.told;
        holds = subst (λ (m : ℕ). Runs row k m performed.conversation last.faults l r) none performed.runs;
      }) lets in
      record { conversation = it.0; faults = last.faults; runs = it.2; carried = it.1 }

  module _ (s : Context) (image : Reference) (a : RegistryAuth) (tag : Bool) (d : VerifiedDocuments) (k l : AuthState) (confined : Told (CopyWithin k s image a l) first last) where
    pushed_by : (r : Result PushReport DocumentsRefusal) → Performs (documents_copied s image a tag d) first last k l (outcome_of r) → IfOk r (λ report. report.pushed ≡ digests_of (all_of (parts_of tag d image))) → Pushed s image a tag d k r old new
    pushed_by r performed digests = record {
      left = l;
      run = carried (documents_copied s image a tag d) k l (outcome_of r) performed;
      digests = by_report r digests;
      confined = shown (CopyWithin k s image a l) first last breach old new told confined lets;
    } where
      by_report : (r : Result PushReport DocumentsRefusal) → IfOk r (λ report. report.pushed ≡ digests_of (all_of (parts_of tag d image))) → (report : PushReport) → r ≡ Ok report → report.pushed ≡ digests_of (all_of (parts_of tag d image))
      by_report (Ok made) h report is = let same : made ≡ report = cc is in subst (λ (x : PushReport). x.pushed ≡ digests_of (all_of (parts_of tag d image))) same h
      by_report (Err e) h report is = absurd (cc is)

    -- a copy that did not run out of memory
    pub pushed : (r : Result PushReport DocumentsRefusal) (from : AuthState) → Meets is_memory (documents_copied s image a tag d) first last k l (outcome_of r) → IfOk r (λ report. report.pushed ≡ digests_of (all_of (parts_of tag d image)))
        → StoppedIf s image tag d first last from l r → UnlessMemory r (Pushed s image a tag d k r old new)
    pushed (Ok report) from met digests stopped = pushed_by (Ok report) met.outcome digests
    pushed (Err (Missing digest)) from met digests stopped = λ kept. pushed_by (Err (Missing digest)) met.outcome digests
    pushed (Err (Refused digest error)) from met digests stopped = λ kept. pushed_by (Err (Refused digest error)) (rw stopped.1 at met.outcome) digests
    pushed (Err WantOfMemory) from met digests stopped = λ kept. absurd (cc kept)

  module _ (s : Context) (image : Reference) (a : RegistryAuth) (d : VerifiedDocuments) (k l : AuthState) (confined : Told (TagsWithin k s image (tag_reference image d.digest) a l) first last) where
    asked_by : (r : Result (Unit {0}) TargetRefusal) → Performs (target_free s image a d) first last k l (taken_of r) → AskedTags s image a d k l r old new
    asked_by r performed = record {
      run = carried (target_free s image a d) k l (taken_of r) performed;
      confined = shown (TagsWithin k s image (tag_reference image d.digest) a l) first last breach old new told confined lets;
    }

    -- questions about tags that did not run out of memory
    pub asked : (r : Result (Unit {0}) TargetRefusal) → Meets is_memory (target_free s image a d) first last k l (taken_of r) → IfErr r (IsOfTarget s image a d first last k l) → UnlessTagsMemory r (AskedTags s image a d k l r old new)
    asked (Ok u) met stopped = asked_by (Ok u) met.outcome
    asked (Err (Taken reference digest)) met stopped = λ kept. asked_by (Err (Taken reference digest)) met.outcome
    asked (Err (Unread reference error)) met (inl h) = λ kept. asked_by (Err (Unread reference error)) (rw h.1.no_memory at met.outcome)
    asked (Err (Unread reference error)) met (inr h) = λ kept. asked_by (Err (Unread reference error)) (rw h.signature.1.no_memory at met.outcome)
    asked (Err tags.WantOfMemory) met stopped = λ kept. absurd (cc kept)
