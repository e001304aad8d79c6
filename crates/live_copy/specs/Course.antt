-- The course of a copy: the documents are decided on and sent, the target is asked what its tags name, the host carries
-- the blobs, and the documents are pushed.
use Rattle.std.specs.Prelude.{◌≡◌, ◌⊎◌, ℕ, Bool, true, false, List, [], ◌∷◌, None, Result, Ok, Err, codes}
use Rattle.std.specs.Str.{IsUtf8}
use Rattle.serde_json.specs.Data.{Data}
use Rattle.oci_auth.specs.AuthState.{fresh}
use Rattle.oci_auth.specs.declared.auth.RegistryAuth.{RegistryAuth}
use Rattle.oci_auth.specs.declared.auth_state.AuthState.{AuthState}
use Rattle.oci_names.specs.Reference.{reference_of}
use Rattle.oci_names.specs.declared.reference.Reference.{Reference}
use Rattle.oci_protocol.specs.Runs.{Runs}
use Rattle.oci_transport.specs.declared.message.Exchange.{Exchange}
use Rattle.engine_terms.specs.Contexts.{Context}
use Rattle.engine_terms.specs.declared.error.OciDistributionError.{OciDistributionError}
use Rattle.engine_rows.specs.Rows.{Row}
use Rattle.cosign_chain.specs.declared.verified_documents.VerifiedDocuments.{VerifiedDocuments}
use Rattle.cosign_rows.specs.References.{tag_reference}
use Rattle.cosign_rows.specs.Refusal.{is_memory}
use Rattle.cosign_rows.specs.declared.refusal.PullRefusal.{PullRefusal}
use Rattle.pull_report.specs.Words.{line}
use Rattle.live_host.specs.Heads.{refused_head}
use Rattle.live_host.specs.HostErrors.{SendsPrefix, TellCause}
use Rattle.live_host.specs.Wire.{Wire, ReceivesFrame, ReceivesNone, SendsAndReceives, SendsFrame}
use Rattle.live_host.specs.declared.streams.HostError.{HostError}
use Rattle.live_host.specs.declared.streams.HostError.TheVariants as host
use Rattle.live_pull.specs.Decided.{LiveDocumentsCut}
use Rattle.live_pull.specs.Justified.{Shown}
use Rattle.live_pull.specs.Pulls.{Carries}
use Rattle.live_pull.specs.declared.status.Status.{Status}
use Rattle.live_pull.specs.declared.status.Status.TheVariants as status
use Rattle.live_pull.specs.LiveDocuments.{LiveDocuments}
use Rattle.pull_mirror.specs.Absences.{documents_print}
use Rattle.pull_mirror.specs.Asked.{CopyWithin, outcome_of}
use Rattle.pull_mirror.specs.DocumentCopies.{documents_copied}
use Rattle.pull_mirror.specs.DocumentPushes.{all_of, parts_of}
use Rattle.pull_mirror.specs.Pushes.{digests_of}
use Rattle.pull_mirror.specs.declared.absences.DocumentsRefusal.{DocumentsRefusal}
use Rattle.pull_mirror.specs.declared.absences.DocumentsRefusal.TheVariants.{Missing, Refused, WantOfMemory}
use Rattle.pull_mirror.specs.declared.refusals.PushReport.{PushReport}
use Rattle.live_copy.specs.FreeTargets.{target_free}
use Rattle.live_copy.specs.Prints.{target_print}
use Rattle.live_copy.specs.Taken.{TagsWithin, taken_of}
use Rattle.live_copy.specs.declared.refusals.TargetRefusal.{TargetRefusal}
use Rattle.live_copy.specs.declared.refusals.TargetRefusal.TheVariants.{Taken, Unread}
use Rattle.live_copy.specs.declared.refusals.TargetRefusal.TheVariants as tags
use Rattle.live_copy.specs.Heads.{carried_of, carry_head, copied_head, side_head}
use Rattle.live_copy.specs.Opening.{asks_tags, target_context}
use Rattle.live_copy.specs.declared.settings.CopySettings.{CopySettings}

-- ---- the pushes

-- a complete run of this row, by the frames that were sent and received
pub record ByFrames {A : Type 0} (row : Row A) (old new : Wire) (k l : AuthState) (r : Result A OciDistributionError)
    : Type 0 where
  pub conversation : List Exchange
  pub faults : ℕ
  pub runs : Runs row k 0 conversation faults l r
  pub carried : Carries conversation old new

-- The documents were copied, from this client state on: the target was asked whether it has each blob, and then they
-- were pushed; credentials and tokens were sent only to the target's registry and to the realm that it names.
pub record Pushed (s : Context) (image : Reference) (a : RegistryAuth) (tag : Bool) (d : VerifiedDocuments)
    (k : AuthState) (r : Result PushReport DocumentsRefusal) (old new : Wire) : Type 0 where
  pub left : AuthState
  pub run : ByFrames (documents_copied s image a tag d) old new k left (outcome_of r)
  pub digests : (report : PushReport) → r ≡ Ok report → report.pushed ≡ digests_of (all_of (parts_of tag d image))
  pub confined : Shown (CopyWithin k s image a left) old new

-- ---- the questions about tags

-- The target was asked what its tags name, from this client state on, as `free_target` does; credentials and tokens
-- were sent only to the target's registry and to the realm that it names.
pub record AskedTags (s : Context) (image : Reference) (a : RegistryAuth) (d : VerifiedDocuments) (k l : AuthState)
    (r : Result (Unit {0}) TargetRefusal) (old new : Wire) : Type 0 where
  pub run : ByFrames (target_free s image a d) old new k l (taken_of r)
  pub confined : Shown (TagsWithin k s image (tag_reference image d.digest) a l) old new

-- Or no request was sent, since the tags may be replaced or none is pushed.
abbrev pub TagsAsked : Bool → Context → Reference → RegistryAuth → VerifiedDocuments → AuthState → AuthState
    → Result (Unit {0}) TargetRefusal → Wire → Wire → Type 0
TagsAsked true s image a d k l r old new = AskedTags s image a d k l r old new
TagsAsked false s image a d k l r old new = (r ≡ Ok tt) × (l ≡ k) × (new ≡ old)

-- ---- why a copy was refused

-- a tag of the target, or a blob or a request to it
pub data CopyRefusal : Type 0 where
  OfTags : (e : TargetRefusal) → CopyRefusal
  OfDocuments : (e : DocumentsRefusal) → CopyRefusal

abbrev pub copied_of : Result PushReport DocumentsRefusal → Result PushReport CopyRefusal
copied_of (Ok report) = Ok report
copied_of (Err e) = Err (OfDocuments e)

-- whether memory ran out
abbrev pub tags_ran_out : TargetRefusal → Bool
tags_ran_out (Taken reference digest) = false
tags_ran_out (Unread reference error) = false
tags_ran_out tags.WantOfMemory = true

abbrev pub ran_out : DocumentsRefusal → Bool
ran_out (Missing digest) = false
ran_out (Refused digest error) = false
ran_out WantOfMemory = true

abbrev pub copy_ran_out : CopyRefusal → Bool
copy_ran_out (OfTags e) = tags_ran_out e
copy_ran_out (OfDocuments e) = ran_out e

-- it did not
abbrev pub IsKept : Result PushReport CopyRefusal → Type 0
IsKept (Ok report) = Unit {0}
IsKept (Err e) = copy_ran_out e ≡ false

-- unless memory ran out
abbrev pub UnlessMemory : Result PushReport DocumentsRefusal → Type 0 → Type 0
UnlessMemory (Ok report) P = P
UnlessMemory (Err e) P = ran_out e ≡ false → P

abbrev pub UnlessTagsMemory : Result (Unit {0}) TargetRefusal → Type 0 → Type 0
UnlessTagsMemory (Ok u) P = P
UnlessTagsMemory (Err e) P = tags_ran_out e ≡ false → P

-- ---- what was done at the target

-- Its tags may be pushed; the host replied that it carried the blobs; and the documents were copied.
pub record Copied (asks : Bool) (s : Context) (image : Reference) (a : RegistryAuth) (tag : Bool)
    (d : VerifiedDocuments) (k : AuthState) (r : Result PushReport DocumentsRefusal) (old new : Wire) : Type 0 where
  pub free_at : Wire
  pub left : AuthState
  pub free : TagsAsked asks s image a d k left (Ok tt) old free_at
  pub carried_at : Wire
  pub carried : SendsAndReceives carry_head [] carried_of tt free_at carried_at
  pub pushed : Pushed s image a tag d left r carried_at new

-- Or a tag refused the copy, and nothing else was sent to the target.
abbrev pub AtTarget : Bool → Context → Reference → RegistryAuth → Bool → VerifiedDocuments → AuthState
    → Result PushReport CopyRefusal → Wire → Wire → Type 0
AtTarget asks s image a tag d k (Ok report) old new = Copied asks s image a tag d k (Ok report) old new
AtTarget asks s image a tag d k (Err (OfDocuments e)) old new = Copied asks s image a tag d k (Err e) old new
AtTarget asks s image a tag d k (Err (OfTags e)) old new =
    (left : AuthState) × TagsAsked asks s image a d k left (Err e) old new

-- ---- what is sent at the end

abbrev pub refusal_print : CopyRefusal → List ℕ
refusal_print (OfTags e) = target_print e
refusal_print (OfDocuments e) = documents_print e

abbrev pub refused_line : List ℕ → List ℕ
refused_line print = line (codes "refused" ∷ print ∷ [])

-- the line of a refusal of this print, or nothing if it is not UTF-8
abbrev pub IsReport : List ℕ → List ℕ → Type 0
IsReport print report = (report ≡ refused_line print) ⊎ ((IsUtf8 (refused_line print) → ⊥) × (report ≡ []))

abbrev pub RefusalTold : List ℕ → Wire → Wire → Type 0
RefusalTold print old new = (report : List ℕ) × IsReport print report × SendsFrame (refused_head report) [] old new

-- what was pushed, or the refusal
abbrev pub CopyTold : Result PushReport CopyRefusal → Wire → Wire → Type 0
CopyTold (Ok report) old new = SendsFrame (copied_head report.manifest_url report.pushed) [] old new
CopyTold (Err e) old new = RefusalTold (refusal_print e) old new

-- why the line of a refusal of this print was not sent
abbrev pub RefusalCut : List ℕ → HostError → Wire → Wire → Type 0
RefusalCut print host.Broken old new = ⊥
RefusalCut print host.Unwritten old new =
    (report : List ℕ) × IsReport print report × SendsPrefix (refused_head report, []) old new
RefusalCut print host.WantOfMemory old new = Unit {0}

-- why neither was sent
abbrev pub OutcomeCut : HostError → Result PushReport CopyRefusal → Wire → Wire → Type 0
OutcomeCut e (Ok report) old new = TellCause (copied_head report.manifest_url report.pushed, []) e old new
OutcomeCut e (Err refusal) old new = RefusalCut (refusal_print refusal) e old new

-- ---- all of it

-- what was sent for a result
abbrev pub Giving : Type 1
Giving = Result PushReport CopyRefusal → Wire → Wire → Type 0

-- Documents that hold were decided on and sent, and what follows goes to the target of this reference.
pub record AtSource (settings : CopySettings) (image : Reference) (d : VerifiedDocuments) (old new : Wire)
    : Type 0 where
  pub reads : reference_of settings.target.reference ≡ Ok image
  pub decided_at : Wire
  pub documents : LiveDocuments settings.settings (Ok d) old decided_at
  pub side : SendsFrame side_head [] decided_at new

-- Then, unless the target's tags may be replaced, it was asked what they name; only if they may be pushed, the host
-- carried the blobs and the documents were copied. What became of it was sent, in frames for which `Gives` holds.
pub record LiveCopyBy (Gives : Giving) (settings : CopySettings) (d : VerifiedDocuments)
    (r : Result PushReport CopyRefusal) (old new : Wire) : Type 0 where
  pub image : Reference
  pub side_at : Wire
  pub source : AtSource settings image d old side_at
  pub target_at : Wire
  pub target : AtTarget (asks_tags settings) (target_context settings) image settings.target.auth settings.tag d
      (fresh 60) r side_at target_at
  pub given : Gives r target_at new

abbrev pub LiveCopy : CopySettings → VerifiedDocuments → Result PushReport CopyRefusal → Wire → Wire → Type 0
LiveCopy = LiveCopyBy CopyTold

-- ---- not to its end

-- the documents were decided on and sent, but not that what follows goes to the target
pub record SideCut (settings : CopySettings) (e : HostError) (old new : Wire) : Type 0 where
  pub found : VerifiedDocuments
  pub decided_at : Wire
  pub documents : LiveDocuments settings.settings (Ok found) old decided_at
  pub side : TellCause (side_head, []) e decided_at new

-- no frame was received, or one that is not `carried`
abbrev pub ReceivesOther : Wire → Wire → Type 0
ReceivesOther old new = ReceivesNone old new ⊎ ((d : Data) × ReceivesFrame d old new × (carried_of d ≡ None))

-- why the host did not reply that it carried the blobs
abbrev pub CarryCut : HostError → Wire → Wire → Type 0
CarryCut host.Broken old new = (asked_at : Wire) × SendsFrame carry_head [] old asked_at × ReceivesOther asked_at new
CarryCut host.Unwritten old new = SendsPrefix (carry_head, []) old new
CarryCut host.WantOfMemory old new = Unit {0}

-- the target's tags may be pushed, but the host did not reply that it carried the blobs
pub record Uncarried (asks : Bool) (s : Context) (image : Reference) (a : RegistryAuth) (d : VerifiedDocuments)
    (k : AuthState) (e : HostError) (old new : Wire) : Type 0 where
  pub free_at : Wire
  pub left : AuthState
  pub free : TagsAsked asks s image a d k left (Ok tt) old free_at
  pub carry : CarryCut e free_at new

-- the same from the settings on
pub record CarryingCut (settings : CopySettings) (e : HostError) (old new : Wire) : Type 0 where
  pub found : VerifiedDocuments
  pub image : Reference
  pub side_at : Wire
  pub source : AtSource settings image found old side_at
  pub target : Uncarried (asks_tags settings) (target_context settings) image settings.target.auth found (fresh 60) e
      side_at new

-- all was done, as `Does` says of the result, but this was not sent; it is not that memory ran out
abbrev pub ResultCut : (Giving → Result PushReport CopyRefusal → Type 0) → HostError → Type 0
ResultCut Does e = (r : Result PushReport CopyRefusal) × IsKept r × Does (OutcomeCut e) r

-- Why a copy ended before its result was sent: the documents were not decided on, or not all sent; or they were, but
-- one of the frames that follow them was not sent, or no reply to one was received.
abbrev pub CopyCut : CopySettings → HostError → Wire → Wire → Type 0
CopyCut settings e old new = LiveDocumentsCut settings.settings e old new ⊎ (SideCut settings e old new
    ⊎ (CarryingCut settings e old new
    ⊎ ((d : VerifiedDocuments) × ResultCut (λ Gives r. LiveCopyBy Gives settings d r old new) e)))

-- ---- how it ends

-- the documents were refused at the source, or the copy was at the target
abbrev pub RefusedCopy : CopySettings → Wire → Wire → Type 0
RefusedCopy settings old new =
    ((e : PullRefusal) × (is_memory e ≡ false) × LiveDocuments settings.settings (Err e) old new)
    ⊎ ((d : VerifiedDocuments) × (e : CopyRefusal) × (copy_ran_out e ≡ false) × LiveCopy settings d (Err e) old new)

-- by the status; out of memory guarantees nothing
abbrev pub CopyEnds : CopySettings → Status → Wire → Wire → Type 0
CopyEnds settings status.Pulled old new =
    (d : VerifiedDocuments) × (report : PushReport) × LiveCopy settings d (Ok report) old new
CopyEnds settings status.Refused old new = RefusedCopy settings old new
CopyEnds settings status.UnreadableSettings old new = ⊥
CopyEnds settings status.HostBroken old new = CopyCut settings host.Broken old new
CopyEnds settings status.SinkFault old new = CopyCut settings host.Unwritten old new
CopyEnds settings status.WantOfMemory old new = Unit {0}
