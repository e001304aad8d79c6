-- The copy of an index with all of its images: the images first, and the index last.
use Rattle.std.specs.Prelude.{◌≡◌, ◌⊎◌, ℕ, Bool, false, List, map, bytes_eq, Option, Some, None, option_and_then}
use Rattle.std.specs.Prelude.{Result, Ok, Err, IfErr, IfOk}
use Rattle.oci_manifests.specs.declared.index_entry.ImageIndexEntry.{ImageIndexEntry}
use Rattle.oci_names.specs.Reference.{digest_of}
use Rattle.oci_names.specs.declared.reference.Reference.{Reference}
use Rattle.oci_protocol.specs.Runs.{Meets, Told}
use Rattle.oci_manifests.specs.declared.document.OciManifest.{OciManifest}
use Rattle.oci_manifests.specs.declared.document.OciManifest.TheVariants.{Image, ImageIndex}
use Rattle.engine_terms.specs.Error.{is_memory}
use Rattle.cosign_chain.specs.Documents.{document_in}
use Rattle.cosign_chain.specs.declared.verified_documents.VerifiedDocuments.{VerifiedDocuments}
use Rattle.cosign_layers.specs.Satisfying.{PolicyContext}
use Rattle.pull_mirror.specs.Asked.{CopyWithin, StoppedCopy, outcome_of}
use Rattle.pull_mirror.specs.Copies.{with_stored}
use Rattle.pull_mirror.specs.DocumentCopies.{documents_copied}
use Rattle.pull_mirror.specs.DocumentPushes.{all_of, blobs_named, parts_of}
use Rattle.pull_mirror.specs.Pushes.{digests_of}
use Rattle.pull_mirror.specs.declared.absences.DocumentsRefusal.{DocumentsRefusal}
use Rattle.pull_mirror.specs.declared.absences.DocumentsRefusal.TheVariants as documents
use Rattle.pull_mirror.specs.declared.refusals.PushReport.{PushReport}
use Rattle.index_mirrors.specs.Courses.{AllMirrored, Stage, StoppedAt, Target}
use Rattle.index_mirrors.specs.Terms.{Source}
use Rattle.index_mirrors.specs.declared.refusals.IndexRefusal.{IndexRefusal}
use Rattle.index_mirrors.specs.declared.refusals.IndexRefusal.TheVariants.{NotIndex, Pull, Other, Push, Index}
use Rattle.index_mirrors.specs.declared.refusals.IndexRefusal.TheVariants.{WantOfMemory}

abbrev pub digest_in : ImageIndexEntry → List ℕ
digest_in entry = entry.digest

-- the digests of an index's entries, in order
abbrev pub entries_of : OciManifest → Option (List (List ℕ))
entries_of (ImageIndex index) = Some (map digest_in index.manifests)
entries_of (Image manifest) = None

-- of the index that these bytes parse as, if they are one
abbrev pub entries_in : List ℕ → Option (List (List ℕ))
entries_in bytes = option_and_then entries_of (document_in bytes)

-- whether a reference's digest, if it has one, is this one
abbrev pub has_digest : Option (List ℕ) → List ℕ → Bool
has_digest None own = false
has_digest (Some digest) own = bytes_eq digest own

-- the source's reference has the digest of the document that was signed, which is an index with these entries
pub record IsIndex (s : Source) (d : VerifiedDocuments) (entries : List (List ℕ)) : Type 0 where
  pub index : digest_of s.index ≡ Some d.digest
  pub lists : entries_in d.first ≡ Some entries

-- the push of the index itself, and of its signature, as `push_documents` of `pull_mirror` pushes them
pub record IndexPushed (t : Target) (tag : Bool) (d : VerifiedDocuments) (old new : Stage)
    (r : Result PushReport DocumentsRefusal) : Type 0 where
  pub source : new.source ≡ old.source
  pub run : Meets is_memory (documents_copied t.context t.reference t.auth tag d) old.target new.target old.kept new.kept
      (outcome_of r)
  pub pushed : IfOk r (λ report. report.pushed ≡ digests_of (all_of (parts_of tag d t.reference)))
  pub stopped : IfErr r (StoppedCopy t.context t.reference (blobs_named d.manifest) (all_of (parts_of tag d t.reference))
      old.target new.target (with_stored t.reference t.auth old.kept) new.kept)
  pub confined : Told (CopyWithin old.kept t.context t.reference t.auth new.kept) old.target new.target

-- what the entries are found to be, if there are any
abbrev pub AreEntries : Reference → VerifiedDocuments → Option (List (List ℕ)) → Type 0
AreEntries index d None =
    (entries : List (List ℕ)) → digest_of index ≡ Some d.digest → entries_in d.first ≡ Some entries → ⊥
AreEntries index d (Some entries) = (digest_of index ≡ Some d.digest) × (entries_in d.first ≡ Some entries)

abbrev pub index_refusal : DocumentsRefusal → IndexRefusal
index_refusal documents.WantOfMemory = WantOfMemory
index_refusal (documents.Missing digest) = Index (documents.Missing digest)
index_refusal (documents.Refused digest error) = Index (documents.Refused digest error)

-- how the push of the index ended
abbrev pub IndexEnds : Target → Bool → VerifiedDocuments → Stage → Stage → Result PushReport IndexRefusal → Type 0
IndexEnds t tag d old new (Ok report) = IndexPushed t tag d old new (Ok report)
IndexEnds t tag d old new (Err (Index e)) = IndexPushed t tag d old new (Err e)
IndexEnds t tag d old new (Err WantOfMemory) = IndexPushed t tag d old new (Err documents.WantOfMemory)
IndexEnds t tag d old new (Err NotIndex) = ⊥
IndexEnds t tag d old new (Err (Pull entry e)) = ⊥
IndexEnds t tag d old new (Err (Other entry)) = ⊥
IndexEnds t tag d old new (Err (Push entry digest e)) = ⊥

-- all images of the index were mirrored, and then the index was pushed
pub record IndexCourse {V : Type 0} {H : V → Type 0} (policy_context : PolicyContext V H) (s : Source) (t : Target)
    (tag : Bool) (d : VerifiedDocuments) (old new : Stage) (r : Result PushReport DocumentsRefusal) : Type 0 where
  pub entries : List (List ℕ)
  pub is_index : IsIndex s d entries
  pub mid : Stage
  pub mirrored : AllMirrored policy_context s t entries old mid
  pub pushed : IndexPushed t tag d mid new r

-- an image of it was not mirrored
pub record ImageStopped {V : Type 0} {H : V → Type 0} (policy_context : PolicyContext V H) (s : Source) (t : Target)
    (d : VerifiedDocuments) (old new : Stage) (e : IndexRefusal) : Type 0 where
  pub entries : List (List ℕ)
  pub is_index : IsIndex s d entries
  pub stopped : StoppedAt policy_context s t entries old new e

-- memory ran out: before the first request, within an image, or within the push of the index
abbrev pub RanOut : {V : Type 0} {H : V → Type 0} → PolicyContext V H → Source → Target → Bool → VerifiedDocuments → Stage
    → Stage → Type 0
RanOut policy_context s t tag d old new = (new ≡ old)
    ⊎ (ImageStopped policy_context s t d old new WantOfMemory
    ⊎ IndexCourse policy_context s t tag d old new (Err documents.WantOfMemory))

-- by the result
abbrev pub Mirrored : {V : Type 0} {H : V → Type 0} → PolicyContext V H → Source → Target → Bool → VerifiedDocuments
    → Stage → Stage → Result PushReport IndexRefusal → Type 0
Mirrored policy_context s t tag d old new (Ok report) = IndexCourse policy_context s t tag d old new (Ok report)
Mirrored policy_context s t tag d old new (Err NotIndex) =
    ((entries : List (List ℕ)) → IsIndex s d entries → ⊥) × (new ≡ old)
Mirrored policy_context s t tag d old new (Err (Pull entry e)) =
    ImageStopped policy_context s t d old new (Pull entry e)
Mirrored policy_context s t tag d old new (Err (Other entry)) =
    ImageStopped policy_context s t d old new (Other entry)
Mirrored policy_context s t tag d old new (Err (Push entry digest e)) =
    ImageStopped policy_context s t d old new (Push entry digest e)
Mirrored policy_context s t tag d old new (Err (Index e)) = IndexCourse policy_context s t tag d old new (Err e)
Mirrored policy_context s t tag d old new (Err WantOfMemory) = RanOut policy_context s t tag d old new
