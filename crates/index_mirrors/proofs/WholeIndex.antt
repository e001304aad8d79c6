-- The copy of a whole index.
use Rattle.std.proofs.Common.{◌≡◌, inl, inr, ℕ, Bool, List, Option, Some, None, Result, Ok, Err, refl, sym, subst}
use Rattle.std.specs.Result.{IsErrAnd}
use Rattle.std.proofs.lemmas.Result.{err_from_is_err_and}
use Rattle.cosign_chain.specs.declared.verified_documents.VerifiedDocuments.{VerifiedDocuments}
use Rattle.cosign_layers.specs.Satisfying.{PolicyContext}
use Rattle.pull_mirror.specs.declared.absences.DocumentsRefusal.{DocumentsRefusal}
use Rattle.pull_mirror.specs.declared.absences.DocumentsRefusal.TheVariants as documents
use Rattle.pull_mirror.specs.declared.refusals.PushReport.{PushReport}
use Rattle.index_mirrors.specs.Courses.{AllMirrored, Stage, StoppedAt, Target}
use Rattle.index_mirrors.specs.Indexes.{AreEntries, IndexEnds, IndexPushed, IsIndex, Mirrored, index_refusal}
use Rattle.index_mirrors.specs.Terms.{Source}
use Rattle.index_mirrors.specs.declared.refusals.IndexRefusal.{IndexRefusal}
use Rattle.index_mirrors.specs.declared.refusals.IndexRefusal.TheVariants.{NotIndex, Pull, Other, Push, Index, WantOfMemory}

-- ---- the push of the index

refused_by : (t : Target) (tag : Bool) (d : VerifiedDocuments) (old new : Stage) (e : DocumentsRefusal) → IndexPushed t tag d old new (Err e) → IndexEnds t tag d old new (Err (index_refusal e))
refused_by t tag d old new (documents.Missing digest) h = h
refused_by t tag d old new (documents.Refused digest error) h = h
refused_by t tag d old new documents.WantOfMemory h = h

pub refused_index : (t : Target) (tag : Bool) (d : VerifiedDocuments) (old new : Stage) (e : DocumentsRefusal) (x : IndexRefusal) → x ≡ index_refusal e → IndexPushed t tag d old new (Err e) → IndexEnds t tag d old new (Err x)
refused_index t tag d old new e x is h = subst (λ y. IndexEnds t tag d old new (Err y)) (sym is) (refused_by t tag d old new e h)

-- ---- all of it

pub no_index : (s : Source) (d : VerifiedDocuments) (at : Stage) (found : Option (List (List ℕ))) → found ≡ None → AreEntries s.index d found → ((entries : List (List ℕ)) → IsIndex s d entries → ⊥) × (at ≡ at)
no_index s d at found is are = let none = subst (λ (o : Option (List (List ℕ))). AreEntries s.index d o) is are in ((λ entries h. none entries h.index h.lists), refl)

module _ {V : Type 0} {H : V → Type 0} (p : PolicyContext V H) (s : Source) (t : Target) (tag : Bool) (d : VerifiedDocuments) where
  -- memory ran out before the first request
  pub unbegun : (at : Stage) (r : Result PushReport IndexRefusal) → IsErrAnd r (λ x. x ≡ WantOfMemory) → Mirrored p s t tag d at at r
  unbegun at r is = let err = err_from_is_err_and r is in rw (err.1, err.2) (inl refl)

  -- the entries that were found are those of the index
  index_of : (found : Option (List (List ℕ))) (entries : List (List ℕ)) → found ≡ Some entries → AreEntries s.index d found → IsIndex s d entries
  index_of found entries is are = let both = subst (λ (o : Option (List (List ℕ))). AreEntries s.index d o) is are in record { index = both.0; lists = both.1 }

  stopped_ends : (entries : List (List ℕ)) (old new : Stage) (e : IndexRefusal) → IsIndex s d entries → StoppedAt p s t entries old new e → Mirrored p s t tag d old new (Err e)
  stopped_ends entries old new NotIndex is h = absurd h.stopped.pushed.ends
  stopped_ends entries old new (Pull entry e) is h = record { entries = entries; is_index = is; stopped = h }
  stopped_ends entries old new (Other entry) is h = record { entries = entries; is_index = is; stopped = h }
  stopped_ends entries old new (Push entry digest e) is h = record { entries = entries; is_index = is; stopped = h }
  stopped_ends entries old new (Index e) is h = absurd h.stopped.pushed.ends
  stopped_ends entries old new WantOfMemory is h = inr (inl (record { entries = entries; is_index = is; stopped = h }))

  pub image_stopped : (found : Option (List (List ℕ))) (entries : List (List ℕ)) (old new : Stage) (r : Result PushReport IndexRefusal) (e : IndexRefusal) → found ≡ Some entries → AreEntries s.index d found → IsErrAnd r (λ x. x ≡ e) → StoppedAt p s t entries old new e → Mirrored p s t tag d old new r
  image_stopped found entries old new r e is are passed h = let at = err_from_is_err_and r passed in rw (at.1, at.2) (stopped_ends entries old new e (index_of found entries is are) h)

  ends_by : (entries : List (List ℕ)) (old mid new : Stage) (r : Result PushReport IndexRefusal) → IsIndex s d entries → AllMirrored p s t entries old mid → IndexEnds t tag d mid new r → Mirrored p s t tag d old new r
  ends_by entries old mid new (Ok report) is all h = record { entries = entries; is_index = is; mid = mid; mirrored = all; pushed = h }
  ends_by entries old mid new (Err (Index e)) is all h = record { entries = entries; is_index = is; mid = mid; mirrored = all; pushed = h }
  ends_by entries old mid new (Err WantOfMemory) is all h = inr (inr (record { entries = entries; is_index = is; mid = mid; mirrored = all; pushed = h }))
  ends_by entries old mid new (Err NotIndex) is all h = absurd h
  ends_by entries old mid new (Err (Pull entry e)) is all h = absurd h
  ends_by entries old mid new (Err (Other entry)) is all h = absurd h
  ends_by entries old mid new (Err (Push entry digest e)) is all h = absurd h

  pub index_ends : (found : Option (List (List ℕ))) (entries : List (List ℕ)) (old mid new : Stage) (r : Result PushReport IndexRefusal) → found ≡ Some entries → AreEntries s.index d found → AllMirrored p s t entries old mid → IndexEnds t tag d mid new r → Mirrored p s t tag d old new r
  index_ends found entries old mid new r is are all h = ends_by entries old mid new r (index_of found entries is are) all h
