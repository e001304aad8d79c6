-- Why a check ends without a verdict, and how it ends with one.
use Rattle.std.proofs.Common.{◌≡◌, ℕ, pos, List, [], Option, Bool, true, false, inl, inr, Result, Ok, Err, IsErr, refl, sym, subst}
use Rattle.std.specs.Prelude.{IfOk, IfErr, IsErrAnd, None, ◌∷◌}
use Rattle.serde_json.specs.Data.{Data}
use Rattle.byte_streams.specs.SinkState.{SinkState}
use Rattle.byte_streams.specs.Source.{SourceState}
use Rattle.live_link.specs.Frame.{most_bytes}
use Rattle.live_link.specs.Reading.{ReadsFrame}
use Rattle.live_link.specs.declared.frame.Frame.{Frame}
use Rattle.live_link.specs.declared.reading.FrameError.{FrameError}
use Rattle.live_link.specs.declared.reading.FrameError.TheVariants as frame_error
use Rattle.live_host.specs.HostErrors.{AsksCause, TellCause}
use Rattle.live_host.specs.Questions.{WereAsked}
use Rattle.live_host.specs.Wire.{Wire, SendsFrame}
use Rattle.live_host.specs.declared.answers.Answers.{Answers}
use Rattle.live_host.specs.declared.streams.HostError.{HostError}
use Rattle.live_host.specs.declared.streams.HostError.TheVariants as host
use Rattle.live_pull.specs.Status.{StatusCause, status_of}
use Rattle.live_pull.specs.declared.status.Status.{Status}
use Rattle.live_pull.specs.declared.status.Status.TheVariants as status
use Rattle.oci_manifests.specs.declared.descriptor.OciDescriptor.{OciDescriptor}
use Rattle.oci_manifests.specs.declared.promise.ResolverPromise.{ResolverPromise}
use Rattle.cosign_layers.specs.Satisfying.{PolicyContext}
use Rattle.cosign_chain.specs.declared.verified_documents.VerifiedDocuments.{VerifiedDocuments}
use Rattle.pull_lock.specs.Unlocked.{GivesDocuments}
use Rattle.pull_lock.specs.declared.lock.LockEntry.{LockEntry}
use Rattle.live_check.specs.Asked.{EntriesAsked}
use Rattle.live_check.specs.Blobs.{BlobCut, PartsCut, PiecesCut, Went, WentCut}
use Rattle.live_check.specs.Checked.{AsksAndDecidesBy, AsksAndDecidesCut, BlobsCut, DecidesBy, Giving, VerdictCut, VerdictOn, status_by}
use Rattle.live_check.specs.Ends.{EndsChecked}
use Rattle.live_check.specs.Heads.{more_head, verdict_head, want_head}
use Rattle.live_check.specs.Parts.{IsNoPart, PartCut, TakeCause, TakesFrame, TakesNone, part_of}

-- ---- causes

-- an error of the host, as a status
pub host_causes : (Cut : HostError → Type 0) (e : HostError) → Cut e → StatusCause Cut (status_of e)
host_causes Cut host.Broken cut = cut
host_causes Cut host.Unwritten cut = cut
host_causes Cut host.WantOfMemory cut = tt

-- a cause of one thing is a cause of another
pub caused_so : (C D : HostError → Type 0) (s : Status) → ((e : HostError) → C e → D e) → StatusCause C s → StatusCause D s
caused_so C D status.Pulled so h = absurd h
caused_so C D status.Refused so h = absurd h
caused_so C D status.UnreadableSettings so h = absurd h
caused_so C D status.HostBroken so h = so host.Broken h
caused_so C D status.SinkFault so h = so host.Unwritten h
caused_so C D status.WantOfMemory so h = tt

-- an error that `?` passes on
pub passed_on : {X E : Type 0} (P : E → Type 0) (r : Result X E) (s : E) → P s → (IsErr r × IsErrAnd r (λ y. y ≡ s)) → IfErr r P
passed_on P (Ok x) s h is = tt
passed_on P (Err t) s h is = subst P (sym is.1) h

-- a frame under another name
pub untold_as : (head same : Data) (e : HostError) (old new : Wire) → head ≡ same → TellCause (head, []) e old new → TellCause (same, []) e old new
untold_as head same e old new is cause = subst (λ (d : Data). TellCause (d, []) e old new) is cause

-- a frame that was not sent, under another name
pub untold_cut : (head same : Data) (e : HostError) (old new : Wire) → head ≡ same → TellCause (head, []) e old new → StatusCause (λ x. TellCause (same, []) x old new) (status_of e)
untold_cut head same e old new is cause = host_causes (λ x. TellCause (same, []) x old new) e (untold_as head same e old new is cause)

-- ---- parts

-- a frame was received
pub took : (frame : Frame) (old new : SourceState) (sink : SinkState) → ReadsFrame most_bytes (Ok frame) old new
    → TakesFrame frame (record { source = old; sink = sink }) (record { source = new; sink = sink })
took frame old new sink (text, taken, is, stays) = (text, taken, is, refl)

-- none was
pub took_none : (e : FrameError) (old new : SourceState) (sink : SinkState) → ReadsFrame most_bytes (Err e) old new → (e ≡ frame_error.WantOfMemory → ⊥)
    → TakesNone (record { source = old; sink = sink }) (record { source = new; sink = sink })
took_none e old new sink (text, taken, stops) other = (e, text, taken, stops, other, refl)

-- the next part was not asked for
pub part_unasked : (head : Data) (e : HostError) (old new : Wire) → head ≡ more_head → TellCause (head, []) e old new → StatusCause (λ x. PartCut x old new) (status_of e)
part_unasked head host.Broken old new is cause = absurd cause
part_unasked head host.Unwritten old new is cause = untold_as head more_head host.Unwritten old new is cause
part_unasked head host.WantOfMemory old new is cause = tt

-- after the question no frame was received
pub part_unheard : (head : Data) (s : Status) (old mid new : Wire) → head ≡ more_head → SendsFrame head [] old mid → StatusCause (λ e. TakeCause e mid new) s → StatusCause (λ e. PartCut e old new) s
part_unheard head status.Pulled old mid new is told h = absurd h
part_unheard head status.Refused old mid new is told h = absurd h
part_unheard head status.UnreadableSettings old mid new is told h = absurd h
part_unheard head status.HostBroken old mid new is told h = record { asked_at = mid; asked = subst (λ (d : Data). SendsFrame d [] old mid) is told; none = inl h }
part_unheard head status.SinkFault old mid new is told h = absurd h
part_unheard head status.WantOfMemory old mid new is told h = tt

-- one was, that is not a part of a blob
pub no_part : (head : Data) (frame : Frame) (old mid new : Wire) → head ≡ more_head → SendsFrame head [] old mid → TakesFrame frame mid new → part_of frame ≡ None → IsNoPart old new
no_part head frame old mid new is told takes none = record { asked_at = mid; asked = subst (λ (d : Data). SendsFrame d [] old mid) is told; none = inr (frame, takes, none) }

-- ---- blobs

-- the blob was not asked for
pub blob_unasked : (x : OciDescriptor) (head : Data) (e : HostError) (old new : Wire) → head ≡ want_head x.digest → TellCause (head, []) e old new → StatusCause (λ cut. BlobCut x cut old new) (status_of e)
blob_unasked x head e old new is cause = host_causes (λ cut. BlobCut x cut old new) e (inl (untold_as head (want_head x.digest) e old new is cause))

-- it was, and its parts were cut
pub blob_cut : (x : OciDescriptor) (head : Data) (s : Status) (old mid new : Wire) → head ≡ want_head x.digest → SendsFrame head [] old mid → StatusCause (λ e. PartsCut x e mid new) s → StatusCause (λ e. BlobCut x e old new) s
blob_cut x head s old mid new is told h =
    caused_so (λ e. PartsCut x e mid new) (λ e. BlobCut x e old new) s (λ e cut. inr (mid, subst (λ (d : Data). SendsFrame d [] old mid) is told, cut)) h

-- the parts of a blob of a size
pub parts_cut : (x : OciDescriptor) (n : ℕ) (s : Status) (old new : Wire) → x.size ≡ pos n → StatusCause (λ e. PiecesCut n e old new) s → StatusCause (λ e. PartsCut x e old new) s
parts_cut x n s old new size h = caused_so (λ e. PiecesCut n e old new) (λ e. PartsCut x e old new) s (λ e cut. (n, size, cut)) h

-- a blob was cut
pub blobs_cut : (xs : List OciDescriptor) (s : Status) (old new : Wire) → StatusCause (λ e. WentCut xs e old new) s → StatusCause (λ e. BlobsCut xs e old new) s
blobs_cut xs s old new h = caused_so (λ e. WentCut xs e old new) (λ e. BlobsCut xs e old new) s (λ e cut. inl cut) h

-- none was, and the verdict was not sent
pub blobs_untold : (xs : List OciDescriptor) (fell : Option (List ℕ)) (head : Data) (e : HostError) (old mid new : Wire) → Went xs fell old mid → head ≡ verdict_head fell → TellCause (head, []) e mid new
    → StatusCause (λ cut. BlobsCut xs cut old new) (status_of e)
blobs_untold xs fell head e old mid new went is cause =
    host_causes (λ cut. BlobsCut xs cut old new) e (inr (record { fell = fell; checked_at = mid; went = went; untold = untold_as head (verdict_head fell) e mid new is cause }))

-- ---- the decision, and what follows it

pub decides : {V : Type 0} {H : V → Type 0} (policy : PolicyContext V H) (promise : Option ResolverPromise) (entry : LockEntry) (first end : ℕ) (found : Option VerifiedDocuments) (r : Result Bool Status) (old new : Wire) → GivesDocuments policy promise entry found
    → IfOk r (λ held. VerdictOn first end held found old new) → IfOk r (λ held. DecidesBy (VerdictOn first end held) policy promise entry old new)
decides policy promise entry first end found (Ok held) old new gives verdict = record { found = found; gives = gives; verdict = verdict }
decides policy promise entry first end found (Err s) old new gives verdict = tt

pub decides_cut : {V : Type 0} {H : V → Type 0} (policy : PolicyContext V H) (promise : Option ResolverPromise) (entry : LockEntry) (first end : ℕ) (found : Option VerifiedDocuments) (r : Result Bool Status) (old new : Wire) → GivesDocuments policy promise entry found
    → IfErr r (StatusCause (λ e. VerdictCut first end e found old new)) → IfErr r (StatusCause (λ e. DecidesBy (VerdictCut first end e) policy promise entry old new))
decides_cut policy promise entry first end found (Ok held) old new gives cut = tt
decides_cut policy promise entry first end found (Err s) old new gives cut =
    caused_so (λ e. VerdictCut first end e found old new) (λ e. DecidesBy (VerdictCut first end e) policy promise entry old new) s (λ e h. record { found = found; gives = gives; verdict = h }) cut

module _ {V : Type 0} {H : V → Type 0} (under : Answers → PolicyContext V H) (promise : Option ResolverPromise) (entry : LockEntry) where
  -- the questions, and the decision
  pub asks_and_decides : (Gives : Giving) (answers : Answers) (old mid new : Wire) → WereAsked answers.list old mid → EntriesAsked answers.list (under answers).policy.keys (under answers).trust.log_keys (entry ∷ [])
      → DecidesBy Gives (under answers) promise entry mid new → AsksAndDecidesBy Gives under promise entry old new
  asks_and_decides Gives answers old mid new questions about decided = record { asked_at = mid; answers = answers; questions = questions; about = about; decided = decided }

  -- not every question was answered
  pub asks_cut : (first end : ℕ) (e : HostError) (old new : Wire) → AsksCause e old new → StatusCause (λ cut. AsksAndDecidesCut under promise entry first end cut old new) (status_of e)
  asks_cut first end e old new cause = host_causes (λ cut. AsksAndDecidesCut under promise entry first end cut old new) e (inl cause)

  -- all were, and what follows the decision was cut
  pub asked_and_cut : (first end : ℕ) (answers : Answers) (s : Status) (old mid new : Wire) → WereAsked answers.list old mid → EntriesAsked answers.list (under answers).policy.keys (under answers).trust.log_keys (entry ∷ [])
      → StatusCause (λ e. DecidesBy (VerdictCut first end e) (under answers) promise entry mid new) s → StatusCause (λ e. AsksAndDecidesCut under promise entry first end e old new) s
  asked_and_cut first end answers s old mid new questions about h =
      caused_so (λ e. DecidesBy (VerdictCut first end e) (under answers) promise entry mid new) (λ e. AsksAndDecidesCut under promise entry first end e old new) s
      (λ e cut. inr (asks_and_decides (VerdictCut first end e) answers old mid new questions about cut)) h

-- ---- the end

cut_ends : (Checks : Bool → Type 0) (Cut : HostError → Type 0) (s : Status) → StatusCause Cut s → EndsChecked Checks Cut s
cut_ends Checks Cut status.Pulled h = absurd h
cut_ends Checks Cut status.Refused h = absurd h
cut_ends Checks Cut status.UnreadableSettings h = h
cut_ends Checks Cut status.HostBroken h = h
cut_ends Checks Cut status.SinkFault h = h
cut_ends Checks Cut status.WantOfMemory h = h

pub ends : (Checks : Bool → Type 0) (Cut : HostError → Type 0) (r : Result Bool Status) → IfOk r Checks → IfErr r (StatusCause Cut) → EndsChecked Checks Cut (status_by r)
ends Checks Cut (Ok true) h cause = h
ends Checks Cut (Ok false) h cause = h
ends Checks Cut (Err s) h cause = cut_ends Checks Cut s cause

-- what ends in one way ends in another one that follows
pub ends_so : (P Q : Bool → Type 0) (C D : HostError → Type 0) (s : Status) → ((b : Bool) → P b → Q b) → ((e : HostError) → C e → D e) → EndsChecked P C s → EndsChecked Q D s
ends_so P Q C D status.Pulled so cuts h = so true h
ends_so P Q C D status.Refused so cuts h = so false h
ends_so P Q C D status.UnreadableSettings so cuts h = h
ends_so P Q C D status.HostBroken so cuts h = cuts host.Broken h
ends_so P Q C D status.SinkFault so cuts h = cuts host.Unwritten h
ends_so P Q C D status.WantOfMemory so cuts h = h
