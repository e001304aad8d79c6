-- The course of a live pull of documents: the search, the host's answers, the decision, and what is sent.
use Rattle.std.specs.Prelude.{◌≡◌, List, [], ◌∷◌, ◌++◌, Result, Ok, Err}
use Rattle.oci_transport.specs.declared.message.Exchange.{Exchange}
use Rattle.registry_calls.specs.Clients.{Kept}
use Rattle.cosign_chain.specs.declared.verified_documents.VerifiedDocuments.{VerifiedDocuments}
use Rattle.cosign_rows.specs.Verified.{Whole}
use Rattle.cosign_rows.specs.declared.found.TrustedLayers.{TrustedLayers}
use Rattle.cosign_rows.specs.declared.refusal.PullRefusal.{PullRefusal}
use Rattle.live_host.specs.HostErrors.{AsksCause, GiveCause}
use Rattle.live_host.specs.Items.{WereTold, decided_sent, documents_sent}
use Rattle.live_host.specs.Questions.{WereAsked}
use Rattle.live_host.specs.Wire.{Wire}
use Rattle.live_host.specs.declared.answers.Answers.{Answers}
use Rattle.live_host.specs.declared.streams.HostError.{HostError}
use Rattle.live_pull.specs.Pulls.{Transfer}
use Rattle.live_pull.specs.Refusals.{RefusalCut, RefusalTold}

-- documents, or a refusal, were sent
abbrev pub DocumentsTold : Result VerifiedDocuments PullRefusal → Wire → Wire → Type 0
DocumentsTold (Ok d) old new = WereTold (documents_sent d ++ decided_sent d ∷ []) old new
DocumentsTold (Err refusal) old new = RefusalTold refusal old new

-- why not all of the documents were sent, or not the refusal
abbrev pub DocumentsCut : Result VerifiedDocuments PullRefusal → HostError → Wire → Wire → Type 0
DocumentsCut (Ok d) e old new = GiveCause (documents_sent d ++ decided_sent d ∷ []) e old new
DocumentsCut (Err refusal) e old new = RefusalCut refusal e old new

-- what was sent for a result
abbrev pub Giving : Type 1
Giving = Result VerifiedDocuments PullRefusal → Wire → Wire → Type 0

-- nothing was
abbrev pub NothingTold : Giving
NothingTold r old new = old ≡ new

-- what the host was asked about layers that were found
abbrev pub Asking : Type 1
Asking = Answers → TrustedLayers → Type 0

-- the decision, and what was sent for it
pub record FinishedBy (Gives : Giving) (decide : Whole VerifiedDocuments) (k l : Kept) (old new : Wire)
    (r : Result VerifiedDocuments PullRefusal) : Type 0 where
  pub decided_at : Wire
  pub decision : Transfer decide old decided_at k l r
  pub given : Gives r decided_at new

-- the host was asked about the layers found, and its answers decided
pub record AskedAndDecidedBy (Gives : Giving) (Asks : Asking)
    (decide : Answers → TrustedLayers → Whole VerifiedDocuments) (k l : Kept) (found : TrustedLayers)
    (old new : Wire) (r : Result VerifiedDocuments PullRefusal) : Type 0 where
  pub asked_at : Wire
  pub answers : Answers
  pub questions : WereAsked answers.list old asked_at
  pub about : Asks answers found
  pub finished : FinishedBy Gives (decide answers found) k l asked_at new r

-- what follows the search: its error was sent; or the host was asked, and the documents were decided on
abbrev pub AfterSearchBy : Giving → Asking → (Answers → TrustedLayers → Whole VerifiedDocuments) → Kept → Kept
    → Result TrustedLayers PullRefusal → Wire → Wire → Result VerifiedDocuments PullRefusal → Type 0
AfterSearchBy Gives Asks decide k l (Ok found) old new r = AskedAndDecidedBy Gives Asks decide k l found old new r
AfterSearchBy Gives Asks decide k l (Err e) old new r = (r ≡ Err e) × (l ≡ k) × Gives (Err e) old new

-- a search, and what follows it, by a client that kept `k` before and `l` afterwards
pub record CourseBy (Gives : Giving) (Asks : Asking) (collect : Whole TrustedLayers)
    (decide : Answers → TrustedLayers → Whole VerifiedDocuments) (k l : Kept) (old new : Wire)
    (r : Result VerifiedDocuments PullRefusal) : Type 0 where
  pub searched_at : Wire
  pub kept : Kept
  pub found : Result TrustedLayers PullRefusal
  pub search : Transfer collect old searched_at k kept found
  pub after : AfterSearchBy Gives Asks decide kept l found searched_at new r

-- A search found layers, and the host was asked about them, but not every question was answered. The client kept `k`
-- before and `l` afterwards.
pub record AskingCut (collect : Whole TrustedLayers) (k l : Kept) (e : HostError) (old new : Wire) : Type 0 where
  pub searched_at : Wire
  pub found : TrustedLayers
  pub search : Transfer collect old searched_at k l (Ok found)
  pub asks : AsksCause e searched_at new

-- the same course, with documents or a refusal sent at its end
abbrev pub Course : Asking → Whole TrustedLayers → (Answers → TrustedLayers → Whole VerifiedDocuments) → Kept → Kept
    → Wire → Wire → Result VerifiedDocuments PullRefusal → Type 0
Course = CourseBy DocumentsTold

-- the exchanges of the decision, if there was one
abbrev pub exchanges_after : (Gives : Giving) (Asks : Asking)
    (decide : Answers → TrustedLayers → Whole VerifiedDocuments) (k l : Kept)
    (found : Result TrustedLayers PullRefusal) (old new : Wire) (r : Result VerifiedDocuments PullRefusal)
    → AfterSearchBy Gives Asks decide k l found old new r → List Exchange
exchanges_after Gives Asks decide k l (Ok found) old new r after = after.finished.decision.conversation
exchanges_after Gives Asks decide k l (Err e) old new r after = []

-- the exchanges of the search and of the decision
abbrev pub exchanges_of : {Gives : Giving} {Asks : Asking} {collect : Whole TrustedLayers}
    {decide : Answers → TrustedLayers → Whole VerifiedDocuments} {k l : Kept} {old new : Wire}
    {r : Result VerifiedDocuments PullRefusal} → CourseBy Gives Asks collect decide k l old new r → List Exchange
exchanges_of {Gives} {Asks} {collect} {decide} {k} {l} {old} {new} {r} course =
    course.search.conversation ++ exchanges_after Gives Asks decide course.kept l course.found course.searched_at new r
    course.after
