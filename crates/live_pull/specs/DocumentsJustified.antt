-- Properties of the conversations of a live pull of documents.
use Rattle.std.specs.Prelude.{ℕ, List, Result, Ok, Err}
use Rattle.oci_names.specs.declared.reference.Reference.{Reference}
use Rattle.oci_auth.specs.declared.auth.RegistryAuth.{RegistryAuth}
use Rattle.oci_transport.specs.declared.message.Exchange.{Exchange}
use Rattle.engine_terms.specs.Contexts.{Context}
use Rattle.registry_calls.specs.Clients.{Kept}
use Rattle.cosign_layers.specs.Satisfying.{PolicyContext}
use Rattle.cosign_chain.specs.VerifiedDocuments.{Documents}
use Rattle.cosign_chain.specs.declared.verified_documents.VerifiedDocuments.{VerifiedDocuments}
use Rattle.cosign_rows.specs.Snapshots.{snapshot}
use Rattle.cosign_rows.specs.Sound.{AnsweredOrFresh}
use Rattle.cosign_rows.specs.declared.found.TrustedLayers.{TrustedLayers}
use Rattle.cosign_rows.specs.declared.refusal.PullRefusal.{PullRefusal}
use Rattle.cosign_rows.specs.DocumentCauses.{DecidedCause, DocumentsCause}
use Rattle.cosign_rows.specs.DocumentsSound.{DecidedOver}
use Rattle.live_host.specs.Wire.{Wire}
use Rattle.live_pull.specs.Justified.{Confined}
use Rattle.live_pull.specs.Pulls.{context_of, meaning_of}
use Rattle.live_pull.specs.declared.settings.LiveSettings.{LiveSettings}
use Rattle.live_pull.specs.Course.{AfterSearchBy, Course, CourseBy, DocumentsTold, Giving}
use Rattle.live_pull.specs.Rows.{asks_of, collect_row, decide_row, everyone_of}

-- the digest that was found was returned for the image in these exchanges; an error has its cause there
abbrev pub FoundJustified : {V : Type 0} {H : V → Type 0} → PolicyContext V H → Context → Reference → RegistryAuth
    → Kept → Kept → List Exchange → ℕ → Result TrustedLayers PullRefusal → Type 0
FoundJustified policy_context s image a k l c faults (Ok found) = AnsweredOrFresh k s image a c found.digest
FoundJustified policy_context s image a k l c faults (Err e) =
    DocumentsCause policy_context s image a (snapshot k 0) c (snapshot l faults) e

-- the documents hold, are those of the digest that was found, and are bodies of answers in these exchanges; an error
-- has its cause there
abbrev pub DecisionJustified : {V : Type 0} {H : V → Type 0} → PolicyContext V H → Context → Reference → RegistryAuth
    → TrustedLayers → Kept → Kept → List Exchange → ℕ → Result VerifiedDocuments PullRefusal → Type 0
DecisionJustified policy_context s image a found k l c faults (Ok d) =
    Documents policy_context image s.settings.platform_resolver d × DecidedOver found c d
DecisionJustified policy_context s image a found k l c faults (Err e) =
    DecidedCause policy_context s image a found (snapshot k 0) c (snapshot l faults) e

-- what follows the search is justified by the decision's exchanges, and confined
abbrev pub AfterJustified : (Gives : Giving) (settings : LiveSettings) (image : Reference) (k l : Kept)
    (found : Result TrustedLayers PullRefusal) (old new : Wire) (r : Result VerifiedDocuments PullRefusal)
    → AfterSearchBy Gives (asks_of settings) (decide_row settings image) k l found old new r → Type 0
AfterJustified Gives settings image k l (Ok found) old new r after =
    DecisionJustified (meaning_of settings after.answers) (context_of settings) image settings.auth found k l
    after.finished.decision.conversation after.finished.decision.faults r
    × Confined (context_of settings) image settings.auth k l after.finished.decision.conversation
AfterJustified Gives settings image k l (Err e) old new r after = Unit {0}

-- both parts are justified by their own exchanges, and confined
pub record JustifiedBy (Gives : Giving) (settings : LiveSettings) (image : Reference) (k l : Kept) (old new : Wire)
    (r : Result VerifiedDocuments PullRefusal)
    (course : CourseBy Gives (asks_of settings) (collect_row settings image) (decide_row settings image)
    k l old new r) : Type 0 where
  pub search : FoundJustified (everyone_of settings) (context_of settings) image settings.auth k course.kept
      course.search.conversation course.search.faults course.found
  pub confined : Confined (context_of settings) image settings.auth k course.kept course.search.conversation
  pub after : AfterJustified Gives settings image course.kept l course.found course.searched_at new r course.after

-- the same, with documents or a refusal sent at its end
abbrev pub Justified : (settings : LiveSettings) (image : Reference) (k l : Kept) (old new : Wire)
    (r : Result VerifiedDocuments PullRefusal)
    → Course (asks_of settings) (collect_row settings image) (decide_row settings image) k l old new r → Type 0
Justified = JustifiedBy DocumentsTold
