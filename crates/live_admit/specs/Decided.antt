-- How the images of a review are decided.
use Rattle.std.specs.Prelude.{◌≡◌, ◌⊎◌, ℕ, false, List, [], ◌∷◌, ◌++◌, Option, Some, None, Result, Ok, Err}
use Rattle.oci_names.specs.Reference.{reference_of}
use Rattle.oci_names.specs.declared.parse_error.ParseError.{ParseError}
use Rattle.oci_names.specs.declared.reference.Reference.{Reference}
use Rattle.registry_calls.specs.Clients.{Kept}
use Rattle.cosign_chain.specs.declared.verified_documents.VerifiedDocuments.{VerifiedDocuments}
use Rattle.cosign_rows.specs.Refusal.{is_memory}
use Rattle.cosign_rows.specs.declared.refusal.PullRefusal.{PullRefusal}
use Rattle.cosign_client.specs.Growth.{ExtendsLog}
use Rattle.pull_report.specs.Prints.{refusal_print}
use Rattle.live_admit.specs.Covering.{place_of}
use Rattle.live_admit.specs.Rules.{rule_for, with_first}
use Rattle.live_admit.specs.declared.rule.Rule.{Rule}
use Rattle.pod_reviews.specs.declared.places.PlacedImage.{PlacedImage}
use Rattle.pod_reviews.specs.declared.verdict.Denial.TheVariants.{NotAReference, NoRule, Refused}
use Rattle.pod_reviews.specs.declared.verdict.Verdict.{Verdict}
use Rattle.pod_reviews.specs.declared.verdict.Verdict.TheVariants.{Allowed, Denied}
use Rattle.live_host.specs.HostErrors.{TellCause}
use Rattle.live_host.specs.Wire.{Wire, SendsFrame}
use Rattle.live_host.specs.declared.streams.HostError.{HostError}
use Rattle.live_pull.specs.Pulls.{client_settings}
use Rattle.live_pull.specs.declared.settings.LiveSettings.{LiveSettings}
use Rattle.live_pull.specs.Course.{exchanges_of}
use Rattle.live_pull.specs.Decided.{DecidedFrom, UndecidedFrom}
use Rattle.live_pull.specs.Keeping.{IsWithin, StoresOnly}
use Rattle.live_admit.specs.Clients.{ClientState, States, client_bounds}
use Rattle.live_admit.specs.Frames.{image_head}
use Rattle.live_admit.specs.Settings.{settings_for}

-- allowed with the digest of the documents, or refused with the print of the error, which is not that memory ran out
abbrev pub VerdictOf : Result VerifiedDocuments PullRefusal → Verdict → Type 0
VerdictOf (Ok d) v = v ≡ Allowed d.digest
VerdictOf (Err e) v = (is_memory e ≡ false) × (v ≡ Denied (Refused (refusal_print e)))

-- the documents were decided on by these settings, as the frame `documents` has them, by a client that kept `k` before
-- and `l` afterwards, and led to this verdict
pub record DecidedBy (settings : LiveSettings) (k l : Kept) (v : Verdict) (old new : Wire) : Type 0 where
  pub outcome : Result VerifiedDocuments PullRefusal
  pub documents : DecidedFrom settings k l outcome old new
  pub verdict : VerdictOf outcome v

-- The host was told the image and its rule, and the image was decided by the rule's settings and by the rule's client,
-- as the decisions before left it. Its calls grew by calls of this decision (`ExtendsLog`): each was made at the moment
-- of the review, with exchanges of this decision; each response that was cached is that of the same call, made in full
-- in this decision or in one before it, less than 60 seconds before; and so is each that is cached now. What is cached
-- is within the bounds, and no credentials are stored but the rule's.
pub record UnderRule (rule : Rule ClientState) (left : ClientState) (moment : ℕ) (image : List ℕ) (v : Verdict)
    (old new : Wire) : Type 0 where
  pub told_at : Wire
  pub told : SendsFrame (image_head image rule.images) [] old told_at
  pub decided : DecidedBy (settings_for rule.settings.settings image moment) rule.settings.kept left.kept v told_at new
  pub settings : left.settings ≡ rule.settings.settings
  pub logged : ExtendsLog (client_settings rule.settings.settings) moment (exchanges_of decided.documents.course)
      left.kept.1 rule.settings.calls
  pub calls : left.calls ≡ logged.more ++ rule.settings.calls
  pub bounds : IsWithin client_bounds left.kept.1
  pub credentials : StoresOnly rule.settings.settings.auth left.kept.0

-- The first rule that covers the image's place decides, and all other clients are as they were. Without a rule nothing
-- is sent, and the image is denied.
abbrev pub ByRule : Option (Rule ClientState) → List ℕ → States → States → ℕ → List ℕ → Verdict → Wire → Wire → Type 0
ByRule None place before after moment image v old new = (v ≡ Denied NoRule) × (before ≡ after) × (old ≡ new)
ByRule (Some rule) place before after moment image v old new = (left : ClientState)
    × (after ≡ with_first before place left) × UnderRule rule left moment image v old new

-- nor is anything for a text that is not a reference
abbrev pub ByReference : Result Reference ParseError → States → States → ℕ → List ℕ → Verdict → Wire → Wire → Type 0
ByReference (Err e) before after moment image v old new =
    (v ≡ Denied (NotAReference image)) × (before ≡ after) × (old ≡ new)
ByReference (Ok reference) before after moment image v old new =
    ByRule (rule_for before reference) (place_of reference) before after moment image v old new

-- an image was decided under the first rule that covers it, by that rule's client
abbrev pub ImageDecided : States → States → ℕ → List ℕ → Verdict → Wire → Wire → Type 0
ImageDecided before after moment image v old new = ByReference (reference_of image) before after moment image v old new

-- each image was decided, one after another
abbrev pub ImagesDecided : States → States → ℕ → List PlacedImage → List Verdict → Wire → Wire → Type 0
ImagesDecided before after moment [] [] old new = (before ≡ after) × (old ≡ new)
ImagesDecided before after moment [] (v ∷ vs) old new = ⊥
ImagesDecided before after moment (x ∷ xs) [] old new = ⊥
ImagesDecided before after moment (x ∷ xs) (v ∷ vs) old new = (mid : States) × (between : Wire)
    × ImageDecided before mid moment x.image v old between × ImagesDecided mid after moment xs vs between new

-- ---- not to the end

-- the host was told the image and its rule, and then nothing was decided by the rule's settings and the rule's client
pub record DecisionCut (rule : Rule ClientState) (moment : ℕ) (image : List ℕ) (e : HostError) (old new : Wire)
    : Type 0 where
  pub told_at : Wire
  pub told : SendsFrame (image_head image rule.images) [] old told_at
  pub left : Kept
  pub undecided : UndecidedFrom (settings_for rule.settings.settings image moment) rule.settings.kept left e told_at new

-- why an image was not decided under a rule: the host was not told, or nothing was decided
abbrev pub UnderRuleCut : Rule ClientState → ℕ → List ℕ → HostError → Wire → Wire → Type 0
UnderRuleCut rule moment image e old new =
    TellCause (image_head image rule.images, []) e old new ⊎ DecisionCut rule moment image e old new

-- why an image was not decided: it has a rule that covers it, and was not decided under the first one that does
pub record ImageCut (before : States) (moment : ℕ) (image : List ℕ) (e : HostError) (old new : Wire) : Type 0 where
  pub reference : Reference
  pub reads : reference_of image ≡ Ok reference
  pub rule : Rule ClientState
  pub covers : rule_for before reference ≡ Some rule
  pub cut : UnderRuleCut rule moment image e old new

-- some images were decided, one after another, and then one was not
pub record ImagesCut (before : States) (moment : ℕ) (images : List PlacedImage) (e : HostError) (old new : Wire)
    : Type 0 where
  pub done : List PlacedImage
  pub next : PlacedImage
  pub rest : List PlacedImage
  pub are : images ≡ done ++ next ∷ rest
  pub verdicts : List Verdict
  pub mid : States
  pub decided_at : Wire
  pub decided : ImagesDecided before mid moment done verdicts old decided_at
  pub cut : ImageCut mid moment next.image e decided_at new
