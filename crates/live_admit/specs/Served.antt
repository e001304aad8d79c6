-- Reviews that were served.
use Rattle.std.specs.Prelude.{◌≡◌, ◌<◌, ◌⊎◌, ℕ, zero, suc, Bool, List, [], Option, Some, None, Result, Ok, Err}
use Rattle.serde_json.specs.Data.{Data}
use Rattle.json_tables.specs.Plain.{read_plain}
use Rattle.pod_reviews.specs.Places.{pod_review_of}
use Rattle.pod_reviews.specs.Verdicts.{Responds}
use Rattle.pod_reviews.specs.declared.pod.PodReview.{PodReview}
use Rattle.pod_reviews.specs.declared.verdict.Verdict.{Verdict}
use Rattle.live_host.specs.HostErrors.{TellCause}
use Rattle.live_host.specs.Wire.{Wire, ReceivesFrame, ReceivesNone, SendsFrame}
use Rattle.live_host.specs.declared.streams.HostError.{HostError}
use Rattle.live_host.specs.declared.streams.HostError.TheVariants as host
use Rattle.live_pull.specs.Status.{StatusCause}
use Rattle.live_pull.specs.declared.status.Status.{Status}
use Rattle.live_pull.specs.declared.status.Status.TheVariants as status
use Rattle.live_admit.specs.Clients.{States, new_states}
use Rattle.live_admit.specs.Decided.{ImagesCut, ImagesDecided}
use Rattle.live_admit.specs.Frames.{response_head, review_frame_of, unreadable_head}
use Rattle.live_admit.specs.Settings.{Rules}
use Rattle.live_admit.specs.declared.frames.ReviewFrame.{ReviewFrame}

-- the images of a review were decided, and exactly the response of these verdicts was sent
pub record Responded (before after : States) (frame : ReviewFrame) (review : PodReview) (old new : Wire) : Type 0 where
  pub decided_at : Wire
  pub verdicts : List Verdict
  pub decided : ImagesDecided before after frame.moment review.images verdicts old decided_at
  pub text : List ℕ
  pub responds : Responds frame.mutate review verdicts text
  pub told : SendsFrame (response_head text) [] decided_at new

-- a text that is not a review of a Pod is answered so
abbrev pub Answered : States → States → ReviewFrame → Option PodReview → Wire → Wire → Type 0
Answered before after frame None old new = (before ≡ after) × SendsFrame unreadable_head [] old new
Answered before after frame (Some review) old new = Responded before after frame review old new

-- a review was received and answered
pub record Served (before after : States) (old new : Wire) : Type 0 where
  pub heard_at : Wire
  pub head : Data
  pub heard : ReceivesFrame head old heard_at
  pub frame : ReviewFrame
  pub reads : review_frame_of head ≡ Some frame
  pub answered : Answered before after frame (read_plain pod_review_of frame.review) heard_at new

-- so many reviews, one after another, each by the clients as the one before it left them
abbrev pub ReviewsServed : States → States → ℕ → Wire → Wire → Type 0
ReviewsServed before after zero old new = (before ≡ after) × (old ≡ new)
ReviewsServed before after (suc n) old new = (mid : States) × (between : Wire)
    × ReviewsServed before mid n old between × Served mid after between new

-- ---- not to the end

-- no frame was received, or one that is not a review
abbrev pub ReceivesNoReview : Wire → Wire → Type 0
ReceivesNoReview old new = ReceivesNone old new
    ⊎ ((d : Data) × ReceivesFrame d old new × (review_frame_of d ≡ None))

-- why no review was received
abbrev pub ReceiveCut : HostError → Wire → Wire → Type 0
ReceiveCut host.Broken old new = ReceivesNoReview old new
ReceiveCut host.Unwritten old new = ⊥
ReceiveCut host.WantOfMemory old new = Unit {0}

-- the response of these verdicts was not sent
abbrev pub ResponseCut : Bool → PodReview → List Verdict → HostError → Wire → Wire → Type 0
ResponseCut mutate review verdicts e old new =
    (text : List ℕ) × Responds mutate review verdicts text × TellCause (response_head text, []) e old new

-- all images of a review were decided, and the response of the verdicts was not sent
pub record ImagesDecidedAndCut (before : States) (frame : ReviewFrame) (review : PodReview) (e : HostError)
    (old new : Wire) : Type 0 where
  pub decided_at : Wire
  pub after : States
  pub verdicts : List Verdict
  pub decided : ImagesDecided before after frame.moment review.images verdicts old decided_at
  pub cut : ResponseCut frame.mutate review verdicts e decided_at new

-- why a review has no response: an image was not decided, or the response was not sent
abbrev pub RespondedCut : States → ReviewFrame → PodReview → HostError → Wire → Wire → Type 0
RespondedCut before frame review e old new =
    ImagesCut before frame.moment review.images e old new ⊎ ImagesDecidedAndCut before frame review e old new

-- why a frame was not answered, by what its text parses as
abbrev pub AnsweredCut : States → ReviewFrame → Option PodReview → HostError → Wire → Wire → Type 0
AnsweredCut before frame None e old new = TellCause (unreadable_head, []) e old new
AnsweredCut before frame (Some review) e old new = RespondedCut before frame review e old new

-- a review was received, and not answered
pub record ReviewUnanswered (before : States) (e : HostError) (old new : Wire) : Type 0 where
  pub heard_at : Wire
  pub head : Data
  pub heard : ReceivesFrame head old heard_at
  pub frame : ReviewFrame
  pub reads : review_frame_of head ≡ Some frame
  pub cut : AnsweredCut before frame (read_plain pod_review_of frame.review) e heard_at new

-- why a review was not served: none was received, or it was not answered
abbrev pub ReviewCut : States → HostError → Wire → Wire → Type 0
ReviewCut before e old new = ReceiveCut e old new ⊎ ReviewUnanswered before e old new

-- ---- all reviews

-- By the status, after so many reviews, which left the clients in these states: these were all; or they were fewer, and
-- the next one was not served. Out of memory guarantees nothing.
abbrev pub EndsAfter : ℕ → ℕ → States → Status → Wire → Wire → Type 0
EndsAfter reviews n left status.Pulled mid new = (n ≡ reviews) × (mid ≡ new)
EndsAfter reviews n left status.WantOfMemory mid new = Unit {0}
EndsAfter reviews n left other mid new = (n < reviews) × StatusCause (λ e. ReviewCut left e mid new) other

-- some reviews were served by clients in these states, and then the conversation ended
pub record ServesFrom (before : States) (reviews : ℕ) (s : Status) (old new : Wire) : Type 0 where
  pub count : ℕ
  pub served_at : Wire
  pub left : States
  pub served : ReviewsServed before left count old served_at
  pub ends : EndsAfter reviews count left s served_at new

-- the same by a new client for each rule
abbrev pub Serves : Rules → ℕ → Status → Wire → Wire → Type 0
Serves rules = ServesFrom (new_states rules)

-- ---- parts

-- a frame that parses as this review, unless it is not one
abbrev pub ReadsReview : Result ReviewFrame Status → Data → Type 0
ReadsReview (Ok frame) d = review_frame_of d ≡ Some frame
ReadsReview (Err status.Pulled) d = ⊥
ReadsReview (Err status.Refused) d = ⊥
ReadsReview (Err status.UnreadableSettings) d = ⊥
ReadsReview (Err status.HostBroken) d = review_frame_of d ≡ None
ReadsReview (Err status.SinkFault) d = ⊥
ReadsReview (Err status.WantOfMemory) d = Unit {0}

-- a review was received
abbrev pub ReceivesReview : ReviewFrame → Wire → Wire → Type 0
ReceivesReview frame old new = (d : Data) × ReceivesFrame d old new × (review_frame_of d ≡ Some frame)

-- the response of these verdicts was sent
abbrev pub ResponseTold : Bool → PodReview → List Verdict → Wire → Wire → Type 0
ResponseTold mutate review verdicts old new =
    (text : List ℕ) × Responds mutate review verdicts text × SendsFrame (response_head text) [] old new
