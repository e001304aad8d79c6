-- Reviews that are served one after another.
use Rattle.std.proofs.Common.{◌≡◌, ◌<◌, ℕ, ◌+◌, Bool, List, [], suc, Option, None, Result, Ok, Err, refl, sym, subst, ◌∙◌, arith, inl, inr}
use Rattle.std.specs.Prelude.{⊤}
use Rattle.live_admit.specs.declared.rule.Rule.{Rule}
use Rattle.serde_json.specs.Data.{Data}
use Rattle.json_tables.specs.Plain.{read_plain}
use Rattle.pod_reviews.specs.Places.{pod_review_of}
use Rattle.pod_reviews.specs.Verdicts.{Responds}
use Rattle.pod_reviews.specs.declared.pod.PodReview.{PodReview}
use Rattle.pod_reviews.specs.declared.verdict.Verdict.{Verdict}
use Rattle.live_host.specs.HostErrors.{TellCause}
use Rattle.live_host.specs.Wire.{Wire, SendsFrame}
use Rattle.live_host.specs.declared.streams.HostError.{HostError}
use Rattle.live_pull.specs.Status.{StatusCause, status_of}
use Rattle.live_pull.specs.declared.status.Status.{Status}
use Rattle.live_pull.specs.declared.status.Status.TheVariants as status
use Rattle.live_admit.specs.Clients.{AreIn, Gives, Leads, States}
use Rattle.live_admit.specs.Decided.{ImagesCut, ImagesDecided}
use Rattle.live_admit.specs.Frames.{response_head, unreadable_head}
use Rattle.live_admit.specs.Served.{Answered, AnsweredCut, EndsAfter, ReceiveCut, ReceivesReview, Responded, RespondedCut, ResponseCut, ResponseTold, ReviewCut, ReviewsServed, Served, ServesFrom}
use Rattle.live_admit.specs.declared.frames.ReviewFrame.{ReviewFrame}
use Rattle.live_admit.proofs.Ends.{by_host, cause_as}
use Rattle.live_admit.specs.declared.clients.RuleClient.{RuleClient}

-- so many reviews were served, from each state of the clients at the beginning to the one in which they are now
abbrev pub SoMany : List (Rule RuleClient) → List (Rule RuleClient) → ℕ → Wire → Wire → Type 0
SoMany first held n old now = (before : States) → AreIn first before → (mid : States) × AreIn held mid × ReviewsServed before mid n old now

pub none_served : (held : List (Rule RuleClient)) (old : Wire) → SoMany held held 0 old old
none_served held old = λ before are. (before, are, (refl, refl))

pub one_served : (first held next_held : List (Rule RuleClient)) (n m : ℕ) (old mid new : Wire) → SoMany first held n old mid → Leads {A = ⊤} held next_held (λ before after done. Served before after mid new) (λ before e. ReviewCut before e mid new) (Ok tt) → m ≡ n + 1 → SoMany first next_held m old new
one_served first held next_held n m old mid new so_many one is = λ start are.
    let before = so_many start are in
    let led = one before.0 before.1 in
    let next : m ≡ suc n = is ∙ (omega arith) in
    (led.0, led.1, subst (λ (i : ℕ). ReviewsServed start led.0 i old new) (sym next) (before.0, mid, before.2, led.2))

ends_early : (reviews n : ℕ) (left : States) (s : Status) (mid new : Wire) → n < reviews → StatusCause (λ e. ReviewCut left e mid new) s → EndsAfter reviews n left s mid new
ends_early reviews n left status.Pulled mid new fewer cut = absurd cut
ends_early reviews n left status.Refused mid new fewer cut = absurd cut
ends_early reviews n left status.UnreadableSettings mid new fewer cut = absurd cut
ends_early reviews n left status.HostBroken mid new fewer cut = (fewer, cut)
ends_early reviews n left status.SinkFault mid new fewer cut = (fewer, cut)
ends_early reviews n left status.WantOfMemory mid new fewer cut = tt

-- the next review was not served, after so many
pub stopped_early : (first held next_held : List (Rule RuleClient)) (reviews n : ℕ) (s : Status) (old mid new : Wire) → n < reviews → SoMany first held n old mid
    → Leads {A = ⊤} held next_held (λ before after done. Served before after mid new) (λ before e. ReviewCut before e mid new) (Err s) → (before : States) → AreIn first before → ServesFrom before reviews s old new
stopped_early first held next_held reviews n s old mid new fewer so_many one = λ start are.
    let before = so_many start are in
    record { count = n; served_at = mid; left = before.0; served = before.2; ends = ends_early reviews n before.0 s mid new fewer (one before.0 before.1) }

-- all reviews were served
pub all_served : (first held : List (Rule RuleClient)) (reviews n : ℕ) (old new : Wire) → SoMany first held n old new → n ≡ reviews → (before : States) → AreIn first before → ServesFrom before reviews status.Pulled old new
all_served first held reviews n old new so_many is = λ start are.
    let before = so_many start are in
    record { count = n; served_at = new; left = before.0; served = before.2; ends = (is, refl) }

-- memory ran out before the first one
pub none_opened : (before : States) (reviews : ℕ) (old : Wire) → ServesFrom before reviews status.WantOfMemory old old
none_opened before reviews old = record { count = 0; served_at = old; left = before; served = (refl, refl); ends = tt }

-- ---- one review

-- the response after the decisions
pub responded : (olds news : List (Rule RuleClient)) (frame : ReviewFrame) (review : PodReview) (verdicts : List Verdict) (old mid new : Wire) (outcome : Result ⊤ Status)
    → Leads olds news (λ before after vs. ImagesDecided before after frame.moment review.images vs old mid) (λ before e. ImagesCut before frame.moment review.images e old mid) (Ok verdicts)
    → Gives (λ done. ResponseTold frame.mutate review verdicts mid new) (λ e. ResponseCut frame.mutate review verdicts e mid new) outcome
    → Leads olds news (λ before after done. Responded before after frame review old new) (λ before e. RespondedCut before frame review e old new) outcome
responded olds news frame review verdicts old mid new (Ok done) decided told = λ before are.
    let led = decided before are in
    (led.0, led.1, record { decided_at = mid; verdicts = verdicts; decided = led.2; text = told.0; responds = told.1; told = told.2 })
responded olds news frame review verdicts old mid new (Err s) decided told = λ before are.
    let led = decided before are in
    cause_as (λ e. ResponseCut frame.mutate review verdicts e mid new) (λ e. RespondedCut before frame review e old new) s
    (λ e cut. inr (record { decided_at = mid; after = led.0; verdicts = verdicts; decided = led.2; cut = cut })) told

-- an image was not decided
pub undecided : (olds news : List (Rule RuleClient)) (frame : ReviewFrame) (review : PodReview) (s : Status) (old new : Wire)
    → Leads {A = List Verdict} olds news (λ before after vs. ImagesDecided before after frame.moment review.images vs old new) (λ before e. ImagesCut before frame.moment review.images e old new) (Err s)
    → Leads {A = ⊤} olds news (λ before after done. Responded before after frame review old new) (λ before e. RespondedCut before frame review e old new) (Err s)
undecided olds news frame review s old new decided = λ before are.
    cause_as (λ e. ImagesCut before frame.moment review.images e old new) (λ e. RespondedCut before frame review e old new) s (λ e cut. inl cut) (decided before are)

-- the response was not sent
pub unsent : (mutate : Bool) (review : PodReview) (verdicts : List Verdict) (text : List ℕ) (head : Data) (e : HostError) (old new : Wire) → Responds mutate review verdicts text → head ≡ response_head text → TellCause (head, []) e old new
    → StatusCause (λ e. ResponseCut mutate review verdicts e old new) (status_of e)
unsent mutate review verdicts text head e old new responds is cause =
    by_host (λ e. ResponseCut mutate review verdicts e old new) e (text, responds, subst (λ (d : Data). TellCause (d, []) e old new) is cause)

-- nor was that the text is not a review
pub unsent_none : (head : Data) (e : HostError) (old new : Wire) → head ≡ unreadable_head → TellCause (head, []) e old new → StatusCause (λ e. TellCause (unreadable_head, []) e old new) (status_of e)
unsent_none head e old new is cause = by_host (λ e. TellCause (unreadable_head, []) e old new) e (subst (λ (d : Data). TellCause (d, []) e old new) is cause)

-- an answer, by what the text is read as
pub answered_as : (olds news : List (Rule RuleClient)) (frame : ReviewFrame) (read : Option PodReview) (old new : Wire) (outcome : Result ⊤ Status)
    → read_plain pod_review_of frame.review ≡ read → Leads olds news (λ before after done. Answered before after frame read old new) (λ before e. AnsweredCut before frame read e old new) outcome
    → Leads olds news (λ before after done. Answered before after frame (read_plain pod_review_of frame.review) old new) (λ before e. AnsweredCut before frame (read_plain pod_review_of frame.review) e old new) outcome
answered_as olds news frame read old new outcome is h =
    subst (λ (r : Option PodReview). Leads olds news (λ before after done. Answered before after frame r old new) (λ before e. AnsweredCut before frame r e old new) outcome) (sym is) h

pub none_answered : (held : List (Rule RuleClient)) (frame : ReviewFrame) (old new : Wire) (outcome : Result ⊤ Status) → Gives (λ done. SendsFrame unreadable_head [] old new) (λ e. TellCause (unreadable_head, []) e old new) outcome
    → Leads held held (λ before after done. Answered before after frame None old new) (λ before e. AnsweredCut before frame None e old new) outcome
none_answered held frame old new (Ok done) told = λ before are. (before, are, (refl, told))
none_answered held frame old new (Err s) told = λ before are. told

-- a review that was received and answered
pub served : (olds news : List (Rule RuleClient)) (frame : ReviewFrame) (old mid new : Wire) (outcome : Result ⊤ Status) → ReceivesReview frame old mid
    → Leads olds news (λ before after done. Answered before after frame (read_plain pod_review_of frame.review) mid new) (λ before e. AnsweredCut before frame (read_plain pod_review_of frame.review) e mid new) outcome
    → Leads olds news (λ before after done. Served before after old new) (λ before e. ReviewCut before e old new) outcome
served olds news frame old mid new (Ok done) heard answered = λ before are.
    let led = answered before are in
    (led.0, led.1, record { heard_at = mid; head = heard.0; heard = heard.1; frame = frame; reads = heard.2; answered = led.2 })
served olds news frame old mid new (Err s) heard answered = λ before are.
    cause_as (λ e. AnsweredCut before frame (read_plain pod_review_of frame.review) e mid new) (λ e. ReviewCut before e old new) s
    (λ e cut. inr (record { heard_at = mid; head = heard.0; heard = heard.1; frame = frame; reads = heard.2; cut = cut })) (answered before are)

-- no review was received
pub unreceived : (olds news : List (Rule RuleClient)) (s : Status) (old new : Wire) → StatusCause (λ e. ReceiveCut e old new) s
    → Leads {A = ⊤} olds news (λ before after done. Served before after old new) (λ before e. ReviewCut before e old new) (Err s)
unreceived olds news s old new cause = λ before are. cause_as (λ e. ReceiveCut e old new) (λ e. ReviewCut before e old new) s (λ e cut. inl cut) cause
