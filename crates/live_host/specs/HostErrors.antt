-- Why a frame was not sent or received, and what was sent and received before.
use Rattle.std.specs.Prelude.{◌≡◌, ◌⊎◌, ℕ, List, [], ◌∷◌, ◌++◌, None, length}
use Rattle.serde_json.specs.Data.{Data}
use Rattle.json_values.specs.Counts.{Increased}
use Rattle.byte_streams.specs.SinkState.{AddsPrefix}
use Rattle.json_tables.specs.declared.error.ReadError.{ReadError}
use Rattle.json_tables.specs.declared.error.ReadError.TheVariants as read
use Rattle.cosign_parts.specs.declared.certificate.Evidence.{Evidence}
use Rattle.live_link.specs.Writing.{frame_text}
use Rattle.live_host.specs.Heads.{verify_head, judge_head}
use Rattle.live_host.specs.Items.{Sent, WereTold}
use Rattle.live_host.specs.Questions.{verified_of, answer_of, WereAsked}
use Rattle.live_host.specs.Wire.{Wire, ReceivesFrame, ReceivesNone, SendsFrame}
use Rattle.live_host.specs.declared.answers.HostAnswer.{HostAnswer}
use Rattle.live_host.specs.declared.streams.HostError.{HostError}
use Rattle.live_host.specs.declared.streams.HostError.TheVariants as host

-- a frame that does not parse is the host's fault
abbrev pub host_error : ReadError → HostError
host_error read.WantOfMemory = host.WantOfMemory
host_error _ = host.Broken

-- ---- one frame

-- a prefix of this frame was sent, and then the output failed
pub record SendsPrefix (frame : Sent) (old new : Wire) : Type 0 where
  pub part : AddsPrefix (frame_text frame.0 frame.1) old.sink new.sink
  pub failed : Increased old.sink.faults new.sink.faults
  pub stays : new.source ≡ old.source

-- why this frame was not sent
abbrev pub TellCause : Sent → HostError → Wire → Wire → Type 0
TellCause frame host.Broken old new = ⊥
TellCause frame host.Unwritten old new = SendsPrefix frame old new
TellCause frame host.WantOfMemory old new = Unit {0}

-- why no frame was received
abbrev pub HearCause : HostError → Wire → Wire → Type 0
HearCause host.Broken old new = ReceivesNone old new
HearCause host.Unwritten old new = ⊥
HearCause host.WantOfMemory old new = Unit {0}

-- ---- frames, one after another

-- some of these frames were sent, and then the output failed
pub record SendsSome (frames : List Sent) (old new : Wire) : Type 0 where
  pub sent : List Sent
  pub next : Sent
  pub rest : List Sent
  pub are : frames ≡ sent ++ next ∷ rest
  pub failed_at : Wire
  pub told : WereTold sent old failed_at
  pub failed : SendsPrefix next failed_at new

-- why not all of these frames were sent
abbrev pub GiveCause : List Sent → HostError → Wire → Wire → Type 0
GiveCause frames host.Broken old new = ⊥
GiveCause frames host.Unwritten old new = SendsSome frames old new
GiveCause frames host.WantOfMemory old new = Unit {0}

-- ---- questions

-- whether a key makes the signature of a message valid, or what is vouched for a certificate
pub data Question : Type 0 where
  about_key : (key message signature : List ℕ) → Question
  about_certificate : (evidence : Evidence) → Question

-- the frame that a question is sent as
abbrev pub question_sent : Question → Sent
question_sent (about_key key message signature) = (verify_head key signature (length message), message)
question_sent (about_certificate evidence) = (judge_head evidence.certificate evidence.integrated_time, [])

-- a frame that does not answer a question
abbrev pub IsNoAnswer : Question → Data → Type 0
IsNoAnswer (about_key key message signature) d = verified_of d ≡ None
IsNoAnswer (about_certificate evidence) d = answer_of d ≡ None

-- no frame was received, or one that does not answer the question
abbrev pub ReceivesNoAnswer : Question → Wire → Wire → Type 0
ReceivesNoAnswer q old new = ReceivesNone old new ⊎ ((d : Data) × ReceivesFrame d old new × IsNoAnswer q d)

-- a question was sent, and not answered
pub record Unanswered (q : Question) (old new : Wire) : Type 0 where
  pub asked_at : Wire
  pub told : SendsFrame (question_sent q).0 (question_sent q).1 old asked_at
  pub unheard : ReceivesNoAnswer q asked_at new

-- why a question has no answer
abbrev pub AskCause : Question → HostError → Wire → Wire → Type 0
AskCause q host.Broken old new = Unanswered q old new
AskCause q host.Unwritten old new = SendsPrefix (question_sent q) old new
AskCause q host.WantOfMemory old new = Unit {0}

-- questions were asked and answered, one after another, and then one was not
pub record AsksSome (e : HostError) (old new : Wire) : Type 0 where
  pub answers : List HostAnswer
  pub answered_at : Wire
  pub asked : WereAsked answers old answered_at
  pub question : Question
  pub cause : AskCause question e answered_at new

-- why not all questions were answered
abbrev pub AsksCause : HostError → Wire → Wire → Type 0
AsksCause host.Broken old new = AsksSome host.Broken old new
AsksCause host.Unwritten old new = AsksSome host.Unwritten old new
AsksCause host.WantOfMemory old new = Unit {0}
