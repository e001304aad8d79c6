-- Exchanges, and the frames that carried them.
use Rattle.std.specs.Prelude.{◌≡◌, ℕ, List, [], ◌∷◌, ◌++◌, All, Option, Some, None}
use Rattle.std.specs.List.{flat_map}
use Rattle.oci_transport.specs.declared.message.Request.{Request}
use Rattle.oci_transport.specs.declared.message.Answer.{Answer}
use Rattle.oci_transport.specs.declared.message.Exchange.{Exchange}
use Rattle.oci_transport.specs.declared.message.AnswerHead.{AnswerHead}
use Rattle.live_link.specs.Frame.{IsFrame, most_bytes}
use Rattle.live_link.specs.declared.frame.Frame.{Frame}
use Rattle.live_link.specs.Requests.{request_text, more_text}
use Rattle.live_link.specs.Replies.{reply_of}
use Rattle.live_link.specs.Bodies.{body_in}
use Rattle.live_link.specs.declared.replies.Reply.{Reply}
use Rattle.live_link.specs.declared.replies.Reply.TheVariants as Is

-- these bytes are one frame, with this meaning
pub record Replies (reply : Reply) (text : List ℕ) : Type 0 where
  pub frame : Frame
  pub is : IsFrame most_bytes frame text
  pub says : reply_of frame ≡ reply

-- the head of this response
abbrev pub head_in : Answer → AnswerHead
head_in a = record { status = a.status; headers = a.headers }

-- some frame
abbrev pub IsReply : List ℕ → Type 0
IsReply text = (reply : Reply) × Replies reply text

-- one text after another
abbrev pub texts : List (List ℕ) → List ℕ
texts replies = flat_map (λ text. text) replies

-- one request for a piece per reply
abbrev pub asked : List (List ℕ) → List ℕ
asked replies = flat_map (λ text. more_text) replies

-- A request was sent, and its response was received: its head, and a frame for each request for a piece. The body is
-- the pieces directly after the head, in these bytes and those that come after them.
pub record AnsweredTurn (request : Request) (answer : Answer) (sent came after : List ℕ) : Type 0 where
  pub head : List ℕ
  pub replies : List (List ℕ)
  pub out : sent ≡ request_text request ++ asked replies
  pub in_bytes : came ≡ head ++ texts replies
  pub answers : Replies (Is.Answer (head_in answer)) head
  pub frames : All IsReply replies
  pub body : answer.body ≡ body_in (texts replies ++ after)

-- a request was sent, and a frame that reports its failure was received; or nothing was sent or received
pub data UnansweredTurn (request : Request) (sent came : List ℕ) : Type 0 where
  failed : sent ≡ request_text request → Replies Is.Failed came → UnansweredTurn request sent came
  unsent : sent ≡ [] → came ≡ [] → UnansweredTurn request sent came

abbrev pub TurnBy : Option Answer → Request → List ℕ → List ℕ → List ℕ → Type 0
TurnBy None request sent came after = UnansweredTurn request sent came
TurnBy (Some answer) request sent came after = AnsweredTurn request answer sent came after

-- this exchange, by the bytes that were sent and received for it, with these bytes after them
abbrev pub Turn : Exchange → List ℕ → List ℕ → List ℕ → Type 0
Turn e sent came after = TurnBy e.answer e.request sent came after

-- the first exchange, and the others
pub record TranscriptMore (Rest : List ℕ → List ℕ → Type 0) (e : Exchange) (sent came after : List ℕ) : Type 0 where
  pub first_sent : List ℕ
  pub later_sent : List ℕ
  pub first_came : List ℕ
  pub later_came : List ℕ
  pub out : sent ≡ first_sent ++ later_sent
  pub in_bytes : came ≡ first_came ++ later_came
  pub first : Turn e first_sent first_came (later_came ++ after)
  pub later : Rest later_sent later_came

-- These exchanges, one after another: the bytes sent are the frames of their requests and the requests for pieces, and
-- the bytes received are the frames that reply to them.
abbrev pub Transcript : List Exchange → List ℕ → List ℕ → List ℕ → Type 0
Transcript [] sent came after = (sent ≡ []) × (came ≡ [])
Transcript (e ∷ c) sent came after = TranscriptMore (λ s t. Transcript c s t after) e sent came after
