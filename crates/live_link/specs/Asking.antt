-- One question to the host: a frame is sent, and a frame is received.
use Rattle.std.specs.Prelude.{◌≡◌, ℕ, List, [], Option, Some, None, Result, Ok, Err}
use Rattle.byte_streams.specs.SinkState.{SinkState, Adds, AddsPrefix}
use Rattle.byte_streams.specs.Source.{SourceState, Takes}
use Rattle.oci_transport.specs.declared.message.Request.{Request}
use Rattle.oci_transport.specs.declared.message.AnswerHead.{AnswerHead}
use Rattle.live_link.specs.Requests.{request_text, more_text}
use Rattle.live_link.specs.Transcript.{Replies}
use Rattle.live_link.specs.State.{breach_in}
use Rattle.live_link.specs.declared.replies.Reply.{Reply}
use Rattle.live_link.specs.declared.replies.Reply.TheVariants.{Answer, Piece, End, Failed, Other}
use Rattle.live_link.specs.declared.stage.Breach.{Breach}
use Rattle.live_link.specs.declared.stage.Breach.TheVariants.{Frame}
use Rattle.live_link.specs.declared.stage.Stage.{Stage}
use Rattle.live_link.specs.declared.stage.Stage.TheVariants.{Ended, Open, Cut, Broken}

-- this text was sent, and this reply was received
pub record Asked (text : List ℕ) (reply : Reply) (s t : SourceState) (k l : SinkState) : Type 0 where
  pub came : List ℕ
  pub sent : Adds text k l
  pub replied : Replies reply came
  pub taken : Takes came s t

-- a prefix of this text was sent, and anything was received
pub record Unknown (text : List ℕ) (s t : SourceState) (k l : SinkState) : Type 0 where
  pub came : List ℕ
  pub sent : AddsPrefix text k l
  pub taken : Takes came s t

abbrev pub Asks : List ℕ → Result Reply Breach → SourceState → SourceState → SinkState → SinkState → Type 0
Asks text (Ok reply) s t k l = Asked text reply s t k l
Asks text (Err breach) s t k l = Unknown text s t k l

-- the stage of a request that is not sent
abbrev pub unsent : Stage → Stage
unsent Ended = Ended
unsent Open = Ended
unsent Cut = Ended
unsent (Broken breach) = Broken breach

-- the stage after the reply to a request, and the head of its response, if one arrived
abbrev pub head_after : Result Reply Breach → Stage × Option AnswerHead
head_after (Ok (Answer head)) = (Open, Some head)
head_after (Ok (Piece piece)) = (Broken Frame, None)
head_after (Ok End) = (Broken Frame, None)
head_after (Ok Failed) = (Ended, None)
head_after (Ok Other) = (Broken Frame, None)
head_after (Err breach) = (Broken breach, None)

-- the stage after the reply to the request for a piece, and the piece, which is empty at the end, if one arrived
abbrev pub piece_after : Result Reply Breach → Stage × Option (List ℕ)
piece_after (Ok (Answer head)) = (Broken Frame, None)
piece_after (Ok (Piece piece)) = (Open, Some piece)
piece_after (Ok End) = (Ended, Some [])
piece_after (Ok Failed) = (Cut, None)
piece_after (Ok Other) = (Broken Frame, None)
piece_after (Err breach) = (Broken breach, None)

-- a request was not sent, or was sent with this outcome
pub data Sends (request : Request) (stage : Stage) (r : Stage × Option AnswerHead) (s t : SourceState) (k l : SinkState)
    : Type 0 where
  not_sent : r ≡ (unsent stage, None) → t ≡ s → l ≡ k → Sends request stage r s t k l
  was_sent : (reply : Result Reply Breach) → breach_in stage ≡ None → r ≡ head_after reply
      → Asks (request_text request) reply s t k l → Sends request stage r s t k l

-- a piece was requested, with this outcome
pub record PieceReply (r : Stage × Option (List ℕ)) (s t : SourceState) (k l : SinkState) : Type 0 where
  pub reply : Result Reply Breach
  pub is : r ≡ piece_after reply
  pub asks : Asks more_text reply s t k l
