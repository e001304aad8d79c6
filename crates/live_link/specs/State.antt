-- What a transport over a source and a sink exposes.
use Rattle.std.specs.Prelude.{◌≡◌, ℕ, Bool, true, false, List, [], ◌∷◌, ◌++◌, map, Option, Some, None, option_map}
use Rattle.std.specs.Prelude.{unwrap_or, is_some}
use Rattle.std.specs.FinMap.{empty}
use Rattle.std.specs.List.{flat_map}
use Rattle.byte_streams.specs.SinkState.{SinkState}
use Rattle.byte_streams.specs.Source.{SourceState}
use Rattle.oci_transport.specs.Link.{answer_of}
use Rattle.oci_transport.specs.declared.message.Method.TheVariants.{Get}
use Rattle.oci_transport.specs.declared.message.Request.{Request}
use Rattle.oci_transport.specs.declared.message.Exchange.{Exchange}
use Rattle.http_server.specs.declared.log.Log.{Log}
use Rattle.live_link.specs.Bodies.{body_in}
use Rattle.live_link.specs.Requests.{request_text, more_text}
use Rattle.live_link.specs.Transcript.{Transcript}
use Rattle.live_link.specs.declared.stage.Breach.{Breach}
use Rattle.live_link.specs.declared.stage.Stage.{Stage}
use Rattle.live_link.specs.declared.stage.Stage.TheVariants.{Ended, Open, Cut, Broken}
use Rattle.live_link.specs.declared.stage.Heard.{Heard}

-- the body of the last response is being read
abbrev pub is_open : Stage → Bool
is_open Ended = false
is_open Open = true
is_open Cut = false
is_open (Broken why) = false

-- why nothing more is sent
abbrev pub breach_in : Stage → Option Breach
breach_in Ended = None
breach_in Open = None
breach_in Cut = None
breach_in (Broken breach) = Some breach

-- the body that begins these bytes, of a response whose head was read before them
abbrev pub body_left : Option (List ℕ) → List ℕ
body_left left = body_in (unwrap_or left [])

abbrev pub exchange_in : Option (List ℕ) → Request × Heard → Exchange
exchange_in left entry = record {
  request = entry.0;
  answer = option_map (λ head. answer_of head (body_left left)) entry.1.head;
  faults = entry.1.faults;
}

-- the exchanges of a history, each with the source as it was when its head was read
abbrev pub exchanges_by : {S : Type 0} → (S → SourceState) → List (S × Log Request Heard) → List Exchange
exchanges_by source_state items = flat_map (λ item. map (exchange_in (source_state item.0).left) item.1.items) items

abbrev pub is_answered : Exchange → Bool
is_answered e = is_some e.answer

-- the last of these exchanges has a response
abbrev pub ends_answered : List Exchange → Bool
ends_answered [] = false
ends_answered (e ∷ []) = is_answered e
ends_answered (e ∷ f ∷ c) = ends_answered (f ∷ c)

-- An entry before the exposed exchanges that is not an exchange: what the sink had taken at the beginning, as the body
-- of a request, and what the source had left, as that of a response. So a caller that passes a transport to a call
-- knows afterwards that it is over the same streams.
abbrev pub opening : List ℕ → List ℕ → Exchange
opening taken left = record {
  request = record { method = Get; url = []; headers = empty; body = taken };
  answer = Some (record { status = 0; headers = empty; body = left });
  faults = 0;
}

abbrev pub told_from : Option (List ℕ) → Option (List ℕ) → List Exchange → Option (List Exchange)
told_from None left c = None
told_from (Some taken) None c = None
told_from (Some taken) (Some left) c = Some (opening taken left ∷ c)

-- exchanges are exposed if source and sink exposed their bytes at the beginning
abbrev pub told_since : {S K : Type 0}
    → (S → SourceState) → (K → SinkState) → List (S × K) → List Exchange → Option (List Exchange)
told_since source_state sink_state [] c = None
told_since source_state sink_state (first ∷ later) c = told_from (sink_state first.1).taken
    (source_state first.0).left c

-- what is left of the last response's body, if the source exposes that
abbrev pub rest_in : Stage → Option (List ℕ) → Option (List ℕ)
rest_in Ended left = Some []
rest_in Open left = option_map body_in left
rest_in Cut left = Some []
rest_in (Broken why) left = Some []

-- a prefix of this text
abbrev pub IsPrefix : List ℕ → List ℕ → Type 0
IsPrefix front text = (rest : List ℕ) × text ≡ front ++ rest

-- what was sent last, outside the frames of these exchanges: a prefix of one frame, which requests a piece, or one of the
-- exchanges without a response
pub data SentLast (c : List Exchange) (front : List ℕ) : Type 0 where
  a_piece : IsPrefix front more_text → SentLast c front
  a_request : (before after : List Exchange) (e : Exchange) → c ≡ before ++ e ∷ after → e.answer ≡ None
      → IsPrefix front (request_text e.request) → SentLast c front

-- All that was sent and received since, if source and sink exposed their bytes: the frames of these exchanges and, if
-- something broke the streams, bytes outside of them after them: of those sent, a prefix of one frame.
pub record Held (taken left : List ℕ) (sink_state : SinkState) (source_state : SourceState) (breach : Option Breach)
    (c : List Exchange)
    : Type 0 where
  pub sent : List ℕ
  pub came : List ℕ
  pub lost_out : List ℕ
  pub lost_in : List ℕ
  pub after : List ℕ
  pub took : sink_state.taken ≡ Some (taken ++ (sent ++ lost_out))
  pub leaves : source_state.left ≡ Some after
  pub gave : left ≡ came ++ (lost_in ++ after)
  pub spoke : Transcript c sent came (lost_in ++ after)
  pub last : SentLast c lost_out
  pub in_step : breach ≡ None → (lost_out ≡ []) × (lost_in ≡ [])

-- while a body is read, the last exchange has a response
pub record HeldAt (taken left : List ℕ) (sink_state : SinkState) (source_state : SourceState) (stage : Stage)
    (c : List Exchange)
    : Type 0 where
  pub held : Held taken left sink_state source_state (breach_in stage) c
  pub answered : is_open stage ≡ true → ends_answered c ≡ true

-- the same if the beginning is in a history
abbrev pub Holds : {S K : Type 0}
    → (S → SourceState) → (K → SinkState) → List (S × K) → S → K → Stage → List Exchange → Type 0
Holds source_state sink_state [] source sink stage c = Unit {0}
Holds source_state sink_state (first ∷ later) source sink stage c =
    (taken left : List ℕ) → (sink_state first.1).taken ≡ Some taken → (source_state first.0).left ≡ Some left
    → HeldAt taken left (sink_state sink) (source_state source) stage c
