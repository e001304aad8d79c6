-- The connection between the program and its host: the bytes that are received, and those that are sent.
use Rattle.std.specs.Prelude.{◌≡◌, ℕ, List, [], Option, Some}
use Rattle.serde_json.specs.Data.{Data}
use Rattle.byte_streams.specs.SinkState.{SinkState, Adds}
use Rattle.byte_streams.specs.Source.{SourceState, Takes}
use Rattle.live_host.specs.declared.streams.Streams.{Streams}
use Rattle.live_link.specs.Frame.{IsFrame}
use Rattle.live_link.specs.Writing.{frame_text}
use Rattle.live_link.specs.Reading.{Stops}
use Rattle.live_link.specs.declared.reading.FrameError.{FrameError}
use Rattle.live_link.specs.declared.reading.FrameError.TheVariants.{WantOfMemory}

pub record Wire : Type 0 where
  pub source : SourceState
  pub sink : SinkState

-- the states of two streams, from those of their source and sink
abbrev pub wire : {S K : Type 0} → (S → SourceState) → (K → SinkState) → Streams S K → Wire
wire source sink streams = record { source = source streams.source; sink = sink streams.sink }

-- this frame was sent, and nothing was received
abbrev pub SendsFrame : Data → List ℕ → Wire → Wire → Type 0
SendsFrame head bytes old new = Adds (frame_text head bytes) old.sink new.sink × (new.source ≡ old.source)

-- a frame without bytes was received, and nothing was sent
abbrev pub ReceivesFrame : Data → Wire → Wire → Type 0
ReceivesFrame head old new = (text : List ℕ) × Takes text old.source new.source
    × IsFrame 0 (record { head = head; bytes = [] }) text × (new.sink ≡ old.sink)

-- no frame without bytes was received: the source failed or ended, or the line is malformed; and nothing was sent
abbrev pub ReceivesNone : Wire → Wire → Type 0
ReceivesNone old new = (e : FrameError) × (text : List ℕ) × Takes text old.source new.source
    × Stops 0 e text old.source new.source × (e ≡ WantOfMemory → ⊥) × (new.sink ≡ old.sink)

-- this frame was sent, and then a frame was received that parses as `x`
pub record SendsAndReceives {X : Type 0} (head : Data) (bytes : List ℕ) (reads : Data → Option X) (x : X)
    (old new : Wire)
    : Type 0 where
  pub between : Wire
  pub told : SendsFrame head bytes old between
  pub answer : Data
  pub heard : ReceivesFrame answer between new
  pub is_read : reads answer ≡ Some x
