-- Frames that are received.
use Rattle.std.proofs.Common.{◌≡◌, ℕ, ◌≤◌, List, [], ◌∷◌, length, Ok, Err, refl, subst, arith}
use Rattle.std.specs.Prelude.{Some, Option}
use Rattle.serde_json.specs.Data.{Data}
use Rattle.byte_streams.specs.SinkState.{SinkState}
use Rattle.byte_streams.specs.Source.{SourceState}
use Rattle.live_link.specs.Frame.{IsFrame}
use Rattle.live_link.specs.Reading.{ReadsFrame}
use Rattle.live_link.specs.declared.frame.Frame.{Frame}
use Rattle.live_link.specs.declared.reading.FrameError.{FrameError}
use Rattle.live_link.specs.declared.reading.FrameError.TheVariants.{WantOfMemory}
use Rattle.live_host.specs.Wire.{Wire, ReceivesFrame, ReceivesNone, SendsFrame, SendsAndReceives}

no_bytes : (bytes : List ℕ) → length bytes ≤ 0 → bytes ≡ []
no_bytes [] h = refl
no_bytes (b ∷ bytes) h = absurd (omega (arith, h))

-- a frame without bytes was received
pub heard : (frame : Frame) (old new : SourceState) (sink : SinkState) → ReadsFrame 0 (Ok frame) old new
    → ReceivesFrame frame.head (record { source = old; sink = sink }) (record { source = new; sink = sink })
heard frame old new sink (text, taken, is, stays) =
    (text, taken, subst (λ b. IsFrame 0 (record { head = frame.head; bytes = b }) text) (no_bytes frame.bytes is.few) is, refl)

-- no frame was received
pub heard_none : (e : FrameError) (old new : SourceState) (sink : SinkState) → ReadsFrame 0 (Err e) old new → (e ≡ WantOfMemory → ⊥)
    → ReceivesNone (record { source = old; sink = sink }) (record { source = new; sink = sink })
heard_none e old new sink (text, taken, stops) other = (e, text, taken, stops, other, refl)

-- a frame that was sent, and an answer that was received
pub asks : {X : Type 0} (head same : Data) (bytes equal : List ℕ) (reads : Data → Option X) (x : X) (answer d : Data) (old between new : Wire)
    → head ≡ same → bytes ≡ equal → SendsFrame head bytes old between → ReceivesFrame answer between new → d ≡ answer → reads d ≡ Some x → SendsAndReceives same equal reads x old new
asks head same bytes equal reads x answer d old between new is_head is_bytes told heard is read = record {
  between = between;
  told = rw (← is_head, ← is_bytes) told;
  answer = answer;
  heard = heard;
  is_read = subst (λ a. reads a ≡ Some x) is read;
}
