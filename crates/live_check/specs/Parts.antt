-- The parts of a blob, each asked for and received as a frame.
use Rattle.std.specs.Prelude.{◌≡◌, ◌⊎◌, ℕ, List, [], ◌∷◌, Option, Some, None, bytes_eq, codes, if◌then◌else◌}
use Rattle.byte_streams.specs.Source.{Takes}
use Rattle.live_link.specs.Frame.{IsFrame, kind_of, most_bytes}
use Rattle.live_link.specs.Reading.{Stops}
use Rattle.live_link.specs.declared.frame.Frame.{Frame}
use Rattle.live_link.specs.declared.reading.FrameError.{FrameError}
use Rattle.live_link.specs.declared.reading.FrameError.TheVariants as frame_error
use Rattle.live_host.specs.HostErrors.{SendsPrefix}
use Rattle.live_host.specs.Wire.{Wire, SendsFrame}
use Rattle.live_host.specs.declared.streams.HostError.{HostError}
use Rattle.live_host.specs.declared.streams.HostError.TheVariants as host
use Rattle.live_check.specs.Heads.{more_head}
use Rattle.live_check.specs.declared.parts.Part.{Part}
use Rattle.live_check.specs.declared.parts.Part.TheVariants.{Piece, End, Failed}

-- a frame with bytes
abbrev pub piece_part : List ℕ → List ℕ → Option Part
piece_part kind bytes = if bytes_eq kind (codes "piece") then Some (Piece bytes) else None

-- a frame without bytes
abbrev pub plain_part : List ℕ → Option Part
plain_part kind =
    if bytes_eq kind (codes "end") then Some End else (if bytes_eq kind (codes "failed") then Some Failed else None)

abbrev pub part_by : Option (List ℕ) → List ℕ → Option Part
part_by None bytes = None
part_by (Some kind) [] = plain_part kind
part_by (Some kind) (b ∷ bytes) = piece_part kind (b ∷ bytes)

-- the part that a frame is, if it is one
unfoldable pub part_of : Frame → Option Part
part_of frame = part_by (kind_of frame.head) frame.bytes

-- this frame was received, and nothing was sent
abbrev pub TakesFrame : Frame → Wire → Wire → Type 0
TakesFrame frame old new = (text : List ℕ) × Takes text old.source new.source × IsFrame most_bytes frame text
    × (new.sink ≡ old.sink)

-- the next part was asked for, and this one was received
pub record IsPart (part : Part) (old new : Wire) : Type 0 where
  pub asked_at : Wire
  pub asked : SendsFrame more_head [] old asked_at
  pub frame : Frame
  pub received : TakesFrame frame asked_at new
  pub is : part_of frame ≡ Some part

-- ---- no part

-- no frame was received, and nothing was sent: the source failed or ended, or the line is malformed
abbrev pub TakesNone : Wire → Wire → Type 0
TakesNone old new = (e : FrameError) × (text : List ℕ) × Takes text old.source new.source
    × Stops most_bytes e text old.source new.source × (e ≡ frame_error.WantOfMemory → ⊥) × (new.sink ≡ old.sink)

-- a frame was received that is not a part of a blob
abbrev pub TakesOther : Wire → Wire → Type 0
TakesOther old new = (frame : Frame) × TakesFrame frame old new × (part_of frame ≡ None)

-- why no frame was received
abbrev pub TakeCause : HostError → Wire → Wire → Type 0
TakeCause host.Broken old new = TakesNone old new
TakeCause host.Unwritten old new = ⊥
TakeCause host.WantOfMemory old new = Unit {0}

-- the next part was asked for, and none was received
pub record IsNoPart (old new : Wire) : Type 0 where
  pub asked_at : Wire
  pub asked : SendsFrame more_head [] old asked_at
  pub none : TakesNone asked_at new ⊎ TakesOther asked_at new

-- why the next part was not received
abbrev pub PartCut : HostError → Wire → Wire → Type 0
PartCut host.Broken old new = IsNoPart old new
PartCut host.Unwritten old new = SendsPrefix (more_head, []) old new
PartCut host.WantOfMemory old new = Unit {0}
