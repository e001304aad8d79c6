-- The blobs of a range, each received in parts and held to its descriptor.
use Rattle.std.specs.Prelude.{◌≡◌, ◌⊎◌, ◌<◌, ◌≤◌, ℕ, pos, Bool, true, false, List, [], ◌∷◌, ◌++◌, length}
use Rattle.std.specs.Prelude.{Option, Some, None}
use Rattle.oci_names.specs.declared.algorithm.Algorithm.{Algorithm}
use Rattle.oci_digests.specs.Holds.{Holds}
use Rattle.oci_digests.specs.declared.digester.Digester.{Digester}
use Rattle.oci_manifests.specs.declared.descriptor.OciDescriptor.{OciDescriptor}
use Rattle.image_blobs.specs.Checked.{IsBlob}
use Rattle.live_host.specs.HostErrors.{TellCause}
use Rattle.live_host.specs.Wire.{Wire, SendsFrame}
use Rattle.live_host.specs.declared.streams.HostError.{HostError}
use Rattle.live_check.specs.Heads.{want_head}
use Rattle.live_check.specs.Parts.{IsPart, PartCut}
use Rattle.live_check.specs.declared.parts.Part.TheVariants.{Piece, End, Failed}

-- ---- what was received

-- the bytes of pieces, of which the last one comes first
abbrev pub bytes_of : List (List ℕ) → List ℕ
bytes_of [] = []
bytes_of (piece ∷ before) = bytes_of before ++ piece

-- these pieces were received, of which the last one comes first
abbrev pub WereReceived : List (List ℕ) → Wire → Wire → Type 0
WereReceived [] old new = old ≡ new
WereReceived (piece ∷ before) old new = (between : Wire) × WereReceived before old between
    × IsPart (Piece piece) between new

-- ---- one blob

-- these pieces and the end were received, and they are the descriptor's blob
pub record PartsStand (x : OciDescriptor) (old new : Wire) : Type 0 where
  pub pieces : List (List ℕ)
  pub ended_at : Wire
  pub received : WereReceived pieces old ended_at
  pub ended : IsPart End ended_at new
  pub blob : IsBlob x (bytes_of pieces)

-- Why what was received is not the descriptor's blob: the host does not have it; or the end was received, and the bytes
-- are other ones; or no bytes that begin so are it.
abbrev pub WhyNot : OciDescriptor → List ℕ → Wire → Wire → Type 0
WhyNot x bytes old new = IsPart Failed old new
    ⊎ ((IsPart End old new × ¬ IsBlob x bytes)
    ⊎ ((old ≡ new) × ((rest : List ℕ) → ¬ IsBlob x (bytes ++ rest))))

-- these pieces were received, and they are not the descriptor's blob
pub record PartsFall (x : OciDescriptor) (old new : Wire) : Type 0 where
  pub pieces : List (List ℕ)
  pub read_at : Wire
  pub received : WereReceived pieces old read_at
  pub why : WhyNot x (bytes_of pieces) read_at new

abbrev pub PartsChecked : OciDescriptor → Bool → Wire → Wire → Type 0
PartsChecked x true old new = PartsStand x old new
PartsChecked x false old new = PartsFall x old new

-- the blob was asked for, and this is whether what was received is it
abbrev pub BlobChecked : OciDescriptor → Bool → Wire → Wire → Type 0
BlobChecked x stood old new = (asked_at : Wire) × SendsFrame (want_head x.digest) [] old asked_at
    × PartsChecked x stood asked_at new

-- ---- one after another

-- the blobs in order: each stands, or they do up to the one of this digest, which does not
abbrev pub Went : List OciDescriptor → Option (List ℕ) → Wire → Wire → Type 0
Went [] fell old new = (fell ≡ None) × (old ≡ new)
Went (x ∷ xs) fell old new = ((between : Wire) × BlobChecked x true old between × Went xs fell between new)
    ⊎ ((fell ≡ Some x.digest) × BlobChecked x false old new)

-- ---- parts

-- these pieces and the end were received, and hashed
pub record PartsWhole (size : ℕ) (from to : Digester) (old new : Wire) : Type 0 where
  pub pieces : List (List ℕ)
  pub ended_at : Wire
  pub received : WereReceived pieces old ended_at
  pub ended : IsPart End ended_at new
  pub sized : length (bytes_of pieces) ≡ size
  pub hashed : (a : Algorithm) → Holds from a [] → Holds to a (bytes_of pieces)

-- the host does not have them, or they are fewer or more
abbrev pub NotSized : ℕ → List ℕ → Wire → Wire → Type 0
NotSized size bytes old new = IsPart Failed old new
    ⊎ ((IsPart End old new × ¬ (length bytes ≡ size)) ⊎ ((old ≡ new) × (size < length bytes)))

pub record PartsOther (size : ℕ) (old new : Wire) : Type 0 where
  pub pieces : List (List ℕ)
  pub read_at : Wire
  pub received : WereReceived pieces old read_at
  pub why : NotSized size (bytes_of pieces) read_at new

abbrev pub PartsHashed : ℕ → Digester → Digester → Bool → Wire → Wire → Type 0
PartsHashed size from to true old new = PartsWhole size from to old new
PartsHashed size from to false old new = PartsOther size old new

-- ---- not to the end

-- these pieces, of no more bytes than the size, were received, and then no part
pub record PiecesCut (size : ℕ) (e : HostError) (old new : Wire) : Type 0 where
  pub pieces : List (List ℕ)
  pub cut_at : Wire
  pub received : WereReceived pieces old cut_at
  pub fit : length (bytes_of pieces) ≤ size
  pub cut : PartCut e cut_at new

-- the same by the size of a descriptor
abbrev pub PartsCut : OciDescriptor → HostError → Wire → Wire → Type 0
PartsCut x e old new = (size : ℕ) × (x.size ≡ pos size) × PiecesCut size e old new

-- why a blob was not checked: it was not asked for; or it was, and its parts were cut
abbrev pub BlobCut : OciDescriptor → HostError → Wire → Wire → Type 0
BlobCut x e old new = TellCause (want_head x.digest, []) e old new
    ⊎ ((asked_at : Wire) × SendsFrame (want_head x.digest) [] old asked_at × PartsCut x e asked_at new)

-- the blobs in order: they stand up to the one that was cut
abbrev pub WentCut : List OciDescriptor → HostError → Wire → Wire → Type 0
WentCut [] e old new = ⊥
WentCut (x ∷ xs) e old new = BlobCut x e old new
    ⊎ ((between : Wire) × BlobChecked x true old between × WentCut xs e between new)
