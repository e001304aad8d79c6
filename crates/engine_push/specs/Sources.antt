-- What is taken from a source, and what requests contain of it.
use Rattle.std.specs.Prelude.{◌≡◌, ◌≢◌, ◌≤◌, ◌<◌, ◌⊎◌, ℕ, Bool, true, false, List, [], ◌∷◌, ◌++◌, flat_map, Option}
use Rattle.std.specs.Prelude.{Some, None, is_some, length, Result, Ok, Err}
use Rattle.std.specs.Io.KnownBytes.{IsAtEnd}
use Rattle.json_values.specs.Counts.{Increased}
use Rattle.oci_digests.specs.Holds.{Holds}
use Rattle.oci_names.specs.declared.algorithm.Algorithm.TheVariants.{Sha256}
use Rattle.oci_digests.specs.declared.digester.Digester.{Digester}
use Rattle.oci_transport.specs.Link.{Link}
use Rattle.oci_transport.specs.Pieces.{joined}
use Rattle.oci_protocol.specs.Runs.{Told}
use Rattle.engine_terms.specs.declared.error.OciDistributionError.{OciDistributionError}
use Rattle.engine_terms.specs.declared.error.OciDistributionError.TheVariants as refusal
use Rattle.engine_terms.specs.declared.error.GenericCause.TheVariants.{NoSize, SizeDiffers}
use Rattle.push_rows.specs.Bodies.{bodies, IsPrefix, LastLong}
use Rattle.push_rows.specs.PieceStates.{PieceState, Takes, TakesPieces, NoneAhead, part}
use Rattle.push_rows.specs.Uploads.{Sent, chunks}
use Rattle.engine_push.specs.declared.pieces.Upload.{Upload}

-- these bytes are a prefix of what is left, if that is exposed
abbrev pub IsPrefixOf : List ℕ → Option (List ℕ) → Type 0
IsPrefixOf first None = Unit {0}
IsPrefixOf first (Some left) = IsPrefix first left

-- If exchanges are exposed, their requests contained all that the source had left, or a prefix of it if the call was
-- refused.
abbrev pub Pushes : {A E : Type 0} → PieceState → PieceState → Link → Link → Result A E → Type 0
Pushes before after old new (Ok a) = Told (λ c. Takes (joined (bodies c)) before after) old new × IsAtEnd after.left
Pushes before after old new (Err e) = Told (λ c. IsPrefixOf (joined (bodies c)) before.left) old new

-- ---- how pieces are cut

-- each piece in parts of at most 4194304 bytes
abbrev pub cuts : List (List ℕ) → List (List ℕ)
cuts pieces = flat_map chunks pieces

-- These bodies are those of all pieces that were ahead.
pub record AllCut (before after : PieceState) (sent : List (List ℕ)) : Type 0 where
  pub pieces : List (List ℕ)
  pub taken : TakesPieces pieces before after
  pub cut : sent ≡ cuts pieces
  pub ended : NoneAhead after

-- These bodies are those of pieces that were ahead. At most one piece was taken besides them, and sent in part or not at
-- all.
pub record SomeCut (before after : PieceState) (sent : List (List ℕ)) : Type 0 where
  pub pieces : List (List ℕ)
  pub held : List ℕ
  pub taken : TakesPieces (pieces ++ part held) before after
  pub first : List (List ℕ)
  pub of_held : IsPrefix first (chunks held)
  pub cut : sent ≡ cuts pieces ++ first

-- All pieces together are this one body.
pub record AllJoined (before after : PieceState) (sent : List (List ℕ)) : Type 0 where
  pub pieces : List (List ℕ)
  pub taken : TakesPieces pieces before after
  pub whole : sent ≡ part (joined pieces)
  pub ended : NoneAhead after

-- There is no body, or this one.
abbrev pub SomeJoined : PieceState → PieceState → List (List ℕ) → Type 0
SomeJoined before after sent = (sent ≡ []) ⊎ AllJoined before after sent

-- If exchanges and pieces are exposed, the requests contained the source's pieces, in its order, each cut at 4194304
-- bytes, and each was sent before the next one was taken.
abbrev pub Cuts : {A E : Type 0} → PieceState → PieceState → Link → Link → Result A E → Type 0
Cuts before after old new (Ok a) = Told (λ c. AllCut before after (bodies c)) old new
Cuts before after old new (Err e) = Told (λ c. SomeCut before after (bodies c)) old new

-- The same, or as one body if a push is sent by one request.
abbrev pub CutBy : {A E : Type 0} → Bool → PieceState → PieceState → Link → Link → Result A E → Type 0
CutBy false before after old new r = Cuts before after old new r
CutBy true before after old new (Ok a) = Told (λ c. AllJoined before after (bodies c)) old new
CutBy true before after old new (Err e) = Told (λ c. SomeJoined before after (bodies c)) old new

-- ---- what was taken

-- these bytes were taken, and none is left
abbrev pub TookAll : List ℕ → PieceState → PieceState → Type 0
TookAll bytes before after = Takes bytes before after × IsAtEnd after.left

-- More bytes than the limit were taken: the last piece exceeds it, and those before do not.
pub record TookMore (limit : ℕ) (before after : PieceState) : Type 0 where
  pub pieces : List (List ℕ)
  pub last : List ℕ
  pub taken : TakesPieces (pieces ++ last ∷ []) before after
  pub bytes : Takes (joined pieces ++ last) before after
  pub within : length (joined pieces) ≤ limit
  pub exceeds : limit < length (joined pieces ++ last)

-- all that the source had left is returned, unless the call was refused
abbrev pub AllConsumed : {E : Type 0} → PieceState → PieceState → Result (List ℕ) E → Type 0
AllConsumed before after (Ok bytes) = TookAll bytes before after
AllConsumed before after (Err e) = Unit {0}

-- with all pieces that were ahead
abbrev pub AllGathered : {E : Type 0} → PieceState → PieceState → Result (List ℕ) E → Type 0
AllGathered before after (Ok bytes) = AllJoined before after (part bytes)
AllGathered before after (Err e) = Unit {0}

-- ---- why nothing more was taken from a source

-- it failed to give a piece
abbrev pub NoPiece : PieceState → PieceState → OciDistributionError → Type 0
NoPiece before after refusal.SourceFault = Increased before.faults after.faults
NoPiece before after refusal.WantOfMemory = Unit {0}
NoPiece before after _ = ⊥

-- it gave more bytes than the limit
abbrev pub NotHeld : ℕ → PieceState → PieceState → OciDistributionError → Type 0
NotHeld limit before after refusal.BodyTooLong = TookMore limit before after
NotHeld limit before after e = NoPiece before after e

-- a request was refused, for a response with more bytes than the limit, or for a cause other than the source
abbrev pub NotSent : ℕ → PieceState → PieceState → Link → Link → OciDistributionError → Type 0
NotSent limit before after old new refusal.SourceFault = Increased before.faults after.faults
NotSent limit before after old new refusal.BodyTooLong = TookMore limit before after ⊎ Told (LastLong limit) old new
NotSent limit before after old new refusal.PushNoDataError = ⊥
NotSent limit before after old new (refusal.GenericError NoSize) = ⊥
NotSent limit before after old new (refusal.GenericError SizeDiffers) = ⊥
NotSent limit before after old new _ = Unit {0}

-- Why a call was refused for what its source gave, or for the size that was passed in. A refusal about a response has
-- another cause.
abbrev pub SourceCause : ℕ → Option ℕ → PieceState → PieceState → Link → Link → OciDistributionError → Type 0
SourceCause limit size before after old new refusal.PushNoDataError = TookAll [] before after
SourceCause limit size before after old new (refusal.GenericError NoSize) = size ≡ None
SourceCause limit size before after old new (refusal.GenericError SizeDiffers) = (n : ℕ) × (bytes : List ℕ)
    × (size ≡ Some n) × TookAll bytes before after × (length bytes ≢ n)
SourceCause limit size before after old new e = NotSent limit before after old new e

-- the bytes were hashed, if they are hashed at all
abbrev pub Hashed : Option Digester → List ℕ → Type 0
Hashed None bytes = Unit {0}
Hashed (Some digester) bytes = Holds digester Sha256 bytes

-- the upload holds the number of these bytes, and their hash if there is a digester
pub record IsUpload (digester : Option Digester) (upload : Upload) (bytes : List ℕ) : Type 0 where
  pub size : upload.size ≡ length bytes
  pub hashed : Hashed upload.digester bytes
  pub given : is_some upload.digester ≡ is_some digester

-- an upload of these bytes, as rows represent it
abbrev pub sent_in : {E : Type 0} → List ℕ → Result Upload E → Result Sent E
sent_in bytes (Ok upload) = Ok (record { location = upload.location; bytes = bytes })
sent_in bytes (Err e) = Err e
