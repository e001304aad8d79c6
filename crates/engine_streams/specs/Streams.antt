-- A stream of a blob's bytes: what it returned so far, and what its next piece is.
use Rattle.std.specs.Prelude.{◌≡◌, ◌<◌, ℕ, ◌+◌, List, [], ◌++◌, length, Option, Some, None, option_map, Result, Ok, Err}
use Rattle.json_values.specs.Counts.{Increased}
use Rattle.oci_transport.specs.Link.{Link, Takes}
use Rattle.oci_digests.specs.Both.{BothHold}
use Rattle.engine_answers.specs.Blobs.{both_compared, given_algorithm}
use Rattle.engine_terms.specs.declared.error.OciDistributionError.{OciDistributionError}
use Rattle.engine_terms.specs.declared.error.OciDistributionError.TheVariants as refusal
use Rattle.engine_streams.specs.declared.head.Digests.{Digests}
use Rattle.engine_streams.specs.declared.head.Opening.{Opening}
use Rattle.engine_streams.specs.declared.stream.Check.{Check}
use Rattle.engine_streams.specs.declared.stream.SizedStream.{SizedStream}
use Rattle.engine_streams.specs.declared.stream.Stage.TheVariants.{Open, Ended, Failed}

-- the digest of the header is compared with the bytes, then that of the descriptor, if they are compared at all
abbrev pub compared : Option Digests → List ℕ → Result Unit OciDistributionError
compared None bytes = Ok tt
compared (Some d) bytes = both_compared d.given d.own bytes

-- what the bytes of a stream are compared with
abbrev pub digests_of : Option Check → Option Digests
digests_of check = option_map (λ (c : Check). c.digests) check

-- these bytes were hashed
abbrev pub Hashed : Option Check → List ℕ → Type 0
Hashed None bytes = Unit {0}
Hashed (Some c) bytes = BothHold c.digesters (given_algorithm c.digests.given) c.digests.own.algorithm bytes

-- what a stream states about its response
abbrev pub opening_of : SizedStream → Opening
opening_of s = record {
  content_length = s.content_length;
  digest_header_value = s.digest_header_value;
  digests = digests_of s.check;
}

-- the stream returned the bytes `gave`, and may return more, at most `limit` in all
pub record IsOpen (limit : ℕ) (gave : List ℕ) (s : SizedStream) : Type 0 where
  pub stage : s.stage ≡ Open
  pub within : length gave + s.left ≡ limit
  pub hashed : Hashed s.check gave

-- it returned all
abbrev pub HasEnded : SizedStream → Type 0
HasEnded s = s.stage ≡ Ended

-- an earlier `next` returned an error
abbrev pub HasFailed : SizedStream → Type 0
HasFailed s = s.stage ≡ Failed

-- the piece is not empty, and it is a prefix of what was left
abbrev pub IsNextPiece : List ℕ → Link → Link → Type 0
IsNextPiece piece old new = (piece ≡ [] → ⊥) × Takes piece old new

-- nothing was left
abbrev pub NothingLeft : Link → Link → Type 0
NothingLeft old new = Takes [] old new

-- why a stream that returned these bytes refuses the next piece
abbrev pub NextCause : ℕ → List ℕ → Option Digests → Link → Link → OciDistributionError → Type 0
NextCause limit gave digests old new refusal.WantOfMemory = Unit {0}
NextCause limit gave digests old new refusal.TransportFault = Increased old.faults new.faults
NextCause limit gave digests old new refusal.BodyTooLong =
    (rest : List ℕ) → old.rest ≡ Some rest → limit < length gave + length rest
NextCause limit gave digests old new (refusal.DigestError e) =
    NothingLeft old new × (compared digests gave ≡ Err (refusal.DigestError e))
NextCause limit gave digests old new e = ⊥

-- The result of an open stream, and its next state: one more piece, or its end if nothing is left and the bytes have
-- the digests, or a refusal.
abbrev pub Next : ℕ → List ℕ → SizedStream → Link → Link → Result (Option (List ℕ)) OciDistributionError → Type 0
Next limit gave after old new (Ok (Some piece)) = IsNextPiece piece old new × IsOpen limit (gave ++ piece) after
Next limit gave after old new (Ok None) =
    NothingLeft old new × (compared (digests_of after.check) gave ≡ Ok tt) × HasEnded after
Next limit gave after old new (Err e) = NextCause limit gave (digests_of after.check) old new e × HasFailed after

-- a piece that is returned, if one is, is a prefix of what was left
abbrev pub GivesPrefix : Option (List ℕ) → Link → Link → Type 0
GivesPrefix None old new = Unit {0}
GivesPrefix (Some piece) old new = IsNextPiece piece old new
