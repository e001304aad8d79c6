-- Bytes that are held to a descriptor.
use Rattle.std.specs.Prelude.{◌≡◌, ◌≤◌, ◌<◌, ◌⊎◌, ◌↔◌, ℕ, pos, Bool, List, [], IsTrue, length, Option, Some, None}
use Rattle.std.specs.Prelude.{Result, Ok, Err}
use Rattle.std.specs.Io.KnownBytes.{IsAtEnd}
use Rattle.json_values.specs.Counts.{Increased}
use Rattle.byte_streams.specs.Source.{SourceState, Takes}
use Rattle.oci_names.specs.declared.algorithm.Algorithm.{Algorithm}
use Rattle.oci_digests.specs.Checks.{named_algorithm}
use Rattle.oci_digests.specs.Holds.{Holds}
use Rattle.oci_digests.specs.Names.{Names}
use Rattle.oci_digests.specs.declared.digester.Digester.{Digester}
use Rattle.oci_manifests.specs.declared.descriptor.OciDescriptor.{OciDescriptor}
use Rattle.engine_terms.specs.declared.error.OciDistributionError.{OciDistributionError}
use Rattle.engine_terms.specs.declared.error.OciDistributionError.TheVariants as refusal
use Rattle.call_laws.specs.Cut.{size_of}

-- the bytes are the blob of the descriptor: they have its size, and its digest names them
abbrev pub IsBlob : OciDescriptor → List ℕ → Type 0
IsBlob x bytes = (pos (length bytes) ≡ x.size) × Names x.digest bytes

-- what settles whether bytes that were read are the blob: none is left, or they are more than the descriptor states, or
-- no bytes are its blob
abbrev pub IsSettledBy : OciDescriptor → List ℕ → SourceState → Type 0
IsSettledBy x bytes new = IsAtEnd new.left
    ⊎ ((size_of x < length bytes) ⊎ ((other : List ℕ) → IsBlob x other → ⊥))

-- These bytes were read, and the result is whether they are the blob, with what settled it. If they are, none is left.
pub record Decided (x : OciDescriptor) (old new : SourceState) (stood : Bool) : Type 0 where
  pub bytes : List ℕ
  pub took : Takes bytes old new
  pub exact : IsTrue stood ↔ IsBlob x bytes
  pub whole : IsTrue stood → IsAtEnd new.left
  pub settled : IsSettledBy x bytes new

-- if the source exposes its bytes, whether all of them are the blob
abbrev pub DecidesAll : OciDescriptor → SourceState → Bool → Type 0
DecidesAll x old stood = (all : List ℕ) → old.left ≡ Some all → (IsTrue stood ↔ IsBlob x all)

-- at most `limit` bytes were read, if the source exposes its bytes
pub record TakesWithin (limit : ℕ) (old new : SourceState) : Type 0 where
  pub bytes : List ℕ
  pub within : length bytes ≤ limit
  pub took : Takes bytes old new

-- The bytes were read and hashed, and the result is whether they are as many. If they are, none is left; otherwise none
-- is left, or they are more.
pub record Hashed (size : ℕ) (from to : Digester) (old new : SourceState) (sized : Bool) : Type 0 where
  pub bytes : List ℕ
  pub took : Takes bytes old new
  pub exact : IsTrue sized ↔ (length bytes ≡ size)
  pub whole : IsTrue sized → IsAtEnd new.left
  pub settled : IsAtEnd new.left ⊎ (size < length bytes)
  pub hashed : IsTrue sized → (a : Algorithm) → Holds from a [] → Holds to a bytes

-- a new digester of the algorithm that the text names; none if the text names no bytes
abbrev pub IsDigesterOf : List ℕ → Option Digester → Type 0
IsDigesterOf digest None = (bytes : List ℕ) → Names digest bytes → ⊥
IsDigesterOf digest (Some d) = (a : Algorithm) × (named_algorithm digest ≡ Ok a) × Holds d a []

-- why the check was refused
abbrev pub CheckCause : SourceState → SourceState → OciDistributionError → Type 0
CheckCause old new refusal.SourceFault = Increased old.faults new.faults
CheckCause old new refusal.WantOfMemory = Unit {0}
CheckCause old new e = ⊥

abbrev pub ReadsBlob : ℕ → Digester → Digester → SourceState → SourceState → Result Bool OciDistributionError → Type 0
ReadsBlob size from to old new (Ok sized) = Hashed size from to old new sized
ReadsBlob size from to old new (Err e) = CheckCause old new e

-- the result of a check
abbrev pub Checks : OciDescriptor → SourceState → SourceState → Result Bool OciDistributionError → Type 0
Checks x old new (Ok stood) = Decided x old new stood
Checks x old new (Err e) = CheckCause old new e
