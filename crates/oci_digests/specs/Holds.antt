-- The bytes that a digester has hashed.
use Rattle.std.specs.Prelude.{◌≡◌, ℕ, List, [], MatchBool, Result, Ok, Err}
use Rattle.oci_names.specs.declared.algorithm.Algorithm.{Algorithm}
use Rattle.oci_digests.specs.Error.{is_memory}
use Rattle.oci_digests.specs.Hashes.{HasherHolds}
use Rattle.oci_digests.specs.declared.digester.Digester.{Digester}
use Rattle.oci_digests.specs.declared.error.DigestError.{DigestError}

-- the digester has this algorithm and has hashed these bytes
abbrev pub Holds : Digester → Algorithm → List ℕ → Type 0
Holds d a m = HasherHolds d.hasher a m

-- a new digester of the algorithm, or the error, or out of memory
abbrev pub MatchesDigester : Result Digester DigestError → Result Algorithm DigestError → Type 0
MatchesDigester (Ok d) (Ok a) = Holds d a []
MatchesDigester (Ok d) (Err e) = ⊥
MatchesDigester (Err e) said = MatchBool (is_memory e) (Unit {0}) (said ≡ Err e)
