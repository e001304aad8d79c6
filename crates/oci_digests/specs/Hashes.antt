-- The hash of each algorithm.
use Rattle.std.specs.Prelude.{ℕ, List}
use Rattle.sha2.specs.Hashers.{Holds256, Holds384, Holds512}
use Rattle.sha2.specs.Sha256.{sha256}
use Rattle.sha2.specs.Sha512.{sha384, sha512}
use Rattle.oci_names.specs.declared.algorithm.Algorithm.{Algorithm}
use Rattle.oci_names.specs.declared.algorithm.Algorithm.TheVariants as algorithms
use Rattle.oci_digests.specs.declared.hasher.Hasher.{Hasher}
use Rattle.oci_digests.specs.declared.hasher.Hasher.TheVariants as hashers

abbrev pub hash_of : Algorithm → List ℕ → List ℕ
hash_of algorithms.Sha256 = sha256
hash_of algorithms.Sha384 = sha384
hash_of algorithms.Sha512 = sha512

-- the hasher has this algorithm and has hashed these bytes
abbrev pub HasherHolds : Hasher → Algorithm → List ℕ → Type 0
HasherHolds (hashers.Sha256 s) algorithms.Sha256 m = Holds256 s m
HasherHolds (hashers.Sha384 s) algorithms.Sha384 m = Holds384 s m
HasherHolds (hashers.Sha512 s) algorithms.Sha512 m = Holds512 s m
HasherHolds h a m = ⊥
