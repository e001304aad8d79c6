-- The algorithms of digests (OCI image specification, descriptor.md, "Registered algorithms"), and SHA-384.
use Rattle.std.specs.Prelude.{ℕ, List, [], ◌∷◌, Option, codes, bytes_eq}
use Rattle.std.specs.List.{find}
use Rattle.oci_names.specs.declared.algorithm.Algorithm.{Algorithm}
use Rattle.oci_names.specs.declared.algorithm.Algorithm.TheVariants.{Sha256, Sha384, Sha512}

-- each algorithm, once
abbrev pub all : List Algorithm
all = Sha256 ∷ Sha384 ∷ Sha512 ∷ []

-- its name in a digest
abbrev pub name_of : Algorithm → List ℕ
name_of Sha256 = codes "sha256"
name_of Sha384 = codes "sha384"
name_of Sha512 = codes "sha512"

-- the number of hexadecimal digits in a digest
abbrev pub digits_in : Algorithm → ℕ
digits_in Sha256 = 64
digits_in Sha384 = 96
digits_in Sha512 = 128

-- the algorithm with this name
abbrev pub algorithm_of : List ℕ → Option Algorithm
algorithm_of name = find (λ a. bytes_eq name (name_of a)) all
