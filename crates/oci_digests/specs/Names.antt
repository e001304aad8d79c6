-- Texts that name bytes by a hash (OCI image specification, descriptor.md, "Digests").
use Rattle.std.specs.Prelude.{◌≡◌, ℕ, Bool, List, ◌++◌, codes, bytes_eq}
use Rattle.std.specs.List.{list_any}
use Rattle.hex.specs.Hex.{encode_lower}
use Rattle.oci_names.specs.Algorithms.{all, name_of}
use Rattle.oci_names.specs.declared.algorithm.Algorithm.{Algorithm}
use Rattle.oci_digests.specs.Hashes.{hash_of}

-- the name of the algorithm and a colon
abbrev pub prefix_of : Algorithm → List ℕ
prefix_of a = name_of a ++ codes ":"

-- the text of a hash: the algorithm, a colon and lower-case hexadecimal digits
abbrev pub digest_text : Algorithm → List ℕ → List ℕ
digest_text a bytes = prefix_of a ++ encode_lower (hash_of a bytes)

-- the text names the bytes
abbrev pub Names : List ℕ → List ℕ → Type 0
Names text bytes = (a : Algorithm) × (text ≡ digest_text a bytes)

-- whether the text is that of the hash of the bytes by this algorithm
abbrev pub names_by : Algorithm → List ℕ → List ℕ → Bool
names_by a text bytes = bytes_eq text (digest_text a bytes)

-- whether the text names the bytes
abbrev pub names : List ℕ → List ℕ → Bool
names text bytes = list_any (λ a. names_by a text bytes) all
