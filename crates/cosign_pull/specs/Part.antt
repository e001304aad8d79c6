-- How the layer that a digest names is found by texts, so that a layer is hashed once by each algorithm that is used,
-- and not by the algorithm of its own digest.
use Rattle.std.specs.Prelude.{◌≡◌, ◌⊎◌, ℕ, Bool, List, ◌++◌, All, bytes_eq, map}
use Rattle.std.specs.List.{Contains, list_any}
use Rattle.oci_names.specs.declared.algorithm.Algorithm.{Algorithm}
use Rattle.oci_digests.specs.Names.{digest_text, names, prefix_of}
use Rattle.oci_manifests.specs.declared.descriptor.OciDescriptor.{OciDescriptor}
use Rattle.oci_manifests.specs.declared.blob.ImageLayer.{ImageLayer}

-- the digest begins with this text
abbrev pub Begins : List ℕ → List ℕ → Type 0
Begins front digest = (rest : List ℕ) × (digest ≡ front ++ rest)

-- the digest does not begin with this text
abbrev pub BeginsOtherwise : List ℕ → List ℕ → Type 0
BeginsOtherwise front digest = (rest : List ℕ) → digest ≡ front ++ rest → ⊥

-- each algorithm with which the digest begins is used
abbrev pub Serves : List Algorithm → List ℕ → Type 0
Serves used digest = (a : Algorithm) → Contains used a ⊎ BeginsOtherwise (prefix_of a) digest

-- the algorithm is used, or the digest of no descriptor begins with it
abbrev pub ServesAll : List Algorithm → Algorithm → List OciDescriptor → Type 0
ServesAll used a descriptors = Contains used a ⊎ All (λ x. BeginsOtherwise (prefix_of a) x.digest) descriptors

-- the digest texts of a pulled layer by each algorithm that is used
abbrev pub layer_digests : List Algorithm → ImageLayer → List (List ℕ)
layer_digests used layer = map (λ a. digest_text a layer.content) used

-- whether the digest is one of these texts
abbrev pub is_among : List ℕ → List (List ℕ) → Bool
is_among digest texts = list_any (bytes_eq digest) texts

-- the texts of the layers determine which of them the digest names
abbrev pub Tell : List (List (List ℕ)) → List ImageLayer → List ℕ → Type 0
Tell texts layers digest = map (is_among digest) texts ≡ map (λ layer. names digest layer.content) layers
