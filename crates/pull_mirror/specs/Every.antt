-- What holds for each push of a list.
use Rattle.std.specs.Prelude.{◌≡◌, ℕ, List, [], ◌∷◌, Option, None}
use Rattle.oci_names.specs.declared.reference.Reference.{Reference}
use Rattle.pull_mirror.specs.Pushes.{Push, Blob, Manifest}

-- P holds for each
abbrev pub Every : (Push → Type 0) → List Push → Type 0
Every P [] = Unit {0}
Every P (p ∷ ps) = P p × Every P ps

-- a reference of this registry's repository, without a mirror
abbrev pub plain : (registry repository : List ℕ) (tag digest : Option (List ℕ)) → Reference
plain registry repository tag digest = record {
  registry = registry;
  mirror = None;
  repository = repository;
  tag = tag;
  digest = digest;
}

-- a document is pushed under a reference in the target's repository
abbrev pub IsIn : Reference → Push → Type 0
IsIn target (Blob digest bytes) = Unit {0}
IsIn target (Manifest reference digest bytes content_type) =
    (tag digest_text : Option (List ℕ)) × (reference ≡ plain target.registry target.repository tag digest_text)
