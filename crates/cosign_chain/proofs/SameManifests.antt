-- The tests of sameness decide that manifests are equal.
use Rattle.std.proofs.Common.{◌≡◌, ℕ, Bool, List, bytes_eq, Option, Some, None, refl, ap}
use Rattle.std.specs.Prelude.{◌==◌}
use Rattle.std.specs.Bool.{Decides}
use Rattle.std.specs.Cmp.Lexicographic.{pointwise}
use Rattle.std.proofs.lemmas.Slice.Eq.{bytes_eq-Decides, slice_eq-Decides}
use Rattle.std.proofs.lemmas.Bool.Decides.{Decides-eqb, Decides-int_eq}
use Rattle.oci_manifests.specs.declared.descriptor.OciDescriptor.{OciDescriptor}
use Rattle.oci_manifests.specs.declared.manifest.OciImageManifest.{OciImageManifest}
use Rattle.cosign_chain.specs.SameManifest.{same_option, same_descriptor, same_manifest}
use Rattle.cosign_chain.proofs.LinkTests.{annotations, both, more, some_same}

pub options : {X : Type 0} (same : X → X → Bool) → ((x y : X) → Decides (same x y) (x ≡ y)) → (a b : Option X)
    → Decides (same_option same a b) (a ≡ b)
options same each None None = (λ h. refl, λ h. refl)
options same each None (Some b) = (λ h. absurd (cc h), λ h. absurd (cc h))
options same each (Some a) None = (λ h. absurd (cc h), λ h. absurd (cc h))
options same each (Some a) (Some b) = more (λ is. ap Some is) (λ is. some_same a b is) (each a b)

pub lists : {X : Type 0} (same : X → X → Bool) → ((x y : X) → Decides (same x y) (x ≡ y)) → (a b : List X)
    → Decides (pointwise same a b) (a ≡ b)
lists same each a b = slice_eq-Decides each a b _ refl

pub texts : (a b : Option (List ℕ)) → Decides (same_option bytes_eq a b) (a ≡ b)
texts a b = options bytes_eq bytes_eq-Decides a b

descriptor : (a b : OciDescriptor) → Decides (same_descriptor a b) (a ≡ b)
descriptor a b = more
    (λ h. rw (h.0.0.0.0.0, h.0.0.0.0.1, h.0.0.0.1, h.0.0.1, h.0.1, h.1) refl)
    (λ is. (
      (
        (((ap (λ x. x.media_type) is, ap (λ x. x.digest) is), ap (λ x. x.size) is), ap (λ x. x.urls) is),
        ap (λ x. x.annotations) is,
      ),
      ap (λ x. x.artifact_type) is,
    ))
    (both _ _ (both _ _ (both _ _ (both _ _ (both (bytes_eq a.media_type b.media_type) (bytes_eq a.digest b.digest)
    (bytes_eq-Decides a.media_type b.media_type) (bytes_eq-Decides a.digest b.digest))
    (Decides-int_eq a.size b.size))
    (options (pointwise bytes_eq) (lists bytes_eq bytes_eq-Decides) a.urls b.urls))
    (annotations a.annotations b.annotations)) (texts a.artifact_type b.artifact_type))

pub manifests : (a b : OciImageManifest) → Decides (same_manifest a b) (a ≡ b)
manifests a b = more
    (λ h. rw (h.0.0.0.0.0.0, h.0.0.0.0.0.1, h.0.0.0.0.1, h.0.0.0.1, h.0.0.1, h.0.1, h.1) refl)
    (λ is. (
      (
        (
          (
            ((ap (λ x. x.schema_version) is, ap (λ x. x.media_type) is), ap (λ x. x.config) is),
            ap (λ x. x.layers) is,
          ),
          ap (λ x. x.subject) is,
        ),
        ap (λ x. x.artifact_type) is,
      ),
      ap (λ x. x.annotations) is,
    ))
    (both _ _ (both _ _ (both _ _ (both _ _ (both _ _ (both (a.schema_version == b.schema_version)
    (same_option bytes_eq a.media_type b.media_type) (Decides-eqb a.schema_version b.schema_version)
    (texts a.media_type b.media_type)) (descriptor a.config b.config)) (lists same_descriptor descriptor a.layers b.layers))
    (options same_descriptor descriptor a.subject b.subject)) (texts a.artifact_type b.artifact_type))
    (annotations a.annotations b.annotations))
