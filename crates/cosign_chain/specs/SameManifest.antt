-- Whether two manifests are the same, compared field by field.
use Rattle.std.specs.Prelude.{Bool, true, false, ◌&&◌, ◌==◌, bytes_eq, Option, Some, None}
use Rattle.std.specs.Cmp.Lexicographic.{pointwise}
use Rattle.std.specs.Ordering.{int_eq}
use Rattle.oci_manifests.specs.declared.descriptor.OciDescriptor.{OciDescriptor}
use Rattle.oci_manifests.specs.declared.manifest.OciImageManifest.{OciImageManifest}
use Rattle.cosign_chain.specs.Links.{same_annotations}

-- both are `None`, or both are `Some` and pass
abbrev pub same_option : {X : Type 0} → (X → X → Bool) → Option X → Option X → Bool
same_option same None None = true
same_option same None (Some y) = false
same_option same (Some x) None = false
same_option same (Some x) (Some y) = same x y

abbrev pub same_descriptor : OciDescriptor → OciDescriptor → Bool
same_descriptor a b =
    bytes_eq a.media_type b.media_type && bytes_eq a.digest b.digest && int_eq a.size b.size
    && same_option (pointwise bytes_eq) a.urls b.urls && same_annotations a.annotations b.annotations
    && same_option bytes_eq a.artifact_type b.artifact_type

abbrev pub same_manifest : OciImageManifest → OciImageManifest → Bool
same_manifest a b =
    a.schema_version == b.schema_version && same_option bytes_eq a.media_type b.media_type
    && same_descriptor a.config b.config && pointwise same_descriptor a.layers b.layers
    && same_option same_descriptor a.subject b.subject && same_option bytes_eq a.artifact_type b.artifact_type
    && same_annotations a.annotations b.annotations
