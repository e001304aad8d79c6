-- Media types of manifests.
use Rattle.std.specs.Prelude.{ℕ, List, Bool, ◌||◌, codes}
use Rattle.std.specs.Str.{bytes_eq}

-- the media types of image manifests and of image indexes, Docker's and OCI's
abbrev pub is_manifest_type : List ℕ → Bool
is_manifest_type text =
    bytes_eq text (codes "application/vnd.docker.distribution.manifest.v2+json")
    || bytes_eq text (codes "application/vnd.docker.distribution.manifest.list.v2+json")
    || bytes_eq text (codes "application/vnd.oci.image.manifest.v1+json")
    || bytes_eq text (codes "application/vnd.oci.image.index.v1+json")
