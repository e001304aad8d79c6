-- Names of header fields (OCI distribution specification, "Pulling manifests"): the text of each public constant.
use Rattle.std.specs.Prelude.{◌≡◌, codes, refl}
use Rattle.oci_manifests.specs.declared.headers.TheConstants as constant

pub digest_header : constant.DOCKER_DIGEST_HEADER.now ≡ codes "Docker-Content-Digest"
digest_header = refl
