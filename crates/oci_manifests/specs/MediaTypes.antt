-- Media types of manifests, indexes and configurations (OCI image specification, media-types.md, and Docker's image
-- manifest V2, schema 2): the text of each public constant.
use Rattle.std.specs.Prelude.{◌≡◌, codes, refl}
use Rattle.oci_manifests.specs.declared.media_types.TheConstants as constant

pub wasm_config : constant.WASM_CONFIG_MEDIA_TYPE.now ≡ codes "application/vnd.wasm.config.v1+json"
wasm_config = refl

pub docker_manifest :
    constant.IMAGE_MANIFEST_MEDIA_TYPE.now ≡ codes "application/vnd.docker.distribution.manifest.v2+json"
docker_manifest = refl

pub docker_manifest_list :
    constant.IMAGE_MANIFEST_LIST_MEDIA_TYPE.now ≡ codes "application/vnd.docker.distribution.manifest.list.v2+json"
docker_manifest_list = refl

pub oci_manifest : constant.OCI_IMAGE_MEDIA_TYPE.now ≡ codes "application/vnd.oci.image.manifest.v1+json"
oci_manifest = refl

pub oci_index : constant.OCI_IMAGE_INDEX_MEDIA_TYPE.now ≡ codes "application/vnd.oci.image.index.v1+json"
oci_index = refl

pub oci_config : constant.IMAGE_CONFIG_MEDIA_TYPE.now ≡ codes "application/vnd.oci.image.config.v1+json"
oci_config = refl

pub docker_config :
    constant.IMAGE_DOCKER_CONFIG_MEDIA_TYPE.now ≡ codes "application/vnd.docker.container.image.v1+json"
docker_config = refl
