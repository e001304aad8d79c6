-- Media types of layers (OCI image specification, media-types.md, and Docker's image manifest V2, schema 2): the
-- text of each public constant.
use Rattle.std.specs.Prelude.{◌≡◌, codes, refl}
use Rattle.oci_manifests.specs.declared.layer_types.TheConstants as constant

pub wasm_layer : constant.WASM_LAYER_MEDIA_TYPE.now ≡ codes "application/vnd.wasm.content.layer.v1+wasm"
wasm_layer = refl

pub oci_layer : constant.IMAGE_LAYER_MEDIA_TYPE.now ≡ codes "application/vnd.oci.image.layer.v1.tar"
oci_layer = refl

pub oci_layer_gzip : constant.IMAGE_LAYER_GZIP_MEDIA_TYPE.now ≡ codes "application/vnd.oci.image.layer.v1.tar+gzip"
oci_layer_gzip = refl

pub docker_layer :
    constant.IMAGE_DOCKER_LAYER_TAR_MEDIA_TYPE.now ≡ codes "application/vnd.docker.image.rootfs.diff.tar"
docker_layer = refl

pub docker_layer_gzip :
    constant.IMAGE_DOCKER_LAYER_GZIP_MEDIA_TYPE.now ≡ codes "application/vnd.docker.image.rootfs.diff.tar.gzip"
docker_layer_gzip = refl

pub nondistributable_layer : constant.IMAGE_LAYER_NONDISTRIBUTABLE_MEDIA_TYPE.now
    ≡ codes "application/vnd.oci.image.layer.nondistributable.v1.tar"
nondistributable_layer = refl

pub nondistributable_layer_gzip : constant.IMAGE_LAYER_NONDISTRIBUTABLE_GZIP_MEDIA_TYPE.now
    ≡ codes "application/vnd.oci.image.layer.nondistributable.v1.tar+gzip"
nondistributable_layer_gzip = refl
