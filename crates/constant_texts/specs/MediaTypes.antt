-- Media types (OCI image specification, media-types.md; Docker image manifest V2, schema 2; cosign; sigstore bundle).
use Rattle.std.specs.Prelude.{◌≡◌, codes}
use Rattle.oci_manifests.specs.declared.layer_types.TheConstants as layer
use Rattle.oci_manifests.specs.declared.media_types.TheConstants as media
use Rattle.engine_requests.specs.Requests.{manifest_types}
use Rattle.engine_requests.specs.declared.requests.TheConstants as request
use Rattle.cosign_parts.specs.declared.bundle.TheConstants as bundles
use Rattle.cosign_parts.specs.declared.payload.TheConstants as payloads

-- of manifests, indexes and configurations
pub record MediaTypesAre : Type 0 where
  pub wasm_config : media.WASM_CONFIG_MEDIA_TYPE.now ≡ codes "application/vnd.wasm.config.v1+json"
  pub docker_manifest : media.IMAGE_MANIFEST_MEDIA_TYPE.now
      ≡ codes "application/vnd.docker.distribution.manifest.v2+json"
  pub docker_manifest_list : media.IMAGE_MANIFEST_LIST_MEDIA_TYPE.now
      ≡ codes "application/vnd.docker.distribution.manifest.list.v2+json"
  pub oci_manifest : media.OCI_IMAGE_MEDIA_TYPE.now ≡ codes "application/vnd.oci.image.manifest.v1+json"
  pub oci_index : media.OCI_IMAGE_INDEX_MEDIA_TYPE.now ≡ codes "application/vnd.oci.image.index.v1+json"
  pub oci_config : media.IMAGE_CONFIG_MEDIA_TYPE.now ≡ codes "application/vnd.oci.image.config.v1+json"
  pub docker_config : media.IMAGE_DOCKER_CONFIG_MEDIA_TYPE.now ≡ codes "application/vnd.docker.container.image.v1+json"

-- of layers, payloads and bundles
pub record LayerTypesAre : Type 0 where
  pub wasm_layer : layer.WASM_LAYER_MEDIA_TYPE.now ≡ codes "application/vnd.wasm.content.layer.v1+wasm"
  pub oci_layer : layer.IMAGE_LAYER_MEDIA_TYPE.now ≡ codes "application/vnd.oci.image.layer.v1.tar"
  pub oci_layer_gzip : layer.IMAGE_LAYER_GZIP_MEDIA_TYPE.now ≡ codes "application/vnd.oci.image.layer.v1.tar+gzip"
  pub docker_layer : layer.IMAGE_DOCKER_LAYER_TAR_MEDIA_TYPE.now ≡ codes "application/vnd.docker.image.rootfs.diff.tar"
  pub docker_layer_gzip : layer.IMAGE_DOCKER_LAYER_GZIP_MEDIA_TYPE.now
      ≡ codes "application/vnd.docker.image.rootfs.diff.tar.gzip"
  pub nondistributable_layer : layer.IMAGE_LAYER_NONDISTRIBUTABLE_MEDIA_TYPE.now
      ≡ codes "application/vnd.oci.image.layer.nondistributable.v1.tar"
  pub nondistributable_layer_gzip : layer.IMAGE_LAYER_NONDISTRIBUTABLE_GZIP_MEDIA_TYPE.now
      ≡ codes "application/vnd.oci.image.layer.nondistributable.v1.tar+gzip"
  pub simple_signing : payloads.SIMPLE_SIGNING_TYPE.now ≡ codes "application/vnd.dev.cosign.simplesigning.v1+json"
  pub bundle : bundles.BUNDLE_TYPE.now ≡ codes "application/vnd.dev.sigstore.bundle.v0.3+json"

-- of a request for a manifest or an index: the constant is the list that the definitions write out
pub record AcceptedAre : Type 0 where
  pub accepted : request.MANIFEST_TYPES.now ≡ manifest_types
