-- Names of platforms (OCI image index, `platform`), of header fields and of annotations (OCI image specification,
-- annotations.md).
use Rattle.std.specs.Prelude.{◌≡◌, codes}
use Rattle.oci_names.specs.declared.platform.TheConstants.Arch as architecture
use Rattle.oci_names.specs.declared.platform.TheConstants.Os as system
use Rattle.oci_transport.specs.declared.headers.TheConstants as sent
use Rattle.oci_manifests.specs.declared.headers.TheConstants as header
use Rattle.oci_manifests.specs.declared.annotations.TheConstants as annotation

-- of architectures and operating systems
pub record PlatformNamesAre : Type 0 where
  pub amd64 : architecture.AMD64.now ≡ codes "amd64"
  pub arm64 : architecture.ARM64.now ≡ codes "arm64"
  pub linux : system.LINUX.now ≡ codes "linux"
  pub windows : system.WINDOWS.now ≡ codes "windows"

-- of the field with the digest of a body, as OCI writes it and in lower case
pub record HeaderNamesAre : Type 0 where
  pub digest : header.DOCKER_DIGEST_HEADER.now ≡ codes "Docker-Content-Digest"
  pub digest_in_lower_case : sent.DIGEST_HEADER.now ≡ codes "docker-content-digest"

-- of annotations
pub record AnnotationNamesAre : Type 0 where
  pub created : annotation.ORG_OPENCONTAINERS_IMAGE_CREATED.now ≡ codes "org.opencontainers.image.created"
  pub authors : annotation.ORG_OPENCONTAINERS_IMAGE_AUTHORS.now ≡ codes "org.opencontainers.image.authors"
  pub url : annotation.ORG_OPENCONTAINERS_IMAGE_URL.now ≡ codes "org.opencontainers.image.url"
  pub documentation : annotation.ORG_OPENCONTAINERS_IMAGE_DOCUMENTATION.now
      ≡ codes "org.opencontainers.image.documentation"
  pub source : annotation.ORG_OPENCONTAINERS_IMAGE_SOURCE.now ≡ codes "org.opencontainers.image.source"
  pub version : annotation.ORG_OPENCONTAINERS_IMAGE_VERSION.now ≡ codes "org.opencontainers.image.version"
  pub revision : annotation.ORG_OPENCONTAINERS_IMAGE_REVISION.now ≡ codes "org.opencontainers.image.revision"
  pub vendor : annotation.ORG_OPENCONTAINERS_IMAGE_VENDOR.now ≡ codes "org.opencontainers.image.vendor"
  pub licenses : annotation.ORG_OPENCONTAINERS_IMAGE_LICENSES.now ≡ codes "org.opencontainers.image.licenses"
  pub ref_name : annotation.ORG_OPENCONTAINERS_IMAGE_REF_NAME.now ≡ codes "org.opencontainers.image.ref.name"
  pub title : annotation.ORG_OPENCONTAINERS_IMAGE_TITLE.now ≡ codes "org.opencontainers.image.title"
  pub description : annotation.ORG_OPENCONTAINERS_IMAGE_DESCRIPTION.now ≡ codes "org.opencontainers.image.description"
  pub base_digest : annotation.ORG_OPENCONTAINERS_IMAGE_BASE_DIGEST.now ≡ codes "org.opencontainers.image.base.digest"
  pub base_name : annotation.ORG_OPENCONTAINERS_IMAGE_BASE_NAME.now ≡ codes "org.opencontainers.image.base.name"
