-- The names of annotations (OCI image specification, annotations.md): the text of each public constant.
use Rattle.std.specs.Prelude.{◌≡◌, codes, refl}
use Rattle.oci_manifests.specs.declared.annotations.TheConstants as constant

pub created : constant.ORG_OPENCONTAINERS_IMAGE_CREATED.now ≡ codes "org.opencontainers.image.created"
created = refl

pub authors : constant.ORG_OPENCONTAINERS_IMAGE_AUTHORS.now ≡ codes "org.opencontainers.image.authors"
authors = refl

pub url : constant.ORG_OPENCONTAINERS_IMAGE_URL.now ≡ codes "org.opencontainers.image.url"
url = refl

pub documentation : constant.ORG_OPENCONTAINERS_IMAGE_DOCUMENTATION.now ≡ codes "org.opencontainers.image.documentation"
documentation = refl

pub source : constant.ORG_OPENCONTAINERS_IMAGE_SOURCE.now ≡ codes "org.opencontainers.image.source"
source = refl

pub version : constant.ORG_OPENCONTAINERS_IMAGE_VERSION.now ≡ codes "org.opencontainers.image.version"
version = refl

pub revision : constant.ORG_OPENCONTAINERS_IMAGE_REVISION.now ≡ codes "org.opencontainers.image.revision"
revision = refl

pub vendor : constant.ORG_OPENCONTAINERS_IMAGE_VENDOR.now ≡ codes "org.opencontainers.image.vendor"
vendor = refl

pub licenses : constant.ORG_OPENCONTAINERS_IMAGE_LICENSES.now ≡ codes "org.opencontainers.image.licenses"
licenses = refl

pub ref_name : constant.ORG_OPENCONTAINERS_IMAGE_REF_NAME.now ≡ codes "org.opencontainers.image.ref.name"
ref_name = refl

pub title : constant.ORG_OPENCONTAINERS_IMAGE_TITLE.now ≡ codes "org.opencontainers.image.title"
title = refl

pub description : constant.ORG_OPENCONTAINERS_IMAGE_DESCRIPTION.now ≡ codes "org.opencontainers.image.description"
description = refl

pub base_digest : constant.ORG_OPENCONTAINERS_IMAGE_BASE_DIGEST.now ≡ codes "org.opencontainers.image.base.digest"
base_digest = refl

pub base_name : constant.ORG_OPENCONTAINERS_IMAGE_BASE_NAME.now ≡ codes "org.opencontainers.image.base.name"
base_name = refl
