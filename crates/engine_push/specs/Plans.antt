-- What is computed of documents before the first request.
use Rattle.std.specs.Prelude.{◌≡◌}
use Rattle.oci_docs.specs.Written.{manifest_text_of}
use Rattle.oci_manifests.specs.Document.{content_type_of}
use Rattle.oci_manifests.specs.declared.blob.ImageLayer.{ImageLayer}
use Rattle.oci_manifests.specs.declared.document.OciManifest.{OciManifest}
use Rattle.oci_manifests.specs.declared.document.OciManifest.TheVariants.{Image}
use Rattle.oci_manifests.specs.declared.manifest.OciImageManifest.{OciImageManifest}
use Rattle.std.specs.Prelude.{List}
use Rattle.push_rows.specs.Images.{digests_for}
use Rattle.engine_push.specs.declared.images.Plan.{Plan}
use Rattle.engine_push.specs.declared.written.Written.{Written}

-- the text of this document, and its content type
pub record IsWritten (document : OciManifest) (written : Written) : Type 0 where
  pub body : written.body ≡ manifest_text_of document
  pub media_type : written.media_type ≡ content_type_of document

-- of an image with this manifest: the digests under which its blobs are pushed, and the manifest's text
pub record IsPlan (manifest : OciImageManifest) (layers : List ImageLayer) (plan : Plan) : Type 0 where
  pub digests : plan.digests ≡ digests_for manifest.layers layers
  pub config_digest : plan.config_digest ≡ manifest.config.digest
  pub document : IsWritten (Image manifest) plan.document
