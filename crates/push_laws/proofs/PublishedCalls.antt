-- Why each call that pushes manifests or images was refused, where its credentials went, and that a fault of the transport
-- is returned only if its count increased.
use Rattle.std.proofs.Common.{ℕ, List, Option, Some, None, Result, IfErr}
use Rattle.oci_auth.specs.declared.auth.RegistryAuth.{RegistryAuth}
use Rattle.oci_auth.specs.declared.auth_state.AuthState.{AuthState}
use Rattle.oci_manifests.specs.Document.{content_type_of}
use Rattle.oci_manifests.specs.declared.blob.Config.{Config}
use Rattle.oci_manifests.specs.declared.blob.ImageLayer.{ImageLayer}
use Rattle.oci_manifests.specs.declared.document.OciManifest.TheVariants.{Image, ImageIndex}
use Rattle.oci_manifests.specs.declared.index.OciImageIndex.{OciImageIndex}
use Rattle.oci_manifests.specs.declared.manifest.OciImageManifest.{OciImageManifest}
use Rattle.oci_names.specs.declared.reference.Reference.{Reference}
use Rattle.oci_protocol.specs.Runs.{Meets, Told}
use Rattle.oci_transport.specs.Link.{Link}
use Rattle.engine_terms.specs.Contexts.{Context}
use Rattle.engine_terms.specs.Error.{is_memory}
use Rattle.engine_terms.specs.declared.error.OciDistributionError.{OciDistributionError}
use Rattle.engine_rows.specs.Causes.{BadHeader}
use Rattle.engine_rows.specs.Confined.{Within}
use Rattle.push_rows.specs.Causes.{of_upload, OfNothing}
use Rattle.push_laws.proofs.CallCauses.{Counted, pushed_reason, pushed_fault}
use Rattle.push_laws.proofs.Confinement.{pushing, confines}
use Rattle.push_rows.specs.Images.{push_manifest_raw, push_manifest_list, manifest_for, push}
use Rattle.push_rows.specs.ImageCauses.{of_manifest, ManifestText, ManifestPushCause, ImageText, OfBlobs, blobs_of, ImagePushCause}
use Rattle.push_rows.specs.declared.responses.PushResponse.{PushResponse}
use Rattle.push_laws.proofs.PublishedBounds.{raw_bound, list_bound, push_bound}
use Rattle.push_laws.proofs.PublishedCauses.{raw_shown, list_shown, push_shown}

module _ (s : Context) (image : Reference) {old new : Link} {k l : AuthState} where
  -- ---- bytes, or the text of a document

  pub raw_reason : (body kind : List ℕ) (r : Result (List ℕ) OciDistributionError) → Meets is_memory (push_manifest_raw s image body kind) old new k l r → IfErr r (λ e. Told (λ c. ManifestPushCause kind (pushing k s image None) s.settings c new.faults e) old new)
  raw_reason body kind r met = pushed_reason of_manifest (ManifestText s.settings image) OfNothing s image None kind (push_manifest_raw s image body kind) (BadHeader (pushing k s image None) s.settings kind) (raw_shown s image body kind) (raw_bound k s image None kind body) (λ c bad. bad) r met

  pub raw_fault : (body kind : List ℕ) (r : Result (List ℕ) OciDistributionError) → Meets is_memory (push_manifest_raw s image body kind) old new k l r → Counted old new r
  raw_fault body kind r met = pushed_fault of_manifest (ManifestText s.settings image) OfNothing s image None kind (push_manifest_raw s image body kind) (raw_shown s image body kind) r met

  pub raw_confined : (body kind : List ℕ) {r : Result (List ℕ) OciDistributionError} → Meets is_memory (push_manifest_raw s image body kind) old new k l r → Told (Within (pushing k s image None) s.settings l) old new
  raw_confined body kind met = confines s image None kind (push_manifest_raw s image body kind) (raw_bound k s image None kind body) met

  -- ---- an index

  pub list_reason : (a : RegistryAuth) (index : OciImageIndex) (r : Result (List ℕ) OciDistributionError) → Meets is_memory (push_manifest_list s image a index) old new k l r → IfErr r (λ e. Told (λ c. ManifestPushCause (content_type_of (ImageIndex index)) (pushing k s image (Some a)) s.settings c new.faults e) old new)
  list_reason a index r met =
      let kind = content_type_of (ImageIndex index) in
      pushed_reason of_manifest (ManifestText s.settings image) OfNothing s image (Some a) kind (push_manifest_list s image a index) (BadHeader (pushing k s image (Some a)) s.settings kind) (list_shown s image a index) (list_bound k s image a index) (λ c bad. bad) r met

  pub list_fault : (a : RegistryAuth) (index : OciImageIndex) (r : Result (List ℕ) OciDistributionError) → Meets is_memory (push_manifest_list s image a index) old new k l r → Counted old new r
  list_fault a index r met = pushed_fault of_manifest (ManifestText s.settings image) OfNothing s image (Some a) (content_type_of (ImageIndex index)) (push_manifest_list s image a index) (list_shown s image a index) r met

  pub list_confined : (a : RegistryAuth) (index : OciImageIndex) {r : Result (List ℕ) OciDistributionError} → Meets is_memory (push_manifest_list s image a index) old new k l r → Told (Within (pushing k s image (Some a)) s.settings l) old new
  list_confined a index met = confines s image (Some a) (content_type_of (ImageIndex index)) (push_manifest_list s image a index) (list_bound k s image a index) met

  -- ---- an image

  pub image_reason : (layers : List ImageLayer) (config : Config) (a : RegistryAuth) (given : Option OciImageManifest) (r : Result PushResponse OciDistributionError) → Meets is_memory (push s image layers config a given) old new k l r
      → IfErr r (λ e. Told (λ c. ImagePushCause (blobs_of layers config) (content_type_of (Image (manifest_for given layers config))) (pushing k s image (Some a)) s.settings c new.faults e) old new)
  image_reason layers config a given r met =
      let kind = content_type_of (Image (manifest_for given layers config)) in
      pushed_reason of_upload (ImageText s.settings image) (OfBlobs (blobs_of layers config)) s image (Some a) kind (push s image layers config a given) (BadHeader (pushing k s image (Some a)) s.settings kind) (push_shown s image layers config a given) (push_bound k s image a layers config given) (λ c bad. bad) r met

  pub image_fault : (layers : List ImageLayer) (config : Config) (a : RegistryAuth) (given : Option OciImageManifest) (r : Result PushResponse OciDistributionError) → Meets is_memory (push s image layers config a given) old new k l r → Counted old new r
  image_fault layers config a given r met = pushed_fault of_upload (ImageText s.settings image) (OfBlobs (blobs_of layers config)) s image (Some a) (content_type_of (Image (manifest_for given layers config))) (push s image layers config a given) (push_shown s image layers config a given) r met

  pub image_confined : (layers : List ImageLayer) (config : Config) (a : RegistryAuth) (given : Option OciImageManifest) {r : Result PushResponse OciDistributionError} → Meets is_memory (push s image layers config a given) old new k l r → Told (Within (pushing k s image (Some a)) s.settings l) old new
  image_confined layers config a given met = confines s image (Some a) (content_type_of (Image (manifest_for given layers config))) (push s image layers config a given) (push_bound k s image a layers config given) met
