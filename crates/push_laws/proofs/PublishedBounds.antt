-- A push of a manifest or of an image sends credentials and tokens only to the image's registry and to the realm that it
-- names.
use Rattle.std.proofs.Common.{ℕ, List, [], ◌∷◌, Option, Some, None, Result, Ok, Err, refl}
use Rattle.url.specs.Parts.{serialize}
use Rattle.oci_auth.specs.declared.auth.RegistryAuth.{RegistryAuth}
use Rattle.oci_auth.specs.declared.auth_state.AuthState.{AuthState}
use Rattle.oci_manifests.specs.Document.{content_type_of}
use Rattle.oci_manifests.specs.declared.blob.Config.{Config}
use Rattle.oci_manifests.specs.declared.blob.ImageLayer.{ImageLayer}
use Rattle.oci_manifests.specs.declared.document.OciManifest.TheVariants.{Image, ImageIndex}
use Rattle.oci_manifests.specs.declared.index.OciImageIndex.{OciImageIndex}
use Rattle.oci_manifests.specs.declared.manifest.OciImageManifest.{OciImageManifest}
use Rattle.oci_names.specs.declared.reference.Reference.{Reference}
use Rattle.oci_transport.specs.declared.message.Exchange.{Exchange}
use Rattle.oci_transport.specs.declared.message.Method.TheVariants.{Put}
use Rattle.oci_protocol.specs.Proto.{Done, bind}
use Rattle.oci_protocol.specs.Safe.{Safe}
use Rattle.engine_terms.specs.Contexts.{Context}
use Rattle.engine_terms.specs.declared.error.OciDistributionError.{OciDistributionError}
use Rattle.engine_requests.specs.Addresses.{manifest_text, url_read}
use Rattle.engine_rows.specs.Rows.{Row, store}
use Rattle.request_laws.proofs.KeptTokens.{Keeps, keeps_stored}
use Rattle.request_laws.proofs.ShownTokens.{Carries, safe_done}
use Rattle.push_rows.specs.Calls.{push_blob}
use Rattle.push_rows.specs.Uploads.{sent}
use Rattle.push_rows.specs.declared.content.Content.TheVariants.{Document}
use Rattle.push_laws.proofs.Confinement.{pushing, Kept, Bounded, bound_done, bound_next, bound_caught, url_plain, sent_bound, blob_bound}
use Rattle.push_rows.specs.Images.{named_url, named_for, unless_named, or_named, push_manifest_raw, push_manifest, push_manifest_list, manifest_for, digests_for, layers_pushed, image_pushed, push}

module _ (k : AuthState) (s : Context) (image : Reference) (handed : Option RegistryAuth) (kind : List ℕ) where
  abbrev Bounds : {A : Type 0} → Row A → Type 0
  Bounds p = Bounded k s image handed kind p

  or_bound : (named : Option (List ℕ)) (l : AuthState) (c : List Exchange) (r : Result (List ℕ) OciDistributionError) → Kept (pushing k s image handed) s.settings kind l c r
      → Safe (Carries (pushing k s image handed) s.settings) (Keeps (pushing k s image handed)) (Kept (pushing k s image handed) s.settings kind) l c (or_named named r)
  or_bound named l c (Ok location) h = safe_done (pushing k s image handed) s.settings (Kept (pushing k s image handed) s.settings kind) l c (Ok location) h
  or_bound named l c (Err e) h = safe_done (pushing k s image handed) s.settings (Kept (pushing k s image handed) s.settings kind {A = List ℕ}) l c (unless_named e (named_for e named)) (by_named (named_for e named)) where
    by_named : (found : Option (List ℕ)) → Kept (pushing k s image handed) s.settings kind l c (unless_named e found)
    by_named (Some url) = h.0
    by_named None = h

  pub raw_bound : (body : List ℕ) → Bounds (push_manifest_raw s image body kind)
  unfolding push_manifest_raw
  raw_bound body = bound_next (Done (url_read (manifest_text s.settings image))) _ (bound_done _ (url_plain (manifest_text s.settings image))) (λ url.
      bound_caught (sent s image Put url (Document kind body) 201) (or_named (named_url (serialize url) image body)) (sent_bound k s image handed kind Put url (Document kind body) 201 refl) (or_bound (named_url (serialize url) image body)))

  -- ---- images

  layers_bound : (digests : List (List ℕ)) (layers : List ImageLayer) → Bounds (layers_pushed s image digests layers)
  unfolding layers_pushed
  layers_bound [] layers = bound_done (Ok tt) tt
  layers_bound (digest ∷ digests) [] = bound_done (Ok tt) tt
  layers_bound (digest ∷ digests) (layer ∷ layers) = bound_next (push_blob s image layer.content digest) _ (blob_bound k s image handed kind layer.content digest) (λ url. layers_bound digests layers)

module _ (k : AuthState) (s : Context) (image : Reference) (a : RegistryAuth) where
  abbrev X : (kind : List ℕ) → {A : Type 0} → Row A → Type 0
  X kind p = Bounded k s image (Some a) kind p

  store_bound : (kind : List ℕ) → X kind (store image a)
  unfolding store Safe bind
  store_bound kind = record { safe = λ l c keeps. let kept = keeps_stored (pushing k s image (Some a)) l c a refl keeps in (kept, kept) }

  pub list_bound : (index : OciImageIndex) → X (content_type_of (ImageIndex index)) (push_manifest_list s image a index)
  unfolding push_manifest_list
  list_bound index = bound_next (store image a) _ (store_bound (content_type_of (ImageIndex index))) (λ u. raw_bound k s image (Some a) (content_type_of (ImageIndex index)) _)

  pub image_bound : (layers : List ImageLayer) (config : Config) (manifest : OciImageManifest) → X (content_type_of (Image manifest)) (image_pushed s image layers config manifest)
  unfolding image_pushed
  image_bound layers config manifest =
      let kind = content_type_of (Image manifest) in
      bound_next (layers_pushed s image (digests_for manifest.layers layers) layers) _ (layers_bound k s image (Some a) kind (digests_for manifest.layers layers) layers) (λ u.
      bound_next (push_blob s image config.content manifest.config.digest) _ (blob_bound k s image (Some a) kind config.content manifest.config.digest) (λ config_url.
      bound_next (push_manifest s image (Image manifest)) _ (raw_bound k s image (Some a) kind _) (λ manifest_url. bound_done _ tt)))

  pub push_bound : (layers : List ImageLayer) (config : Config) (given : Option OciImageManifest) → X (content_type_of (Image (manifest_for given layers config))) (push s image layers config a given)
  unfolding push
  push_bound layers config given = bound_next (store image a) _ (store_bound (content_type_of (Image (manifest_for given layers config)))) (λ u. image_bound layers config (manifest_for given layers config))
