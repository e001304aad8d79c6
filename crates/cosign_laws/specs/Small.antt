-- A shelf built from the bytes of an image of one layer and of a signature of it.
use Rattle.std.specs.Prelude.{Contains, IsTrue, ◌≡◌, ◌≤◌, ℕ, true, List, [], ◌∷◌, length, Some, None, Ok}
use Rattle.std.specs.FinMap as map
use Rattle.std.specs.FinMap.{FinMap}
use Rattle.std.specs.List.{All}
use Rattle.json_values.specs.Places.{by_bytes}
use Rattle.oci_names.specs.Reference.{digest_of, tag_of, resolved_registry, reads_back}
use Rattle.oci_names.specs.declared.reference.Reference.{Reference}
use Rattle.oci_auth.specs.declared.auth.RegistryAuth.{RegistryAuth}
use Rattle.oci_digests.specs.Names.{digest_text}
use Rattle.oci_names.specs.declared.algorithm.Algorithm.TheVariants.{Sha256}
use Rattle.oci_manifests.specs.declared.document.OciManifest.TheVariants.{Image}
use Rattle.oci_manifests.specs.declared.manifest.OciImageManifest.{OciImageManifest}
use Rattle.oci_manifests.specs.declared.descriptor.OciDescriptor.{OciDescriptor}
use Rattle.oci_transport.specs.Headers.{is_header_value}
use Rattle.oci_link.specs.declared.shelf.Shelf.{Shelf}
use Rattle.oci_link.specs.declared.shelf.ShelfDocument.{ShelfDocument}
use Rattle.engine_answers.specs.Documents.{document_read}
use Rattle.engine_terms.specs.declared.settings.Settings.{Settings}
use Rattle.engine_rows.specs.Image.{layer_of}
use Rattle.shelf_laws.specs.IsHosted.{IsWrittenPlainly, CanBeShown}
use Rattle.cosign_layers.specs.Satisfying.{PolicyContext, StandsFor}
use Rattle.cosign_parts.specs.declared.layer.SignatureLayer.{SignatureLayer}
use Rattle.cosign_rows.specs.Part.{read_layer}
use Rattle.cosign_rows.specs.References.{signature_tag}
use Rattle.cosign_rows.specs.Search.{payload_type}

abbrev pub Texts : Type 0 → Type 0
Texts V = FinMap by_bytes V

abbrev pub sha256 : List ℕ → List ℕ
sha256 bytes = digest_text Sha256 bytes

-- ---- the shelf

-- a manifest of a configuration and one layer, with the bytes of all three
pub record Packed : Type 0 where
  pub bytes : List ℕ
  pub config : List ℕ
  pub layer : List ℕ
  pub manifest : OciImageManifest
  pub descriptor : OciDescriptor
  pub reads : document_read bytes ≡ Ok (Image manifest)
  pub config_is : manifest.config.digest ≡ sha256 config
  pub layers_are : manifest.layers ≡ descriptor ∷ []
  pub layer_is : descriptor.digest ≡ sha256 layer

abbrev pub documents_of : Packed → Packed → Texts ShelfDocument
documents_of image signing =
    map.insert
    (map.insert map.empty (sha256 signing.bytes) (record { media_type = []; content = signing.bytes }))
    (sha256 image.bytes) (record { media_type = []; content = image.bytes })

abbrev pub blobs_of : Packed → Packed → Texts (List ℕ)
blobs_of image signing =
    map.insert
    (map.insert
    (map.insert
    (map.insert map.empty (sha256 image.config) image.config)
    (sha256 image.layer) image.layer)
    (sha256 signing.config) signing.config)
    (sha256 signing.layer) signing.layer

-- the image under this tag, and its signature under the tag of its digest
abbrev pub shelf_of : List ℕ → List ℕ → Packed → Packed → Shelf
shelf_of repository tag image signing = record {
  repository = repository;
  tags = map.insert
      (map.insert map.empty tag (sha256 image.bytes))
      (signature_tag (sha256 image.bytes)) (sha256 signing.bytes);
  documents = documents_of image signing;
  blobs = blobs_of image signing;
  referrers = map.empty;
  redirects = map.empty;
}

-- An image by a tag that is not its digest's signature tag, and a signature of it, which is another document. The
-- signature's payload is read as a layer that stands for the image. Nothing exceeds the limit of a body.
pub record IsSmall {V : Type 0} {H : V → Type 0} (policy_context : PolicyContext V H) (s : Settings) (image : Reference)
    (a : RegistryAuth) (accepted : List (List ℕ)) (tag : List ℕ) (packed signing : Packed) : Type 0 where
  pub by_tag : tag_of image ≡ Some tag
  pub no_digest : digest_of image ≡ None
  pub reads_back_is : reads_back image ≡ true
  pub written : IsWrittenPlainly s (resolved_registry image)
  pub agent : IsTrue (is_header_value s.user_agent)
  pub credentials : CanBeShown a
  pub accepts : Contains accepted packed.descriptor.media_type
  pub payload : Contains (payload_type ∷ []) signing.descriptor.media_type
  pub signature : SignatureLayer
  pub is_read : read_layer policy_context.trust (sha256 packed.bytes) signing.descriptor
      (Some (layer_of signing.descriptor signing.layer)) ≡ Ok signature
  pub stands : StandsFor policy_context (sha256 packed.bytes) signature
  pub no_entry : signature.bundle ≡ None
  pub no_certificate : signature.certificate_signature ≡ None
  pub other_tag : (tag ≡ signature_tag (sha256 packed.bytes)) → ⊥
  pub other_document : (sha256 signing.bytes ≡ sha256 packed.bytes) → ⊥
  pub documents_short : (length packed.bytes ≤ s.max_body_bytes) × (length signing.bytes ≤ s.max_body_bytes)
  pub blobs_short : All (λ (b : List ℕ). length b ≤ s.max_body_bytes)
      (packed.config ∷ packed.layer ∷ signing.config ∷ signing.layer ∷ [])
