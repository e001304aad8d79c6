-- A shelf built from the bytes of an image of one layer and of an image of one bundle that refers to it.
use Rattle.std.specs.Prelude.{Contains, IsTrue, ◌≡◌, ◌≤◌, ℕ, true, List, [], ◌∷◌, length, Some, None, Ok}
use Rattle.std.specs.FinMap as map
use Rattle.std.specs.List.{All}
use Rattle.oci_names.specs.Reference.{digest_of, tag_of, resolved_registry, reads_back}
use Rattle.oci_names.specs.declared.reference.Reference.{Reference}
use Rattle.oci_auth.specs.declared.auth.RegistryAuth.{RegistryAuth}
use Rattle.oci_digests.specs.Names.{digest_text}
use Rattle.oci_names.specs.declared.algorithm.Algorithm.{Algorithm}
use Rattle.oci_manifests.specs.declared.document.OciManifest.{OciManifest}
use Rattle.oci_manifests.specs.declared.document.OciManifest.TheVariants.{Image, ImageIndex}
use Rattle.oci_manifests.specs.declared.index.OciImageIndex.{OciImageIndex}
use Rattle.oci_manifests.specs.declared.index_entry.ImageIndexEntry.{ImageIndexEntry}
use Rattle.oci_transport.specs.Headers.{is_header_value}
use Rattle.oci_link.specs.declared.shelf.Shelf.{Shelf}
use Rattle.oci_link.specs.declared.shelf.ShelfDocument.{ShelfDocument}
use Rattle.engine_answers.specs.Documents.{document_read}
use Rattle.engine_answers.specs.Index.{entry_found}
use Rattle.engine_answers.specs.Referrers.{index_read}
use Rattle.engine_terms.specs.declared.settings.Settings.{Settings}
use Rattle.engine_rows.specs.Image.{layer_of}
use Rattle.shelf_laws.specs.IsHosted.{IsWrittenPlainly, CanBeShown}
use Rattle.cosign_layers.specs.Satisfying.{PolicyContext, StandsFor}
use Rattle.cosign_parts.specs.declared.layer.SignatureLayer.{SignatureLayer}
use Rattle.cosign_rows.specs.Part.{read_bundle}
use Rattle.cosign_rows.specs.Search.{bundle_type}
use Rattle.cosign_laws.specs.Small.{Texts, sha256, Packed, blobs_of}

-- ---- the shelf

abbrev pub document_of : List ℕ → ShelfDocument
document_of bytes = record { media_type = []; content = bytes }

-- the document that the tag names, the image's manifest and that of the bundle
abbrev pub referred_documents : Algorithm → List ℕ → Packed → Packed → Texts ShelfDocument
referred_documents algorithm first image bundles =
    map.insert
    (map.insert
    (map.insert map.empty (sha256 bundles.bytes) (document_of bundles.bytes))
    (sha256 image.bytes) (document_of image.bytes))
    (digest_text algorithm first) (document_of first)

-- the first document under this tag, by a digest of this algorithm, and the list of the referrers of that digest
abbrev pub referred_shelf : List ℕ → Algorithm → List ℕ → List ℕ → List ℕ → Packed → Packed → Shelf
referred_shelf repository algorithm tag first list image bundles = record {
  repository = repository;
  tags = map.insert map.empty tag (digest_text algorithm first);
  documents = referred_documents algorithm first image bundles;
  blobs = blobs_of image bundles;
  referrers = map.insert map.empty (digest_text algorithm first) list;
  redirects = map.empty;
}

-- the document is the image's manifest, or an index whose selected entry names it
abbrev pub Selects : Settings → Packed → OciManifest → Type 0
Selects s image (Image own) = own ≡ image.manifest
Selects s image (ImageIndex index) = entry_found s.platform_resolver index.manifests ≡ Ok (sha256 image.bytes)

-- The image is requested by this tag, which names the first document. The list of the referrers of its digest has an
-- entry for the image of the bundle, which is read as a layer that stands for the digest. Documents of one digest are
-- equal, and nothing exceeds the limit of a body.
pub record IsReferred {V : Type 0} {H : V → Type 0} (policy_context : PolicyContext V H) (s : Settings)
    (image : Reference)
    (a : RegistryAuth) (accepted : List (List ℕ)) (algorithm : Algorithm) (tag first list : List ℕ)
    (packed bundles : Packed) : Type 0 where
  pub by_tag : tag_of image ≡ Some tag
  pub no_digest : digest_of image ≡ None
  pub reads_back_is : reads_back image ≡ true
  pub written : IsWrittenPlainly s (resolved_registry image)
  pub agent : IsTrue (is_header_value s.user_agent)
  pub credentials : CanBeShown a
  pub document : OciManifest
  pub reads : document_read first ≡ Ok document
  pub selects : Selects s packed document
  pub accepts : Contains accepted packed.descriptor.media_type
  pub index : OciImageIndex
  pub lists : index_read list ≡ Ok index
  pub entry : ImageIndexEntry
  pub among : Contains index.manifests entry
  pub entry_is : entry.digest ≡ sha256 bundles.bytes
  pub bundle : Contains (bundle_type ∷ []) bundles.descriptor.media_type
  pub signature : SignatureLayer
  pub is_read : read_bundle policy_context.trust (digest_text algorithm first) (sha256 bundles.layer)
      (layer_of bundles.descriptor bundles.layer) ≡ Ok signature
  pub stands : StandsFor policy_context (digest_text algorithm first) signature
  pub image_once : (sha256 packed.bytes ≡ digest_text algorithm first) → first ≡ packed.bytes
  pub bundles_once : (sha256 bundles.bytes ≡ digest_text algorithm first) → first ≡ bundles.bytes
  pub both_once : (sha256 bundles.bytes ≡ sha256 packed.bytes) → packed.bytes ≡ bundles.bytes
  pub documents_short : All (λ (b : List ℕ). length b ≤ s.max_body_bytes)
      (first ∷ packed.bytes ∷ bundles.bytes ∷ list ∷ [])
  pub blobs_short : All (λ (b : List ℕ). length b ≤ s.max_body_bytes)
      (packed.config ∷ packed.layer ∷ bundles.config ∷ bundles.layer ∷ [])
