-- Which images a shelf has (OCI image specification, "Image Manifest", "Image Index").
use Rattle.std.specs.Prelude.{◌≡◌, ◌<◌, ◌≤◌, ℕ, List, [], length, map as each, unwrap_or, Option, Some, None, Ok}
use Rattle.std.specs.Prelude.{Contains}
use Rattle.std.specs.List.{All}
use Rattle.std.specs.FinMap as map
use Rattle.oci_digests.specs.Names.{Names}
use Rattle.oci_manifests.specs.declared.document.OciManifest.{OciManifest}
use Rattle.oci_manifests.specs.declared.document.OciManifest.TheVariants.{Image, ImageIndex}
use Rattle.oci_manifests.specs.declared.index.OciImageIndex.{OciImageIndex}
use Rattle.oci_manifests.specs.declared.manifest.OciImageManifest.{OciImageManifest}
use Rattle.oci_manifests.specs.declared.descriptor.OciDescriptor.{OciDescriptor}
use Rattle.oci_manifests.specs.declared.blob.ImageLayer.{ImageLayer}
use Rattle.oci_link.specs.declared.shelf.Shelf.{Shelf}
use Rattle.oci_link.specs.declared.shelf.ShelfDocument.{ShelfDocument}
use Rattle.engine_terms.specs.declared.settings.Settings.{Settings}
use Rattle.engine_answers.specs.Documents.{document_read}
use Rattle.engine_answers.specs.Index.{entry_found}
use Rattle.engine_answers.specs.Referrers.{index_read, referrers_tag}
use Rattle.engine_rows.specs.Image.{layer_of}

-- each document, blob or list of referrers fits the limit of a body
pub record FitsLimit (s : Settings) (shelf : Shelf) : Type 0 where
  pub documents : (digest : List ℕ) (document : ShelfDocument) → map.get shelf.documents digest ≡ Some document
      → length document.content ≤ s.max_body_bytes
  pub blobs : (digest blob : List ℕ) → map.get shelf.blobs digest ≡ Some blob → length blob ≤ s.max_body_bytes
  pub referrers : (digest body : List ℕ) → map.get shelf.referrers digest ≡ Some body
      → length body ≤ s.max_body_bytes

-- the shelf has this document under its digest
pub record HasDocument (shelf : Shelf) (digest bytes : List ℕ) : Type 0 where
  pub document : ShelfDocument
  pub there : map.get shelf.documents digest ≡ Some document
  pub content : document.content ≡ bytes
  pub named : Names digest bytes

-- the shelf has a blob under its digest
pub record HasBlob (shelf : Shelf) (digest : List ℕ) : Type 0 where
  pub blob : List ℕ
  pub there : map.get shelf.blobs digest ≡ Some blob
  pub named : Names digest blob

-- the shelf has the layer, and its type is one of these
abbrev pub HasLayer : Shelf → List (List ℕ) → OciDescriptor → Type 0
HasLayer shelf accepted x = HasBlob shelf x.digest × Contains accepted x.media_type

-- the shelf has the configuration of a manifest and its layers, of which there is at least one
pub record HasBlobs (shelf : Shelf) (accepted : List (List ℕ)) (manifest : OciImageManifest) : Type 0 where
  pub config : HasBlob shelf manifest.config.digest
  pub some : 0 < length manifest.layers
  pub layers : All (HasLayer shelf accepted) manifest.layers

-- the shelf has a manifest under this digest
abbrev pub HasManifest : Shelf → List ℕ → OciImageManifest → Type 0
HasManifest shelf digest manifest =
    (bytes : List ℕ) × HasDocument shelf digest bytes × (document_read bytes ≡ Ok (Image manifest))

-- the document is this manifest, or an index whose selected entry's document is this manifest
abbrev pub LeadsTo : Settings → Shelf → OciManifest → OciImageManifest → Type 0
LeadsTo s shelf (Image own) manifest = own ≡ manifest
LeadsTo s shelf (ImageIndex index) manifest =
    (entry : List ℕ) × (entry_found s.platform_resolver index.manifests ≡ Ok entry) × HasManifest shelf entry manifest

-- the shelf has the image of this digest, with layers of these types
pub record ImageOn (s : Settings) (shelf : Shelf) (digest : List ℕ) (accepted : List (List ℕ)) : Type 0 where
  pub first : List ℕ
  pub there : HasDocument shelf digest first
  pub document : OciManifest
  pub reads : document_read first ≡ Ok document
  pub manifest : OciImageManifest
  pub leads : LeadsTo s shelf document manifest
  pub blobs : HasBlobs shelf accepted manifest

-- what the shelf has under the digest of a layer
abbrev pub layer_on : Shelf → OciDescriptor → ImageLayer
layer_on shelf x = layer_of x (unwrap_or (map.get shelf.blobs x.digest) [])

-- the layers that a pull of these descriptors returns
abbrev pub layers_on : Shelf → List OciDescriptor → List ImageLayer
layers_on shelf xs = each (layer_on shelf) xs

-- the document under the tag that replaces a list of referrers is this index
pub record TagLists (shelf : Shelf) (digest : List ℕ) (index : OciImageIndex) : Type 0 where
  pub list : List ℕ
  pub tagged : map.get shelf.tags (referrers_tag digest) ≡ Some list
  pub bytes : List ℕ
  pub there : HasDocument shelf list bytes
  pub reads : document_read bytes ≡ Ok (ImageIndex index)

-- the list is this index; if there is no list, the index is under its tag
abbrev pub ListsBy : Shelf → List ℕ → OciImageIndex → Option (List ℕ) → Type 0
ListsBy shelf digest index (Some body) = index_read body ≡ Ok index
ListsBy shelf digest index None = TagLists shelf digest index

-- the referrers of this digest
abbrev pub Lists : Shelf → List ℕ → OciImageIndex → Type 0
Lists shelf digest index = ListsBy shelf digest index (map.get shelf.referrers digest)
