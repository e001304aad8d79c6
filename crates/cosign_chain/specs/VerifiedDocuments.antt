-- The documents of an image with the signature that stands for them: a chain without its blobs. No request is named.
use Rattle.std.specs.Prelude.{◌≡◌, ◌<◌, ◌⊎◌, ℕ, List, length, Option, Some, None}
use Rattle.oci_names.specs.declared.reference.Reference.{Reference}
use Rattle.oci_names.specs.Reference.{digest_of}
use Rattle.oci_digests.specs.Names.{Names}
use Rattle.oci_manifests.specs.declared.document.OciManifest.TheVariants.{ImageIndex}
use Rattle.oci_manifests.specs.declared.index.OciImageIndex.{OciImageIndex}
use Rattle.oci_manifests.specs.Promise.{Picks}
use Rattle.oci_manifests.specs.declared.promise.ResolverPromise.{ResolverPromise}
use Rattle.cosign_layers.specs.Satisfying.{PolicyContext, StandsFor}
use Rattle.cosign_chain.specs.Chain.{IsDocument, ReadsAs, ConfigLinks, LayersLink}
use Rattle.cosign_chain.specs.declared.image.VerifiedImage.{VerifiedImage}
use Rattle.cosign_chain.specs.declared.verified_documents.VerifiedDocuments.{VerifiedDocuments}

-- the first document is the manifest
pub record FirstIsManifest (d : VerifiedDocuments) : Type 0 where
  pub reads : ReadsAs d.first d.manifest
  pub bytes : d.manifest_bytes ≡ d.first
  pub digest : d.manifest_digest ≡ d.digest
  pub no_list : d.list_digest ≡ None

-- the first document is an index, of whose entries the promise picks the manifest's digest
pub record FirstIsIndex (promise : ResolverPromise) (d : VerifiedDocuments) : Type 0 where
  pub index : OciImageIndex
  pub indexed : IsDocument d.first (ImageIndex index)
  pub picked : Picks promise index.manifests d.manifest_digest
  pub named : Names d.manifest_digest d.manifest_bytes
  pub reads : ReadsAs d.manifest_bytes d.manifest
  pub list : d.list_digest ≡ Some d.digest

-- the first document leads to the manifest; an index does so only with a promise
abbrev pub LeadsToManifest : Option ResolverPromise → VerifiedDocuments → Type 0
LeadsToManifest None d = FirstIsManifest d
LeadsToManifest (Some promise) d = FirstIsManifest d ⊎ FirstIsIndex promise d

-- The digest names the first document, as the requested digest does if there is one. The document is the manifest or
-- leads to it, and a signature layer stands for the digest.
pub record Documents {V : Type 0} {H : V → Type 0} (policy_context : PolicyContext V H) (image : Reference)
    (promise : Option ResolverPromise) (d : VerifiedDocuments) : Type 0 where
  pub named : Names d.digest d.first
  pub asked : (digest : List ℕ) → digest_of image ≡ Some digest → Names digest d.first
  pub manifest : LeadsToManifest promise d
  pub signature : StandsFor policy_context d.digest d.signature

-- ---- an image is its documents and its blobs

-- the documents of an image
abbrev pub documents_of : VerifiedImage → VerifiedDocuments
documents_of v = record {
  digest = v.digest;
  first = v.first;
  manifest_bytes = v.manifest_bytes;
  manifest = v.manifest;
  manifest_digest = v.manifest_digest;
  list_digest = v.list_digest;
  signature = v.signature;
}

-- the manifest's digests name the configuration and the layers, of which there is at least one
pub record NamesBlobs (accepted : List (List ℕ)) (v : VerifiedImage) : Type 0 where
  pub config : ConfigLinks v.manifest v.config
  pub some : 0 < length v.layers
  pub layers : LayersLink accepted v.manifest.layers v.layers
