-- The tests of an entry.
use Rattle.std.specs.Prelude.{◌≡◌, ◌<◌, ℕ, Bool, true, false, ◌&&◌, nat_lt, List, [], bytes_eq, Option, Some, None, All}
use Rattle.std.specs.Prelude.{Contains, length}
use Rattle.std.specs.Result.{result_ok}
use Rattle.std.specs.List.{list_all, list_any}
use Rattle.oci_names.specs.Reference.{reference_of, digest_of, whole_text, reads_back}
use Rattle.oci_names.specs.declared.reference.Reference.{Reference}
use Rattle.oci_digests.specs.Names.{Names, names}
use Rattle.oci_manifests.specs.declared.document.OciManifest.{OciManifest}
use Rattle.oci_manifests.specs.declared.document.OciManifest.TheVariants.{Image, ImageIndex}
use Rattle.oci_manifests.specs.declared.index.OciImageIndex.{OciImageIndex}
use Rattle.oci_manifests.specs.declared.manifest.OciImageManifest.{OciImageManifest}
use Rattle.oci_manifests.specs.declared.descriptor.OciDescriptor.{OciDescriptor}
use Rattle.oci_manifests.specs.Promise.{picks}
use Rattle.oci_manifests.specs.declared.promise.ResolverPromise.{ResolverPromise}
use Rattle.cosign_parts.specs.declared.layer.SignatureLayer.{SignatureLayer}
use Rattle.cosign_layers.specs.Satisfying.{PolicyContext, StandsFor}
use Rattle.cosign_layers.specs.Checks.{Input}
use Rattle.cosign_chain.specs.Chain.{LeadsToManifest}
use Rattle.cosign_chain.specs.Documents.{document_in}
use Rattle.cosign_chain.specs.Links.{named_by}
use Rattle.cosign_chain.specs.declared.image.VerifiedImage.{VerifiedImage}
use Rattle.pull_lock.specs.Locked.{entry_with, locked_signature}
use Rattle.pull_lock.specs.declared.lock.LockEntry.{LockEntry}
use Rattle.pull_lock.specs.declared.lock.LockedSignature.{LockedSignature}

-- ---- the reference

-- the text is that of a reference that reads back, whose digest names the first document, as the entry's does
pub record IsNamed (e : LockEntry) : Type 0 where
  pub image : Reference
  pub whole : e.image ≡ whole_text image
  pub reads : reads_back image ≡ true
  pub named : Names e.digest e.first
  pub asked : (digest : List ℕ) → digest_of image ≡ Some digest → Names digest e.first

-- the reference that the text parses as
abbrev pub parsed : List ℕ → Option Reference
parsed text = result_ok (reference_of text)

-- whether the digests of the reference and of the entry name the first document
abbrev pub names_first : Reference → LockEntry → Bool
names_first image e = names e.digest e.first && named_by (digest_of image) e.first

-- ---- the documents

-- the entry is that of an image whose first document leads to its manifest, which has layers of accepted types alone
pub record HasManifest (promise : Option ResolverPromise) (e : LockEntry) : Type 0 where
  pub found : VerifiedImage
  pub digest : e.digest ≡ found.digest
  pub first : e.first ≡ found.first
  pub manifest_digest : e.manifest_digest ≡ found.manifest_digest
  pub bytes : e.manifest ≡ found.manifest_bytes
  pub manifest : LeadsToManifest promise found
  pub some : 0 < length found.manifest.layers
  pub accepted : All (λ x. Contains e.accepted x.media_type) found.manifest.layers

abbrev pub is_accepted : List (List ℕ) → OciDescriptor → Bool
is_accepted accepted x = list_any (bytes_eq x.media_type) accepted

-- whether the manifest has layers, each of an accepted type
abbrev pub are_accepted : List (List ℕ) → OciImageManifest → Bool
are_accepted accepted manifest = nat_lt 0 (length manifest.layers) && list_all (is_accepted accepted) manifest.layers

-- whether the document is such a manifest
abbrev pub is_manifest_with : List (List ℕ) → Option OciManifest → Bool
is_manifest_with accepted None = false
is_manifest_with accepted (Some (Image manifest)) = are_accepted accepted manifest
is_manifest_with accepted (Some (ImageIndex index)) = false

-- whether the first document, parsed as this manifest, is the entry's
abbrev pub is_first : LockEntry → OciImageManifest → Bool
is_first e manifest =
    bytes_eq e.manifest e.first && bytes_eq e.manifest_digest e.digest && are_accepted e.accepted manifest

-- whether the first document, parsed as this index, leads to the entry's manifest under the promise
abbrev pub is_led : Option ResolverPromise → LockEntry → OciImageIndex → Bool
is_led None e index = false
is_led (Some promise) e index =
    picks promise index.manifests e.manifest_digest && names e.manifest_digest e.manifest
    && is_manifest_with e.accepted (document_in e.manifest)

-- whether the first document leads to the entry's manifest
abbrev pub leads : Option ResolverPromise → LockEntry → Option OciManifest → Bool
leads promise e None = false
leads promise e (Some (Image manifest)) = is_first e manifest
leads promise e (Some (ImageIndex index)) = is_led promise e index

-- ---- the signature

-- what a signature layer with this content is read from
abbrev pub input_with : List ℕ → LockedSignature → Input
input_with content s = record {
  kind = s.kind;
  content = content;
  oci_digest = s.oci_digest;
  annotations = s.annotations;
}

abbrev pub input_of : LockedSignature → Input
input_of s = input_with s.content s

-- a layer with these bytes and annotations stands for the digest
pub record IsSigned {V : Type 0} {H : V → Type 0} (policy_context : PolicyContext V H) (e : LockEntry) : Type 0 where
  pub layer : SignatureLayer
  pub is : e.signature ≡ locked_signature layer
  pub stands : StandsFor policy_context e.digest layer
