-- What is pushed for documents whose blobs the target has, and which blobs these are.
use Rattle.std.specs.Prelude.{◌≡◌, ℕ, Bool, true, false, List, [], ◌∷◌, ◌++◌, Option, Some, codes}
use Rattle.oci_manifests.specs.declared.descriptor.OciDescriptor.{OciDescriptor}
use Rattle.oci_digests.specs.Names.{Names}
use Rattle.oci_manifests.specs.declared.manifest.OciImageManifest.{OciImageManifest}
use Rattle.oci_names.specs.declared.reference.Reference.{Reference}
use Rattle.cosign_chain.specs.declared.verified_documents.VerifiedDocuments.{VerifiedDocuments}
use Rattle.pull_mirror.specs.Pushes.{Push, entry_by, is_among, manifest_push, sha256_blob, signature_push, tag_push}
use Rattle.pull_mirror.specs.Pushes.{without_repeats}
use Rattle.pull_mirror.specs.Signatures.{signature_text}

-- ---- the blobs that a manifest names

abbrev pub layer_digests : List OciDescriptor → List (List ℕ)
layer_digests [] = []
layer_digests (x ∷ xs) = x.digest ∷ layer_digests xs

-- the digest, unless it is one of these
abbrev pub unless_named : Bool → List ℕ → List (List ℕ)
unless_named true digest = []
unless_named false digest = digest ∷ []

-- without those that occurred before, among these or further ahead in the list
abbrev pub not_named_before : List (List ℕ) → List (List ℕ) → List (List ℕ)
not_named_before before [] = []
not_named_before before (digest ∷ digests) =
    unless_named (is_among digest before) digest ++ not_named_before (before ++ digest ∷ []) digests

-- the digests of the layers, in order, and that of the configuration, each once
abbrev pub blobs_named : OciImageManifest → List (List ℕ)
blobs_named m = not_named_before [] (layer_digests m.layers ++ m.config.digest ∷ [])

-- ---- pushes

-- what is pushed before a document, the document, and what is pushed after it
pub record Parts : Type 0 where
  pub first : List Push
  pub document : Push
  pub after : List Push

-- in order
abbrev pub all_of : Parts → List Push
all_of p = p.first ++ p.document ∷ p.after

-- what an image's signature needs: its layer, and the empty configuration of its manifest
abbrev pub signature_blobs : VerifiedDocuments → List Push
signature_blobs d = without_repeats (sha256_blob d.signature.content ∷ sha256_blob (codes "{}") ∷ [])

-- the signature's blobs and the manifest of an index's entry; the document that was signed, under the tag; its signature
abbrev pub tagged_parts : VerifiedDocuments → Reference → Parts
tagged_parts d target = record {
  first = signature_blobs d ++ entry_by d.list_digest (manifest_push d.manifest_digest d.manifest_bytes target);
  document = tag_push d.digest d.first target;
  after = signature_push d.signature.kind d.digest (signature_text d.signature d.digest d.first) target ∷ [];
}

-- the manifest alone, by its digest
abbrev pub manifest_parts : VerifiedDocuments → Reference → Parts
manifest_parts d target = record {
  first = [];
  document = manifest_push d.manifest_digest d.manifest_bytes target;
  after = [];
}

-- by whether the tag is pushed
abbrev pub parts_of : Bool → VerifiedDocuments → Reference → Parts
parts_of true d target = tagged_parts d target
parts_of false d target = manifest_parts d target

-- the digests of the documents name their bytes
abbrev pub AreNamed : VerifiedDocuments → Type 0
AreNamed d = Names d.digest d.first × Names d.manifest_digest d.manifest_bytes
