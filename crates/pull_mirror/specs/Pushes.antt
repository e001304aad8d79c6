-- What is pushed to a target for a verified image: its blobs, each once, the manifest of an index's entry, the document
-- that was signed, and its signature.
use Rattle.std.specs.Prelude.{◌≡◌, ℕ, Bool, true, false, List, [], ◌∷◌, ◌++◌, map, Option, Some, None, codes}
use Rattle.std.specs.List.{list_any}
use Rattle.std.specs.Str.{bytes_eq}
use Rattle.oci_manifests.specs.declared.descriptor.OciDescriptor.{OciDescriptor}
use Rattle.oci_digests.specs.Names.{digest_text, Names}
use Rattle.oci_manifests.specs.declared.blob.ImageLayer.{ImageLayer}
use Rattle.oci_names.specs.declared.algorithm.Algorithm.TheVariants.{Sha256}
use Rattle.oci_names.specs.declared.reference.Reference.{Reference}
use Rattle.cosign_chain.specs.declared.image.VerifiedImage.{VerifiedImage}
use Rattle.cosign_parts.specs.declared.layer.LayerKind.{LayerKind}
use Rattle.cosign_parts.specs.declared.layer.LayerKind.TheVariants.{Payload, Bundle}
use Rattle.cosign_rows.specs.References.{tag_reference, digest_reference}
use Rattle.pull_mirror.specs.Signatures.{document_type, oci_manifest_type, signature_text}

-- a blob under its digest; or a document under a reference in the target's repository, with its content type
pub data Push : Type 0 where
  Blob : (digest bytes : List ℕ) → Push
  Manifest : (reference : Reference) (digest bytes content_type : List ℕ) → Push

abbrev pub push_digest : Push → List ℕ
push_digest (Blob digest bytes) = digest
push_digest (Manifest reference digest bytes content_type) = digest

abbrev pub push_bytes : Push → List ℕ
push_bytes (Blob digest bytes) = bytes
push_bytes (Manifest reference digest bytes content_type) = bytes

-- the digest names the bytes
abbrev pub IsNamed : Push → Type 0
IsNamed p = Names (push_digest p) (push_bytes p)

-- ---- blobs

-- each layer under the digest of its descriptor
abbrev pub layer_blobs : List OciDescriptor → List ImageLayer → List Push
layer_blobs (x ∷ xs) (layer ∷ layers) = Blob x.digest layer.content ∷ layer_blobs xs layers
layer_blobs xs layers = []

abbrev pub sha256_blob : List ℕ → Push
sha256_blob bytes = Blob (digest_text Sha256 bytes) bytes

-- the configuration, the signature's layer, and the empty configuration of the signature's manifest
abbrev pub other_blobs : VerifiedImage → List Push
other_blobs v = Blob v.manifest.config.digest v.config.content ∷ sha256_blob v.signature.content
    ∷ sha256_blob (codes "{}") ∷ []

abbrev pub blobs_of : VerifiedImage → List Push
blobs_of v = layer_blobs v.manifest.layers v.layers ++ other_blobs v

-- the push, unless its digest is one of these
abbrev pub unless_before : Bool → Push → List Push
unless_before true p = []
unless_before false p = p ∷ []

abbrev pub is_among : List ℕ → List (List ℕ) → Bool
is_among digest digests = list_any (bytes_eq digest) digests

-- without those whose digest occurred before, among these or further ahead in the list
abbrev pub not_before : List (List ℕ) → List Push → List Push
not_before before [] = []
not_before before (p ∷ ps) =
    unless_before (is_among (push_digest p) before) p ++ not_before (before ++ push_digest p ∷ []) ps

abbrev pub without_repeats : List Push → List Push
without_repeats ps = not_before [] ps

-- ---- documents

-- a manifest by its digest
abbrev pub manifest_push : (digest bytes : List ℕ) → Reference → Push
manifest_push digest bytes target = Manifest (digest_reference target digest) digest bytes (document_type bytes)

-- the manifest, if an index led to it
abbrev pub entry_by : Option (List ℕ) → Push → List Push
entry_by None push = []
entry_by (Some list_digest) push = push ∷ []

abbrev pub entry_of : VerifiedImage → Reference → List Push
entry_of v target = entry_by v.list_digest (manifest_push v.manifest_digest v.manifest_bytes target)

-- a document under the tag
abbrev pub tag_push : (digest bytes : List ℕ) → Reference → Push
tag_push digest bytes target = Manifest target digest bytes (document_type bytes)

-- the document that was signed, under the tag
abbrev pub document_of : VerifiedImage → Reference → Push
document_of v target = tag_push v.digest v.first target

-- where a signature's manifest is found: a payload's under the signature tag of the signed digest, a bundle's under its
-- own digest
abbrev pub signature_place : LayerKind → (signed own : List ℕ) → Reference → Reference
signature_place Payload signed own target = tag_reference target signed
signature_place Bundle signed own target = digest_reference target own

abbrev pub signature_push : LayerKind → (signed text : List ℕ) → Reference → Push
signature_push kind signed text target = Manifest (signature_place kind signed (digest_text Sha256 text) target)
    (digest_text Sha256 text) text oci_manifest_type

abbrev pub signature_of : VerifiedImage → Reference → Push
signature_of v target =
    signature_push v.signature.kind v.digest (signature_text v.signature v.digest v.first) target

-- ---- all of them, in order

-- what is pushed before the document that was signed
abbrev pub before_document : VerifiedImage → Reference → List Push
before_document v target = without_repeats (blobs_of v) ++ entry_of v target

abbrev pub pushes : VerifiedImage → Reference → List Push
pushes v target = before_document v target ++ document_of v target ∷ signature_of v target ∷ []

abbrev pub digests_of : List Push → List (List ℕ)
digests_of ps = map push_digest ps
