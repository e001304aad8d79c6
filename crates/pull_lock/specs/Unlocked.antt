-- The documents of an entry, back from its texts.
use Rattle.std.specs.Prelude.{◌≡◌, ◌⊎◌, ◌<◌, ℕ, true, List, All, Contains, length, Option, Some, None}
use Rattle.oci_names.specs.declared.reference.Reference.{Reference}
use Rattle.oci_names.specs.Reference.{whole_text, reads_back}
use Rattle.oci_manifests.specs.declared.promise.ResolverPromise.{ResolverPromise}
use Rattle.oci_manifests.specs.declared.document.OciManifest.{OciManifest}
use Rattle.oci_manifests.specs.declared.document.OciManifest.TheVariants.{Image, ImageIndex}
use Rattle.oci_manifests.specs.declared.manifest.OciImageManifest.{OciImageManifest}
use Rattle.cosign_layers.specs.Read.{Gives}
use Rattle.cosign_layers.specs.Satisfying.{PolicyContext}
use Rattle.cosign_parts.specs.Trust.{Trust}
use Rattle.cosign_parts.specs.declared.layer.SignatureLayer.{SignatureLayer}
use Rattle.cosign_chain.specs.Documents.{document_in}
use Rattle.cosign_chain.specs.VerifiedDocuments.{Documents}
use Rattle.cosign_chain.specs.declared.verified_documents.VerifiedDocuments.{VerifiedDocuments}
use Rattle.pull_lock.specs.Locked.{Locked}
use Rattle.pull_lock.specs.LockedDocuments.{documents_entry}
use Rattle.pull_lock.specs.Tests.{input_of}
use Rattle.pull_lock.specs.declared.lock.LockEntry.{LockEntry}

-- the manifest, if the document is one
abbrev pub manifest_in : Option OciManifest → Option OciImageManifest
manifest_in (Some (Image manifest)) = Some manifest
manifest_in (Some (ImageIndex index)) = None
manifest_in None = None

-- the digest, if the first document is an index
abbrev pub list_of : List ℕ → Option OciManifest → Option (List ℕ)
list_of digest (Some (ImageIndex index)) = Some digest
list_of digest (Some (Image manifest)) = None
list_of digest None = None

-- what the bytes and annotations of the entry's signature layer give
abbrev pub GivesLayer : Trust → LockEntry → Option SignatureLayer → Type 0
GivesLayer trust e (Some layer) = Gives trust e.digest (input_of e.signature) layer
GivesLayer trust e None = (layer : SignatureLayer) → Gives trust e.digest (input_of e.signature) layer → ⊥

-- the documents of the entry, with this manifest and this layer
abbrev pub rebuilt_with : LockEntry → OciImageManifest → SignatureLayer → VerifiedDocuments
rebuilt_with e manifest signature = record {
  digest = e.digest;
  first = e.first;
  manifest_bytes = e.manifest;
  manifest = manifest;
  manifest_digest = e.manifest_digest;
  list_digest = list_of e.digest (document_in e.first);
  signature = signature;
}

-- the documents with the manifest that the text is and the layer that the bytes give; none if there is none
abbrev pub Rebuilds : Trust → LockEntry → Option VerifiedDocuments → Type 0
Rebuilds trust e (Some d) = (d ≡ rebuilt_with e d.manifest d.signature)
    × (manifest_in (document_in e.manifest) ≡ Some d.manifest) × GivesLayer trust e (Some d.signature)
Rebuilds trust e None = (manifest_in (document_in e.manifest) ≡ None) ⊎ GivesLayer trust e None

-- these documents hold for the entry's reference, and the entry is theirs
pub record AreDocumentsOf {V : Type 0} {H : V → Type 0} (policy_context : PolicyContext V H)
    (promise : Option ResolverPromise) (e : LockEntry) (d : VerifiedDocuments) : Type 0 where
  pub image : Reference
  pub whole : e.image ≡ whole_text image
  pub reads : reads_back image ≡ true
  pub documents : Documents policy_context image promise d
  pub is : e ≡ documents_entry e.image e.accepted d
  pub some : 0 < length d.manifest.layers
  pub accepted : All (λ x. Contains e.accepted x.media_type) d.manifest.layers

-- the documents of a locked entry; none if and only if it is not locked
abbrev pub GivesDocuments : {V : Type 0} {H : V → Type 0} → PolicyContext V H → Option ResolverPromise → LockEntry
    → Option VerifiedDocuments → Type 0
GivesDocuments policy_context promise e (Some d) = AreDocumentsOf policy_context promise e d
GivesDocuments policy_context promise e None = Locked policy_context promise e → ⊥
