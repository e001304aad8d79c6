-- The entry of documents alone.
use Rattle.std.specs.Prelude.{◌≡◌, ◌<◌, ℕ, Bool, true, List, All, Contains, length, Option}
use Rattle.oci_names.specs.declared.reference.Reference.{Reference}
use Rattle.oci_names.specs.Reference.{whole_text, reads_back}
use Rattle.oci_manifests.specs.declared.promise.ResolverPromise.{ResolverPromise}
use Rattle.cosign_layers.specs.Satisfying.{CustomVerdict, policy_context}
use Rattle.cosign_layers.specs.declared.policy.PullPolicy.{PullPolicy}
use Rattle.cosign_parts.specs.Trust.{Trust}
use Rattle.cosign_chain.specs.VerifiedDocuments.{Documents}
use Rattle.cosign_chain.specs.declared.verified_documents.VerifiedDocuments.{VerifiedDocuments}
use Rattle.pull_lock.specs.Locked.{Locked, all_text, locked_signature}
use Rattle.pull_lock.specs.declared.lock.LockEntry.{LockEntry}

-- the entry of documents, with their digests and their signature layer
abbrev pub documents_entry : List ℕ → List (List ℕ) → VerifiedDocuments → LockEntry
documents_entry image accepted d = record {
  image = image;
  accepted = accepted;
  digest = d.digest;
  first = d.first;
  manifest_digest = d.manifest_digest;
  manifest = d.manifest_bytes;
  signature = locked_signature d.signature;
}

-- whether the documents and the signature layer are UTF-8
abbrev pub are_text : VerifiedDocuments → Bool
are_text d = all_text d.first d.manifest_bytes d.signature.content

-- the entry of documents that hold, by a reference that reads back, is locked if the manifest has layers, each of an
-- accepted type
abbrev pub DocumentsAreLocked : {V : Type 0} {H : V → Type 0} → PullPolicy V H → Type 0
DocumentsAreLocked {V} {H} policy =
    (own : CustomVerdict V H) (trust : Trust) (image : Reference) (accepted : List (List ℕ))
    (promise : Option ResolverPromise) (d : VerifiedDocuments)
    → Documents (policy_context policy own trust) image promise d → reads_back image ≡ true
    → 0 < length d.manifest.layers → All (λ x. Contains accepted x.media_type) d.manifest.layers
    → Locked (policy_context policy own trust) promise (documents_entry (whole_text image) accepted d)
