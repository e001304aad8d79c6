-- The documents of a locked entry hold.
use Rattle.std.proofs.Common.{◌≡◌, ◌⊎◌, inl, inr, ◌↔◌, ◌<◌, ℕ, Bool, true, false, IsTrue, List, Contains, length, MatchBool, Option, Some, None, refl, sym, ap, subst, ◌∙◌}
use Rattle.std.specs.List.{All}
use Rattle.oci_manifests.specs.declared.promise.ResolverPromise.{ResolverPromise}
use Rattle.oci_manifests.specs.declared.document.OciManifest.{OciManifest}
use Rattle.oci_manifests.specs.declared.document.OciManifest.TheVariants.{Image, ImageIndex}
use Rattle.oci_manifests.specs.declared.manifest.OciImageManifest.{OciImageManifest}
use Rattle.cosign_layers.specs.Read.{Gives, HasOneOutcome, Rejected, RejectedUnlessMemory}
use Rattle.cosign_layers.specs.Rejection.{is_memory}
use Rattle.cosign_layers.specs.Satisfying.{PolicyContext, StandsFor}
use Rattle.cosign_layers.specs.declared.rejection.LayerRejection.{LayerRejection}
use Rattle.cosign_parts.specs.Trust.{Trust}
use Rattle.cosign_parts.specs.declared.layer.SignatureLayer.{SignatureLayer}
use Rattle.cosign_chain.specs.Chain.{FirstIsManifest as ImageFirst, FirstIsIndex as ImageIndexed, LeadsToManifest as ImageLeads, IsDocument}
use Rattle.cosign_chain.specs.Documents.{document_in}
use Rattle.cosign_chain.specs.VerifiedDocuments.{FirstIsManifest, FirstIsIndex, LeadsToManifest, Documents}
use Rattle.cosign_chain.specs.declared.verified_documents.VerifiedDocuments.{VerifiedDocuments}
use Rattle.cosign_layers.proofs.Layers.{one_outcome}
use Rattle.pull_lock.specs.Locked.{Locked, locked_signature}
use Rattle.pull_lock.specs.LockedDocuments.{documents_entry}
use Rattle.pull_lock.specs.Tests.{input_of, input_with}
use Rattle.pull_lock.specs.Unlocked.{AreDocumentsOf, GivesDocuments, GivesLayer, Rebuilds, list_of, manifest_in, rebuilt_with}
use Rattle.pull_lock.specs.declared.lock.LockEntry.{LockEntry}
use Rattle.pull_lock.specs.declared.lock.LockedSignature.{LockedSignature}
use Rattle.pull_lock.proofs.EntryDocuments.{in_bytes}
use Rattle.pull_lock.proofs.Signatures.{written}

some_manifest : (a b : OciImageManifest) → Some a ≡ Some b → a ≡ b
some_manifest a b is = cc is

-- ---- what is read

-- the layer that was read
pub layer_read : (trust : Trust) (e : LockEntry) (content : List ℕ) (layer : SignatureLayer) → content ≡ e.signature.content → Gives trust e.digest (input_with content e.signature) layer → GivesLayer trust e (Some layer)
layer_read trust e content layer is gives = subst (λ (t : List ℕ). Gives trust e.digest (input_with t e.signature) layer) is gives

-- bytes that are rejected are no layer
pub layer_rejected : (trust : Trust) (e : LockEntry) (content : List ℕ) (x : LayerRejection) → content ≡ e.signature.content → RejectedUnlessMemory trust e.digest (input_with content e.signature) x → is_memory x ≡ false
    → HasOneOutcome trust e.digest (input_with content e.signature) → GivesLayer trust e None
layer_rejected trust e content x is rejects no_memory law = λ layer gives.
    (subst (λ (t : List ℕ). HasOneOutcome trust e.digest (input_with t e.signature)) is law).not_both layer x gives
    (of (is_memory x) no_memory (subst (λ (t : List ℕ). RejectedUnlessMemory trust e.digest (input_with t e.signature) x) is rejects))
  where
    of : (b : Bool) → b ≡ false → MatchBool b (Unit {0}) (Rejected trust e.digest (input_of e.signature) x) → Rejected trust e.digest (input_of e.signature) x
    of true same r = absurd (cc same)
    of false same r = r

-- ---- a locked entry

module _ {V : Type 0} {H : V → Type 0} (m : PolicyContext V H) (promise : Option ResolverPromise) (e : LockEntry) (l : Locked m promise e) where
  first_is : e.first ≡ l.found.first
  first_is = ap (λ (x : LockEntry). x.first) l.is

  bytes_is : e.manifest ≡ l.found.manifest_bytes
  bytes_is = ap (λ (x : LockEntry). x.manifest) l.is

  digest_is : e.digest ≡ l.found.digest
  digest_is = ap (λ (x : LockEntry). x.digest) l.is

  manifest_digest_is : e.manifest_digest ≡ l.found.manifest_digest
  manifest_digest_is = ap (λ (x : LockEntry). x.manifest_digest) l.is

  signature_is : e.signature ≡ locked_signature l.found.signature
  signature_is = ap (λ (x : LockEntry). x.signature) l.is

  -- the manifest's bytes are those of the image's manifest
  manifest_reads : IsDocument l.found.manifest_bytes (Image l.found.manifest)
  manifest_reads = by promise l.manifest where
    by : (p : Option ResolverPromise) → ImageLeads p l.found → IsDocument l.found.manifest_bytes (Image l.found.manifest)
    by None first = rw first.bytes first.reads
    by (Some p) (inl first) = rw first.bytes first.reads
    by (Some p) (inr index) = index.reads

  manifest_found : manifest_in (document_in e.manifest) ≡ Some l.found.manifest
  manifest_found = ap (λ b. manifest_in (document_in b)) bytes_is ∙ ap manifest_in (in_bytes l.found.manifest_bytes (Image l.found.manifest) manifest_reads)

  -- the layer is the only one that the bytes give
  layer_given : Gives m.trust e.digest (input_of e.signature) l.found.signature
  layer_given = record { from = ap input_of (sym signature_is); layer_of = l.signature.layer_of; is_named = l.signature.is_named }

  module _ (d : VerifiedDocuments) (built : d ≡ rebuilt_with e d.manifest d.signature) (reads : manifest_in (document_in e.manifest) ≡ Some d.manifest) where
    same_manifest : l.found.manifest ≡ d.manifest
    same_manifest = some_manifest l.found.manifest d.manifest (sym manifest_found ∙ reads)

    d_first : d.first ≡ l.found.first
    d_first = ap (λ (x : VerifiedDocuments). x.first) built ∙ first_is

    d_bytes : d.manifest_bytes ≡ l.found.manifest_bytes
    d_bytes = ap (λ (x : VerifiedDocuments). x.manifest_bytes) built ∙ bytes_is

    d_digest : d.digest ≡ l.found.digest
    d_digest = ap (λ (x : VerifiedDocuments). x.digest) built ∙ digest_is

    d_manifest_digest : d.manifest_digest ≡ l.found.manifest_digest
    d_manifest_digest = ap (λ (x : VerifiedDocuments). x.manifest_digest) built ∙ manifest_digest_is

    d_list : d.list_digest ≡ list_of e.digest (document_in l.found.first)
    d_list = ap (λ (x : VerifiedDocuments). x.list_digest) built ∙ ap (λ b. list_of e.digest (document_in b)) first_is

    leads_first : ImageFirst l.found → FirstIsManifest d
    leads_first first = record {
      reads = rw (d_first, ← same_manifest) first.reads;
      bytes = d_bytes ∙ first.bytes ∙ sym d_first;
      digest = d_manifest_digest ∙ first.digest ∙ sym d_digest;
      no_list = d_list ∙ ap (list_of e.digest) (in_bytes l.found.first (Image l.found.manifest) first.reads);
    }

    leads_index : (p : ResolverPromise) → ImageIndexed p l.found → FirstIsIndex p d
    leads_index p index = record {
      index = index.index;
      indexed = rw d_first index.indexed;
      picked = rw d_manifest_digest index.picked;
      named = rw (d_manifest_digest, d_bytes) index.named;
      reads = rw (d_bytes, ← same_manifest) index.reads;
      list = d_list ∙ ap (list_of e.digest) (in_bytes l.found.first (ImageIndex index.index) index.indexed) ∙ ap Some (digest_is ∙ sym d_digest);
    }

    leads : (p : Option ResolverPromise) → ImageLeads p l.found → LeadsToManifest p d
    leads None first = leads_first first
    leads (Some p) (inl first) = inl (leads_first first)
    leads (Some p) (inr index) = inr (leads_index p index)

    -- the entry is that of the documents
    entry_is : GivesLayer m.trust e (Some d.signature) → e ≡ documents_entry e.image e.accepted d
    entry_is gives =
        let signed : e.signature ≡ locked_signature d.signature = sym (ap written gives.from) in
        ap (λ (s : LockedSignature). record e { signature = s }) signed ∙ sym (ap (documents_entry e.image e.accepted) built)

    holds : GivesLayer m.trust e (Some d.signature) → AreDocumentsOf m promise e d
    holds gives =
        let same : l.found.signature ≡ d.signature = (one_outcome m.trust e.digest (input_of e.signature)).one_layer l.found.signature d.signature layer_given gives in
        record {
          image = l.image;
          whole = l.whole;
          reads = l.reads;
          documents = record {
            named = rw (d_digest, d_first, ← digest_is, ← first_is) l.named;
            asked = λ digest has. rw (d_first, ← first_is) (l.asked digest has);
            manifest = leads promise l.manifest;
            signature = rw (d_digest, ← digest_is, ← same) l.signature;
          };
          is = entry_is gives;
          some = rw (← same_manifest) l.some;
          accepted = rw (← same_manifest) l.accepted;
        }

-- what was rebuilt of a locked entry
pub unlocked : {V : Type 0} {H : V → Type 0} (m : PolicyContext V H) (promise : Option ResolverPromise) (e : LockEntry) (b : Bool) (o : Option VerifiedDocuments) → IsTrue b ↔ Locked m promise e → b ≡ true → Rebuilds m.trust e o → GivesDocuments m promise e o
unlocked m promise e b (Some d) exact is built = holds m promise e (exact.0 is) d built.0 built.1 built.2
unlocked m promise e b None exact is (inl none) = λ l. absurd (cc (sym (manifest_found m promise e l) ∙ none))
unlocked m promise e b None exact is (inr none) = λ l. none l.found.signature (layer_given m promise e l)

-- an entry that is not locked has none
pub not_unlocked : {V : Type 0} {H : V → Type 0} (m : PolicyContext V H) (promise : Option ResolverPromise) (e : LockEntry) (b : Bool) → IsTrue b ↔ Locked m promise e → b ≡ false → GivesDocuments m promise e None
not_unlocked m promise e b exact is = λ l. absurd (cc (sym is ∙ exact.1 l))
