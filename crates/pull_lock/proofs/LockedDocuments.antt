-- The entry of documents alone is locked.
use Rattle.std.proofs.Common.{◌≡◌, ◌⊎◌, inl, inr, ◌<◌, ℕ, true, List, [], Contains, length, Option, Some, None, refl}
use Rattle.std.specs.List.{All}
use Rattle.oci_names.specs.declared.reference.Reference.{Reference}
use Rattle.oci_names.specs.Reference.{reads_back, whole_text}
use Rattle.oci_manifests.specs.declared.promise.ResolverPromise.{ResolverPromise}
use Rattle.cosign_layers.specs.Satisfying.{PolicyContext}
use Rattle.cosign_chain.specs.Chain.{FirstIsManifest as ImageFirst, FirstIsIndex as ImageIndexed, LeadsToManifest as ImageLeads}
use Rattle.cosign_chain.specs.declared.image.VerifiedImage.{VerifiedImage}
use Rattle.cosign_chain.specs.VerifiedDocuments.{FirstIsManifest, FirstIsIndex, LeadsToManifest, Documents}
use Rattle.cosign_chain.specs.declared.verified_documents.VerifiedDocuments.{VerifiedDocuments}
use Rattle.pull_lock.specs.Locked.{Locked}
use Rattle.pull_lock.specs.LockedDocuments.{documents_entry}

-- an image with these documents, whose blobs play no role
abbrev as_image : VerifiedDocuments → VerifiedImage
as_image d = record {
  digest = d.digest;
  first = d.first;
  manifest_bytes = d.manifest_bytes;
  manifest = d.manifest;
  manifest_digest = d.manifest_digest;
  list_digest = d.list_digest;
  config = record { content = []; media_type = []; annotations = None };
  layers = [];
  signature = d.signature;
}

first_as : (d : VerifiedDocuments) → FirstIsManifest d → ImageFirst (as_image d)
first_as d f = record { reads = f.reads; bytes = f.bytes; digest = f.digest; no_list = f.no_list }

index_as : (promise : ResolverPromise) (d : VerifiedDocuments) → FirstIsIndex promise d → ImageIndexed promise (as_image d)
index_as promise d f = record { index = f.index; indexed = f.indexed; picked = f.picked; named = f.named; reads = f.reads; list = f.list }

leads_as : (promise : Option ResolverPromise) (d : VerifiedDocuments) → LeadsToManifest promise d → ImageLeads promise (as_image d)
leads_as None d f = first_as d f
leads_as (Some promise) d (inl f) = inl (first_as d f)
leads_as (Some promise) d (inr f) = inr (index_as promise d f)

pub documents_locked : {V : Type 0} {H : V → Type 0} (m : PolicyContext V H) (image : Reference) (accepted : List (List ℕ)) (promise : Option ResolverPromise) (d : VerifiedDocuments)
    → Documents m image promise d → reads_back image ≡ true → 0 < length d.manifest.layers → All (λ x. Contains accepted x.media_type) d.manifest.layers
    → Locked m promise (documents_entry (whole_text image) accepted d)
documents_locked m image accepted promise d holds reads some allowed = record {
  image = image;
  whole = refl;
  reads = reads;
  found = as_image d;
  is = refl;
  named = holds.named;
  asked = holds.asked;
  manifest = leads_as promise d holds.manifest;
  some = some;
  accepted = allowed;
  signature = holds.signature;
}
