-- An image has its chain if and only if its documents have theirs and the manifest names each blob.
use Rattle.std.proofs.Common.{◌≡◌, ◌⊎◌, inl, inr, ◌↔◌, ℕ, List, Option, Some, None}
use Rattle.oci_names.specs.declared.reference.Reference.{Reference}
use Rattle.oci_manifests.specs.declared.promise.ResolverPromise.{ResolverPromise}
use Rattle.cosign_layers.specs.Satisfying.{PolicyContext}
use Rattle.cosign_chain.specs.Chain.{FirstIsManifest as ImageFirst, FirstIsIndex as ImageIndexed, LeadsToManifest as ImageLeads, Chain}
use Rattle.cosign_chain.specs.declared.image.VerifiedImage.{VerifiedImage}
use Rattle.cosign_chain.specs.VerifiedDocuments.{FirstIsManifest, FirstIsIndex, LeadsToManifest, Documents, documents_of, NamesBlobs}

first_to : (v : VerifiedImage) → ImageFirst v → FirstIsManifest (documents_of v)
first_to v f = record { reads = f.reads; bytes = f.bytes; digest = f.digest; no_list = f.no_list }

first_from : (v : VerifiedImage) → FirstIsManifest (documents_of v) → ImageFirst v
first_from v f = record { reads = f.reads; bytes = f.bytes; digest = f.digest; no_list = f.no_list }

index_to : (promise : ResolverPromise) (v : VerifiedImage) → ImageIndexed promise v → FirstIsIndex promise (documents_of v)
index_to promise v f = record { index = f.index; indexed = f.indexed; picked = f.picked; named = f.named; reads = f.reads; list = f.list }

index_from : (promise : ResolverPromise) (v : VerifiedImage) → FirstIsIndex promise (documents_of v) → ImageIndexed promise v
index_from promise v f = record { index = f.index; indexed = f.indexed; picked = f.picked; named = f.named; reads = f.reads; list = f.list }

leads_to : (promise : Option ResolverPromise) (v : VerifiedImage) → ImageLeads promise v → LeadsToManifest promise (documents_of v)
leads_to None v f = first_to v f
leads_to (Some promise) v (inl f) = inl (first_to v f)
leads_to (Some promise) v (inr f) = inr (index_to promise v f)

leads_from : (promise : Option ResolverPromise) (v : VerifiedImage) → LeadsToManifest promise (documents_of v) → ImageLeads promise v
leads_from None v f = first_from v f
leads_from (Some promise) v (inl f) = inl (first_from v f)
leads_from (Some promise) v (inr f) = inr (index_from promise v f)

-- the documents of a chain
pub chain_documents : {V : Type 0} {H : V → Type 0} (policy_context : PolicyContext V H) (image : Reference) (accepted : List (List ℕ)) (promise : Option ResolverPromise) (v : VerifiedImage)
    → Chain policy_context image accepted promise v → Documents policy_context image promise (documents_of v)
chain_documents policy_context image accepted promise v chain = record { named = chain.named; asked = chain.asked; manifest = leads_to promise v chain.manifest; signature = chain.signature }

-- documents with blobs that the manifest names
pub blobs_chain : {V : Type 0} {H : V → Type 0} (policy_context : PolicyContext V H) (image : Reference) (accepted : List (List ℕ)) (promise : Option ResolverPromise) (v : VerifiedImage)
    → Documents policy_context image promise (documents_of v) → NamesBlobs accepted v → Chain policy_context image accepted promise v
blobs_chain policy_context image accepted promise v d blobs = record {
  named = d.named;
  asked = d.asked;
  manifest = leads_from promise v d.manifest;
  config = blobs.config;
  some = blobs.some;
  layers = blobs.layers;
  signature = d.signature;
}

pub chains : {V : Type 0} {H : V → Type 0} (policy_context : PolicyContext V H) (image : Reference) (accepted : List (List ℕ)) (promise : Option ResolverPromise) (v : VerifiedImage)
    → Chain policy_context image accepted promise v ↔ (Documents policy_context image promise (documents_of v) × NamesBlobs accepted v)
chains policy_context image accepted promise v = (
  λ chain. (chain_documents policy_context image accepted promise v chain, record { config = chain.config; some = chain.some; layers = chain.layers }),
  λ h. blobs_chain policy_context image accepted promise v h.0 h.1,
)
