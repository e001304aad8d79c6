-- A chain is its documents, and each blob is named.
use Rattle.std.specs.Prelude.{◌↔◌, ℕ, List, Option}
use Rattle.oci_names.specs.declared.reference.Reference.{Reference}
use Rattle.oci_manifests.specs.declared.promise.ResolverPromise.{ResolverPromise}
use Rattle.cosign_layers.specs.Satisfying.{CustomVerdict, policy_context}
use Rattle.cosign_layers.specs.declared.policy.PullPolicy.{PullPolicy}
use Rattle.cosign_parts.specs.Trust.{Trust}
use Rattle.cosign_chain.specs.Chain.{Chain}
use Rattle.cosign_chain.specs.declared.image.VerifiedImage.{VerifiedImage}
use Rattle.cosign_chain.specs.VerifiedDocuments.{Documents, documents_of, NamesBlobs}

-- for every trust, reference, media types, promise and image
abbrev pub ChainsAreDocumentsWithBlobs : {V : Type 0} {H : V → Type 0} → PullPolicy V H → CustomVerdict V H → Type 0
ChainsAreDocumentsWithBlobs policy own = (trust : Trust) (image : Reference) (accepted : List (List ℕ))
    (promise : Option ResolverPromise) (v : VerifiedImage)
    → Chain (policy_context policy own trust) image accepted promise v
    ↔ (Documents (policy_context policy own trust) image promise (documents_of v) × NamesBlobs accepted v)
