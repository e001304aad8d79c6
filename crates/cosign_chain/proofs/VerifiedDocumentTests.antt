-- The tests of documents decide that the first document is named and leads to the manifest: they are those of an image,
-- whatever its blobs are.
use Rattle.std.proofs.Common.{◌≡◌, ◌⊎◌, inl, inr, ◌↔◌, ◌&&◌, ℕ, Bool, IsTrue, List, [], Option, Some, None, Result, Ok, Err, IfOk, refl, sym, ◌∙◌}
use Rattle.std.specs.Bool.{Decides}
use Rattle.std.specs.declared.alloc.AllocError.{AllocError}
use Rattle.oci_names.specs.declared.reference.Reference.{Reference}
use Rattle.oci_names.specs.Reference.{digest_of}
use Rattle.oci_digests.specs.Names.{Names, names}
use Rattle.oci_digests.proofs.Equal.{named}
use Rattle.oci_manifests.specs.declared.blob.Config.{Config}
use Rattle.oci_manifests.specs.declared.document.OciManifest.{OciManifest}
use Rattle.oci_manifests.specs.declared.document.OciManifest.TheVariants.{Image, ImageIndex}
use Rattle.oci_manifests.specs.declared.promise.ResolverPromise.{ResolverPromise}
use Rattle.cosign_chain.specs.Chain.{FirstIsManifest as ImageFirst, FirstIsIndex as ImageIndexed, LeadsToManifest as ImageLeads}
use Rattle.cosign_chain.specs.Documents.{document_in, leads as image_leads}
use Rattle.cosign_chain.specs.Links.{named_by}
use Rattle.cosign_chain.specs.declared.image.VerifiedImage.{VerifiedImage}
use Rattle.cosign_chain.proofs.DocumentTests.{led}
use Rattle.cosign_chain.proofs.LinkTests.{both, more, some_same}
use Rattle.cosign_chain.specs.VerifiedDocuments.{FirstIsManifest, FirstIsIndex, LeadsToManifest}
use Rattle.cosign_chain.specs.Tests.{AreNamed, is_named, leads}
use Rattle.cosign_chain.specs.declared.verified_documents.VerifiedDocuments.{VerifiedDocuments}

-- ---- names

asked : (o : Option (List ℕ)) (bytes : List ℕ) → Decides (named_by o bytes) ((digest : List ℕ) → o ≡ Some digest → Names digest bytes)
asked None bytes = (λ h digest is. absurd (cc is), λ h. refl)
asked (Some own) bytes = more (λ n digest is. let same : own ≡ digest = some_same own digest is in rw (← same) n) (λ h. h own refl) (named own bytes)

pub are_named : (image : Reference) (d : VerifiedDocuments) (result : Bool) → result ≡ is_named image d → IsTrue result ↔ AreNamed image d
are_named image d result is = rw is (both (names d.digest d.first) (named_by (digest_of image) d.first) (named d.digest d.first) (asked (digest_of image) d.first))

-- ---- an image with these documents

no_config : Config
no_config = record { content = []; media_type = []; annotations = None }

abbrev image_of : VerifiedDocuments → VerifiedImage
image_of d = record {
  digest = d.digest;
  first = d.first;
  manifest_bytes = d.manifest_bytes;
  manifest = d.manifest;
  manifest_digest = d.manifest_digest;
  list_digest = d.list_digest;
  config = no_config;
  layers = [];
  signature = d.signature;
}

same_leads : (promise : Option ResolverPromise) (d : VerifiedDocuments) (o : Option OciManifest) → leads promise d o ≡ image_leads promise (image_of d) o
same_leads promise d None = refl
same_leads promise d (Some (Image manifest)) = refl
same_leads None d (Some (ImageIndex index)) = refl
same_leads (Some promise) d (Some (ImageIndex index)) = refl

first_to : (d : VerifiedDocuments) → ImageFirst (image_of d) → FirstIsManifest d
first_to d f = record { reads = f.reads; bytes = f.bytes; digest = f.digest; no_list = f.no_list }

first_from : (d : VerifiedDocuments) → FirstIsManifest d → ImageFirst (image_of d)
first_from d f = record { reads = f.reads; bytes = f.bytes; digest = f.digest; no_list = f.no_list }

index_to : (promise : ResolverPromise) (d : VerifiedDocuments) → ImageIndexed promise (image_of d) → FirstIsIndex promise d
index_to promise d f = record { index = f.index; indexed = f.indexed; picked = f.picked; named = f.named; reads = f.reads; list = f.list }

index_from : (promise : ResolverPromise) (d : VerifiedDocuments) → FirstIsIndex promise d → ImageIndexed promise (image_of d)
index_from promise d f = record { index = f.index; indexed = f.indexed; picked = f.picked; named = f.named; reads = f.reads; list = f.list }

leads_to : (promise : Option ResolverPromise) (d : VerifiedDocuments) → ImageLeads promise (image_of d) → LeadsToManifest promise d
leads_to None d f = first_to d f
leads_to (Some promise) d (inl f) = inl (first_to d f)
leads_to (Some promise) d (inr f) = inr (index_to promise d f)

leads_from : (promise : Option ResolverPromise) (d : VerifiedDocuments) → LeadsToManifest promise d → ImageLeads promise (image_of d)
leads_from None d f = first_from d f
leads_from (Some promise) d (inl f) = inl (first_from d f)
leads_from (Some promise) d (inr f) = inr (index_from promise d f)

pub leads_decide : (promise : Option ResolverPromise) (d : VerifiedDocuments) (r : Result Bool AllocError)
    → IfOk r (λ b. b ≡ leads promise d (document_in d.first)) → IfOk r (λ b. IsTrue b ↔ LeadsToManifest promise d)
leads_decide promise d (Ok b) is =
    let decided : IsTrue b ↔ ImageLeads promise (image_of d) = led promise (image_of d) (let r : Result Bool AllocError = Ok b in r) (is ∙ same_leads promise d (document_in d.first)) in
    (λ h. leads_to promise d (decided.0 h), λ l. decided.1 (leads_from promise d l))
leads_decide promise d (Err e) is = is
