-- Over the same conversation the pull of an image decides the same documents.
use Rattle.std.specs.Prelude.{◌≡◌, ℕ, List, ◌++◌, Result, Ok, IfOk}
use Rattle.oci_names.specs.declared.reference.Reference.{Reference}
use Rattle.oci_auth.specs.declared.auth.RegistryAuth.{RegistryAuth}
use Rattle.oci_transport.specs.Link.{Link}
use Rattle.oci_transport.specs.declared.message.Exchange.{Exchange}
use Rattle.oci_protocol.specs.Runs.{Runs, Meets, Told}
use Rattle.engine_terms.specs.Contexts.{Context}
use Rattle.cosign_layers.specs.Satisfying.{PolicyContext}
use Rattle.cosign_chain.specs.declared.image.VerifiedImage.{VerifiedImage}
use Rattle.cosign_chain.specs.VerifiedDocuments.{documents_of}
use Rattle.cosign_chain.specs.declared.verified_documents.VerifiedDocuments.{VerifiedDocuments}
use Rattle.registry_calls.specs.Clients.{Kept}
use Rattle.cosign_rows.specs.Refusal.{is_memory}
use Rattle.cosign_rows.specs.Snapshots.{Snapshot, snapshot}
use Rattle.cosign_rows.specs.Verified.{verified}
use Rattle.cosign_rows.specs.declared.refusal.PullRefusal.{PullRefusal}
use Rattle.cosign_rows.specs.Blobs.{blobs_after}
use Rattle.cosign_rows.specs.Rows.{documents_row}

-- a run that returned this image begins with a complete run of the documents' row, which returned its documents
pub record BeginsWithDocuments {V : Type 0} {H : V → Type 0} (policy_context : PolicyContext V H) (s : Context)
    (image : Reference) (a : RegistryAuth) (start : Snapshot) (c : List Exchange) (v : VerifiedImage) : Type 0 where
  pub documents : List Exchange
  pub blobs : List Exchange
  pub split : c ≡ documents ++ blobs
  pub between : Snapshot
  pub ran : Runs (documents_row policy_context s image a) start.kept start.faults documents between.faults between.kept
      (Ok (documents_of v))

-- Whoever goes on from these documents with the blobs that they name has pulled the image, with that result, and an
-- image has these documents.
pub record GoesOnAsPull {V : Type 0} {H : V → Type 0} (policy_context : PolicyContext V H) (s : Context)
    (image : Reference) (a : RegistryAuth) (accepted : List (List ℕ)) (old end : Link) (k e : Kept)
    (d : VerifiedDocuments) (r : Result VerifiedImage PullRefusal) : Type 0 where
  pub pulled : Meets is_memory (verified policy_context s image a accepted) old end k e r
  pub same : IfOk r (λ v. d ≡ documents_of v)

-- Of a call that pulled documents from client state k: a pull of the image from there over the same transport decides
-- the same documents. If it returns an image, it began with a complete run that returned the image's documents; and
-- the call becomes such a pull if the blobs are pulled after it.
pub record SameAsPull {V : Type 0} {H : V → Type 0} (policy_context : PolicyContext V H) (s : Context)
    (image : Reference) (a : RegistryAuth) (old new : Link) (k l : Kept)
    (r : Result VerifiedDocuments PullRefusal) : Type 0 where
  pub begins : (accepted : List (List ℕ)) (end : Link) (e : Kept) (v : VerifiedImage)
      → Meets is_memory (verified policy_context s image a accepted) old end k e (Ok v)
      → Told (λ c. BeginsWithDocuments policy_context s image a (snapshot k old.faults) c v) old end
  pub goes_on : IfOk r (λ d. (accepted : List (List ℕ)) (end : Link) (e : Kept) (q : Result VerifiedImage PullRefusal)
      → Meets is_memory (blobs_after s image accepted d) new end l e q
      → GoesOnAsPull policy_context s image a accepted old end k e d q)
