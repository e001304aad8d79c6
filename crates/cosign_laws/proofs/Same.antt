-- A pull of the image decides the same documents over the same conversation.
use Rattle.std.proofs.Common.{◌≡◌, ℕ, List, Result, Ok, Err, IfOk, sym, subst, ap}
use Rattle.oci_names.specs.declared.reference.Reference.{Reference}
use Rattle.oci_auth.specs.declared.auth.RegistryAuth.{RegistryAuth}
use Rattle.oci_manifests.specs.declared.blob.Config.{Config}
use Rattle.oci_manifests.specs.declared.blob.ImageLayer.{ImageLayer}
use Rattle.oci_transport.specs.Link.{Link}
use Rattle.oci_transport.specs.declared.message.Exchange.{Exchange}
use Rattle.oci_protocol.specs.Proto.{Proto, Done}
use Rattle.oci_protocol.specs.Runs.{Runs, Meets, Told}
use Rattle.oci_protocol.proofs.Laws.{Meets-next}
use Rattle.oci_protocol.proofs.Parts.{Runs-done, Runs-ok-parts}
use Rattle.engine_terms.specs.Contexts.{Context}
use Rattle.registry_calls.specs.Clients.{Kept}
use Rattle.cosign_layers.specs.Satisfying.{PolicyContext}
use Rattle.cosign_chain.specs.declared.image.VerifiedImage.{VerifiedImage}
use Rattle.cosign_chain.specs.VerifiedDocuments.{documents_of}
use Rattle.cosign_chain.specs.declared.verified_documents.VerifiedDocuments.{VerifiedDocuments}
use Rattle.cosign_rows.specs.Image.{blobs_row}
use Rattle.cosign_rows.specs.References.{digest_reference}
use Rattle.cosign_rows.specs.Refusal.{is_memory}
use Rattle.cosign_rows.specs.Snapshots.{snapshot}
use Rattle.cosign_rows.specs.Verified.{part_of, verified}
use Rattle.cosign_rows.specs.declared.refusal.PullRefusal.{PullRefusal}
use Rattle.cosign_rows.specs.Blobs.{with_blobs, blobs_after}
use Rattle.cosign_rows.specs.Rows.{documents_row}
use Rattle.cosign_rows.specs.Same.{BeginsWithDocuments, GoesOnAsPull, SameAsPull}
use Rattle.cosign_rows.proofs.Blobs.{pull_is}

-- the blobs change none of the documents
same_documents : (s : Context) (image : Reference) (accepted : List (List ℕ)) (d : VerifiedDocuments) (k l : Kept) (m n : ℕ) (c : List Exchange) (v : VerifiedImage) → Runs (blobs_after s image accepted d) k m c n l (Ok v) → d ≡ documents_of v
same_documents s image accepted d k l m n c v run =
    let parts = Runs-ok-parts (part_of (blobs_row s (digest_reference image d.digest) accepted d.manifest)) (λ blobs. Done (Ok (with_blobs d blobs))) k m c n l v run in
    let same = Runs-done (Ok (with_blobs d parts.answer)) parts.between parts.count parts.second n l (Ok v) parts.runs_second in
    image_same parts.answer v same.2
  where
    image_same : (blobs : Config × List ImageLayer) (v : VerifiedImage) → (let r : Result VerifiedImage PullRefusal = Ok (with_blobs d blobs) in r) ≡ Ok v → d ≡ documents_of v
    image_same blobs v is = let same : with_blobs d blobs ≡ v = cc is in ap documents_of same

module _ {V : Type 0} {H : V → Type 0} (policy_context : PolicyContext V H) (s : Context) (image : Reference) (a : RegistryAuth) (accepted : List (List ℕ)) where
  -- a run that returned an image begins with one that returned its documents
  pub run_begins : (k l : Kept) (m n : ℕ) (c : List Exchange) (v : VerifiedImage) → Runs (verified policy_context s image a accepted) k m c n l (Ok v) → BeginsWithDocuments policy_context s image a (snapshot k m) c v
  run_begins k l m n c v run =
      let parts = Runs-ok-parts (documents_row policy_context s image a) (λ d. blobs_after s image accepted d) k m c n l v
      (subst (λ (p : Proto Kept (Result VerifiedImage PullRefusal)). Runs p k m c n l (Ok v)) (pull_is policy_context s image a accepted) run) in
      record {
        documents = parts.first;
        blobs = parts.second;
        split = parts.joined;
        between = snapshot parts.between parts.count;
        ran = subst (λ (d : VerifiedDocuments). Runs (documents_row policy_context s image a) k m parts.first parts.count parts.between (Ok d)) (same_documents s image accepted parts.answer parts.between l parts.count n parts.second v parts.runs_second) parts.runs_first;
      }

  -- the same for a call
  pub pull_begins : {old new : Link} {k l : Kept} (r : Result VerifiedImage PullRefusal) → Meets is_memory (verified policy_context s image a accepted) old new k l r → IfOk r (λ v. Told (λ c. BeginsWithDocuments policy_context s image a (snapshot k old.faults) c v) old new)
  pull_begins {old} {new} {k} {l} (Ok v) met = let run = met.outcome in record { conversation = run.conversation; told = run.told; holds = run_begins k l old.faults new.faults run.conversation v run.runs }
  pull_begins (Err e) met = tt

-- a pull of documents, and the pull of the image from there
module _ {V : Type 0} {H : V → Type 0} (policy_context : PolicyContext V H) (s : Context) (image : Reference) (a : RegistryAuth) where
  goes_on : {old new : Link} {k l : Kept} (d : VerifiedDocuments) → Meets is_memory (documents_row policy_context s image a) old new k l (Ok d) → (accepted : List (List ℕ)) (end : Link) (e : Kept) (q : Result VerifiedImage PullRefusal)
      → Meets is_memory (blobs_after s image accepted d) new end l e q → GoesOnAsPull policy_context s image a accepted old end k e d q
  goes_on {old} {new} {k} {l} d met accepted end e q blobs = record {
    pulled = subst (λ (p : Proto Kept (Result VerifiedImage PullRefusal)). Meets is_memory p old end k e q) (sym (pull_is policy_context s image a accepted)) (Meets-next (λ d. blobs_after s image accepted d) met blobs);
    same = by_result q blobs;
  } where
    by_result : (q : Result VerifiedImage PullRefusal) → Meets is_memory (blobs_after s image accepted d) new end l e q → IfOk q (λ v. d ≡ documents_of v)
    by_result (Ok v) blobs = let run = blobs.outcome in same_documents s image accepted d l e new.faults end.faults run.conversation v run.runs
    by_result (Err x) blobs = tt

  pub same_as_pull : {old new : Link} {k l : Kept} (r : Result VerifiedDocuments PullRefusal) → Meets is_memory (documents_row policy_context s image a) old new k l r → SameAsPull policy_context s image a old new k l r
  same_as_pull {old} {new} {k} {l} r met = record { begins = λ accepted end e v pulled. pull_begins policy_context s image a accepted (Ok v) pulled; goes_on = by_result r met } where
    by_result : (r : Result VerifiedDocuments PullRefusal) → Meets is_memory (documents_row policy_context s image a) old new k l r → IfOk r (λ d. (accepted : List (List ℕ)) (end : Link) (e : Kept) (q : Result VerifiedImage PullRefusal) → Meets is_memory (blobs_after s image accepted d) new end l e q → GoesOnAsPull policy_context s image a accepted old end k e d q)
    by_result (Ok d) met = goes_on d met
    by_result (Err x) met = tt
