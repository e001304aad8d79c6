-- A pull of documents as a pull of the image: an error of it is one of the pull, and documents that it returns are a
-- prefix of the pull. So the laws of the pull, of errors and of prefixes, are its laws too.
use Rattle.std.proofs.Common.{◌≡◌, ℕ, List, [], Some, None, Result, Ok, Err, IfErr, refl, sym, subst}
use Rattle.oci_names.specs.declared.reference.Reference.{Reference}
use Rattle.oci_names.specs.Reference.{mirror_of, resolved_registry}
use Rattle.oci_auth.specs.declared.auth.RegistryAuth.{RegistryAuth}
use Rattle.oci_transport.specs.Link.{Link}
use Rattle.oci_protocol.specs.Proto.{Proto, ◌>>=◌}
use Rattle.oci_protocol.specs.Runs.{Meets, Told}
use Rattle.oci_protocol.proofs.Laws.{Meets-next, Meets-refused, Meets-memory}
use Rattle.oci_link.specs.declared.shelf.Shelf.{Shelf}
use Rattle.engine_rows.specs.Confined.{Within}
use Rattle.engine_rows.specs.Held.{pulling}
use Rattle.engine_terms.specs.Contexts.{Context}
use Rattle.engine_terms.specs.declared.settings.Settings.{Settings}
use Rattle.registry_calls.specs.Clients.{Kept}
use Rattle.registry_calls.specs.Error.{FaultCounted, NoSinkFault}
use Rattle.cosign_layers.specs.Satisfying.{PolicyContext}
use Rattle.cosign_chain.specs.declared.image.VerifiedImage.{VerifiedImage}
use Rattle.cosign_chain.specs.declared.verified_documents.VerifiedDocuments.{VerifiedDocuments}
use Rattle.cosign_rows.specs.Refusal.{is_memory, client_refusal}
use Rattle.cosign_rows.specs.Skips.{CountsFaults, HoldsNoMemoryNorSink, OnSkipped}
use Rattle.cosign_rows.specs.Verified.{verified}
use Rattle.cosign_rows.specs.declared.refusal.PullRefusal.{PullRefusal}
use Rattle.cosign_rows.specs.declared.refusal.PullRefusal.TheVariants as refusal
use Rattle.cosign_laws.specs.Settled.{IsSettled}
use Rattle.cosign_laws.specs.Shelves.{AnswersFrom, OkOrMemory, WideShelf}
use Rattle.cosign_laws.proofs.Confinement.{pull_confined}
use Rattle.cosign_laws.proofs.Faults.{pull_no_memory, pull_faults}
use Rattle.cosign_laws.proofs.PlainClients.{pull_plain}
use Rattle.cosign_laws.proofs.Refusals.{pull_fault, pull_no_sink}
use Rattle.cosign_laws.proofs.ShelfPulls.{completed_wide, settled_after}
use Rattle.cosign_rows.specs.Blobs.{blobs_after}
use Rattle.cosign_rows.specs.Rows.{documents_row}
use Rattle.cosign_rows.proofs.Blobs.{pull_is}

-- documents, as a pull that stops before its first blob
abbrev pub as_pull : Result VerifiedDocuments PullRefusal → Result VerifiedImage PullRefusal
as_pull (Ok d) = Err refusal.WantOfMemory
as_pull (Err e) = Err e

module _ {V : Type 0} {H : V → Type 0} (policy_context : PolicyContext V H) (s : Context) (image : Reference) (a : RegistryAuth) (accepted : List (List ℕ)) where
  abbrev whole : Proto Kept (Result VerifiedImage PullRefusal)
  whole = documents_row policy_context s image a >>= (λ d. blobs_after s image accepted d)

  pub pull_of : {old new : Link} {k l : Kept} (r : Result VerifiedDocuments PullRefusal) → Meets is_memory (documents_row policy_context s image a) old new k l r → Meets is_memory (verified policy_context s image a accepted) old new k l (as_pull r)
  pull_of {old} {new} {k} {l} r met = subst (λ (p : Proto Kept (Result VerifiedImage PullRefusal)). Meets is_memory p old new k l (as_pull r)) (sym (pull_is policy_context s image a accepted)) (as_whole r met) where
    as_whole : (r : Result VerifiedDocuments PullRefusal) → Meets is_memory (documents_row policy_context s image a) old new k l r → Meets is_memory whole old new k l (as_pull r)
    as_whole (Ok d) met = Meets-next (λ d. blobs_after s image accepted d) met (Meets-memory is_memory (blobs_after s image accepted d) new l refusal.WantOfMemory refl)
    as_whole (Err e) met = Meets-refused (λ d. blobs_after s image accepted d) met

-- ---- errors

module _ {V : Type 0} {H : V → Type 0} (policy_context : PolicyContext V H) (s : Context) (image : Reference) (a : RegistryAuth) where
  pub documents_fault : {old new : Link} {k l : Kept} (r : Result VerifiedDocuments PullRefusal) → Meets is_memory (documents_row policy_context s image a) old new k l r → FaultCounted client_refusal old new r
  documents_fault (Ok d) met held = absurd held
  documents_fault (Err e) met held = pull_fault policy_context s image a [] (Err e) (pull_of policy_context s image a [] (Err e) met) held

  pub documents_no_sink : {old new : Link} {k l : Kept} (r : Result VerifiedDocuments PullRefusal) → Meets is_memory (documents_row policy_context s image a) old new k l r → NoSinkFault client_refusal r
  documents_no_sink (Ok d) met held = held
  documents_no_sink (Err e) met held = pull_no_sink policy_context s image a [] (Err e) (pull_of policy_context s image a [] (Err e) met) held

  pub documents_no_memory : {old new : Link} {k l : Kept} (r : Result VerifiedDocuments PullRefusal) → Meets is_memory (documents_row policy_context s image a) old new k l r → IfErr r (λ e. OnSkipped HoldsNoMemoryNorSink e)
  documents_no_memory (Ok d) met = tt
  documents_no_memory (Err e) met = pull_no_memory policy_context s image a [] (Err e) (pull_of policy_context s image a [] (Err e) met)

  pub documents_faults : {old new : Link} {k l : Kept} (r : Result VerifiedDocuments PullRefusal) → Meets is_memory (documents_row policy_context s image a) old new k l r → IfErr r (λ e. OnSkipped (CountsFaults old.faults new.faults) e)
  documents_faults (Ok d) met = tt
  documents_faults (Err e) met = pull_faults policy_context s image a [] (Err e) (pull_of policy_context s image a [] (Err e) met)

  -- ---- prefixes

  -- where credentials and tokens were sent
  pub documents_confined : {old new : Link} {k l : Kept} (r : Result VerifiedDocuments PullRefusal) → mirror_of image ≡ None → Meets is_memory (documents_row policy_context s image a) old new k l r → Told (Within (pulling k.0 s image (Some a)) s.settings l.0) old new
  documents_confined r direct met = pull_confined policy_context s image a [] (as_pull r) direct (pull_of policy_context s image a [] r met)

  -- a client that caches no responses still caches none
  pub documents_plain : {old new : Link} {k l : Kept} (r : Result VerifiedDocuments PullRefusal) → Meets is_memory (documents_row policy_context s image a) old new k l r → k.1 ≡ None → l.1 ≡ None
  documents_plain r met none = pull_plain policy_context s image a [] (as_pull r) (pull_of policy_context s image a [] r met) none

-- ---- over a registry in memory

module _ {V : Type 0} {H : V → Type 0} (policy_context : PolicyContext V H) (s : Settings) (image : Reference) (a : RegistryAuth) (accepted : List (List ℕ)) (shelf : Shelf) (moment : ℕ) where
  abbrev ctx : Context
  ctx = record { settings = s; moment = moment }

  -- over a wide shelf a settled client gets the documents, or memory runs out
  pub documents_completed : WideShelf policy_context s image a accepted shelf → {old new : Link} {k l : Kept} (r : Result VerifiedDocuments PullRefusal) → AnswersFrom shelf old → IsSettled s image a shelf k → Meets is_memory (documents_row policy_context ctx image a) old new k l r → OkOrMemory r
  documents_completed wide (Ok d) from settled met = tt
  documents_completed wide (Err e) from settled met = completed_wide policy_context s image a accepted shelf wide.has moment wide.signed (Err e) from settled (pull_of policy_context ctx image a accepted (Err e) met)

-- after a pull of documents over a shelf, whatever the result, a client is settled for each image of the registry for
-- which it was
pub documents_settled : {V : Type 0} {H : V → Type 0} (policy_context : PolicyContext V H) (s : Settings) (image other : Reference) (a : RegistryAuth) (shelf : Shelf) → resolved_registry other ≡ resolved_registry image → (moment : ℕ) {old new : Link} {k l : Kept} (r : Result VerifiedDocuments PullRefusal)
    → AnswersFrom shelf old → IsSettled s image a shelf k → IsSettled s other a shelf k → Meets is_memory (documents_row policy_context (record { settings = s; moment = moment }) image a) old new k l r → IsSettled s other a shelf l
documents_settled policy_context s image other a shelf at_one moment r from own also met = settled_after policy_context s image other a [] shelf at_one moment (as_pull r) from own also (pull_of policy_context (record { settings = s; moment = moment }) image a [] r met)
