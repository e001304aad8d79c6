-- What was collected, as a pull of documents that stops before the documents: so the laws of that pull, of errors and of
-- prefixes, are its laws too.
use Rattle.std.proofs.Common.{◌≡◌, ℕ, List, Option, Some, None, Result, Ok, Err, IfOk, IfErr, refl}
use Rattle.oci_names.specs.declared.reference.Reference.{Reference}
use Rattle.oci_names.specs.Reference.{mirror_of, resolved_registry}
use Rattle.oci_auth.specs.declared.auth.RegistryAuth.{RegistryAuth}
use Rattle.oci_transport.specs.Link.{Link, Steady}
use Rattle.oci_transport.specs.declared.message.Exchange.{Exchange}
use Rattle.oci_protocol.specs.Proto.{Proto}
use Rattle.oci_protocol.specs.Runs.{Runs, Meets, Told}
use Rattle.oci_protocol.proofs.Conversations.{Extends-untold}
use Rattle.oci_protocol.proofs.Laws.{Meets-next, Meets-refused, Meets-memory}
use Rattle.oci_link.specs.declared.shelf.Shelf.{Shelf}
use Rattle.engine_rows.specs.Confined.{Within}
use Rattle.engine_rows.specs.Held.{pulling}
use Rattle.engine_terms.specs.Contexts.{Context}
use Rattle.engine_terms.specs.declared.settings.Settings.{Settings}
use Rattle.registry_calls.specs.Clients.{Kept}
use Rattle.registry_calls.specs.Error.{is_memory as of_memory, FaultCounted, NoSinkFault}
use Rattle.registry_calls.specs.declared.error.SigstoreError.{SigstoreError}
use Rattle.cosign_layers.specs.Satisfying.{PolicyContext}
use Rattle.cosign_chain.specs.declared.verified_documents.VerifiedDocuments.{VerifiedDocuments}
use Rattle.cosign_rows.specs.Causes.{Found}
use Rattle.cosign_rows.specs.Refusal.{is_memory, client_refusal}
use Rattle.cosign_rows.specs.Search.{searched}
use Rattle.cosign_rows.specs.Skips.{CountsFaults, HoldsNoMemoryNorSink}
use Rattle.cosign_rows.specs.Snapshots.{snapshot}
use Rattle.cosign_rows.specs.declared.found.TrustedLayers.{TrustedLayers}
use Rattle.cosign_rows.specs.declared.refusal.PullRefusal.{PullRefusal}
use Rattle.cosign_rows.specs.declared.refusal.PullRefusal.TheVariants as refusal
use Rattle.cosign_laws.specs.Settled.{IsSettled}
use Rattle.cosign_laws.specs.Shelves.{AnswersFrom}
use Rattle.cosign_laws.proofs.Counts.{silent}
use Rattle.cosign_laws.proofs.Faults.{search_no_memory, search_faults}
use Rattle.cosign_rows.specs.DocumentCauses.{DocumentsCause}
use Rattle.cosign_rows.specs.Rows.{documents_after, collected, documents_row}
use Rattle.cosign_laws.proofs.DocumentCauses.{documents_cause, collected_found}
use Rattle.cosign_laws.proofs.Pulls.{documents_fault, documents_no_sink, documents_confined, documents_plain, documents_settled}

-- ---- a run that succeeded, as over a transport that exposes nothing

none_some : {A P : Type 0} (a : A) → (let o : Option A = None in o) ≡ Some a → P
none_some a is = absurd (cc is)

steady : (m n : ℕ) → Steady (silent m) (silent n)
steady m n = record { steady = λ a is. none_some a is; quiet = λ a is never. none_some a is; exact = refl }

ok_meets : {A : Type 0} (p : Proto Kept (Result A SigstoreError)) (k l : Kept) (m n : ℕ) (c : List Exchange) (a : A) → Runs p k m c n l (Ok a) → Meets of_memory p (silent m) (silent n) k l (Ok a)
ok_meets p k l m n c a run = record { outcome = record { conversation = c; told = Extends-untold (silent m) (silent n) c refl (steady m n); runs = run; runs_by = λ t before by. none_some t by } }

-- ---- what was collected

-- what was collected, as a pull of documents that stops before the documents
abbrev pub as_documents : Result TrustedLayers PullRefusal → Result VerifiedDocuments PullRefusal
as_documents (Ok found) = Err refusal.WantOfMemory
as_documents (Err e) = Err e

module _ {V : Type 0} {H : V → Type 0} (policy_context : PolicyContext V H) (s : Context) (image : Reference) (a : RegistryAuth) where
  pub documents_of_collected : {old new : Link} {k l : Kept} (r : Result TrustedLayers PullRefusal) → Meets is_memory (collected policy_context s image a) old new k l r → Meets is_memory (documents_row policy_context s image a) old new k l (as_documents r)
  unfolding documents_row
  documents_of_collected {old} {new} {k} {l} (Ok found) met = Meets-next (λ found. documents_after policy_context s image a found) met (Meets-memory is_memory (documents_after policy_context s image a found) new l refusal.WantOfMemory refl)
  documents_of_collected (Err e) met = Meets-refused (λ found. documents_after policy_context s image a found) met

  -- ---- errors

  pub collected_cause : {old new : Link} {k l : Kept} (r : Result TrustedLayers PullRefusal) → Meets is_memory (collected policy_context s image a) old new k l r
      → IfErr r (λ e. Told (λ c. DocumentsCause policy_context s image a (snapshot k old.faults) c (snapshot l new.faults) e) old new)
  collected_cause (Ok found) met = tt
  collected_cause (Err e) met = documents_cause policy_context s image a (Err e) (documents_of_collected (Err e) met)

  pub collected_fault : {old new : Link} {k l : Kept} (r : Result TrustedLayers PullRefusal) → Meets is_memory (collected policy_context s image a) old new k l r → FaultCounted client_refusal old new r
  collected_fault (Ok found) met held = absurd held
  collected_fault (Err e) met held = documents_fault policy_context s image a (Err e) (documents_of_collected (Err e) met) held

  pub collected_no_sink : {old new : Link} {k l : Kept} (r : Result TrustedLayers PullRefusal) → Meets is_memory (collected policy_context s image a) old new k l r → NoSinkFault client_refusal r
  collected_no_sink (Ok found) met held = held
  collected_no_sink (Err e) met held = documents_no_sink policy_context s image a (Err e) (documents_of_collected (Err e) met) held

  -- ---- prefixes

  pub collected_confined : {old new : Link} {k l : Kept} (r : Result TrustedLayers PullRefusal) → mirror_of image ≡ None → Meets is_memory (collected policy_context s image a) old new k l r → Told (Within (pulling k.0 s image (Some a)) s.settings l.0) old new
  collected_confined r direct met = documents_confined policy_context s image a (as_documents r) direct (documents_of_collected r met)

  pub collected_plain : {old new : Link} {k l : Kept} (r : Result TrustedLayers PullRefusal) → Meets is_memory (collected policy_context s image a) old new k l r → k.1 ≡ None → l.1 ≡ None
  collected_plain r met none = documents_plain policy_context s image a (as_documents r) (documents_of_collected r met) none

  -- ---- what was found

  -- the search ran, and this is what it found
  pub collected_is : {old new : Link} {k l : Kept} (r : Result TrustedLayers PullRefusal) → Meets is_memory (collected policy_context s image a) old new k l r
      → IfOk r (λ found. Told (λ c. Found policy_context s image a (snapshot k old.faults) c (snapshot l new.faults) found) old new)
  collected_is {old} {new} {k} {l} (Ok found) met = let run = met.outcome in record { conversation = run.conversation; told = run.told; holds = collected_found policy_context s image a k l old.faults new.faults run.conversation found run.runs }
  collected_is (Err e) met = tt

  found_meets : {old new : Link} {k l : Kept} (found : TrustedLayers) → Meets is_memory (collected policy_context s image a) old new k l (Ok found) → Meets of_memory (searched policy_context.trust s image a) (silent old.faults) (silent new.faults) k l (Ok found)
  found_meets {old} {new} {k} {l} found met = let run = met.outcome in
      ok_meets (searched policy_context.trust s image a) k l old.faults new.faults run.conversation found (collected_found policy_context s image a k l old.faults new.faults run.conversation found run.runs)

  pub collected_no_memory : {old new : Link} {k l : Kept} (r : Result TrustedLayers PullRefusal) → Meets is_memory (collected policy_context s image a) old new k l r → IfOk r (λ found. HoldsNoMemoryNorSink found.skipped)
  collected_no_memory (Ok found) met = search_no_memory policy_context.trust s image a (Ok found) (found_meets found met)
  collected_no_memory (Err e) met = tt

  pub collected_faults : {old new : Link} {k l : Kept} (r : Result TrustedLayers PullRefusal) → Meets is_memory (collected policy_context s image a) old new k l r → IfOk r (λ found. CountsFaults old.faults new.faults found.skipped)
  collected_faults (Ok found) met = search_faults policy_context.trust s image a (Ok found) (found_meets found met)
  collected_faults (Err e) met = tt

-- after a search over a shelf, whatever the result, a client is settled for each image of the registry for which it was
pub collected_settled : {V : Type 0} {H : V → Type 0} (policy_context : PolicyContext V H) (s : Settings) (image other : Reference) (a : RegistryAuth) (shelf : Shelf) → resolved_registry other ≡ resolved_registry image → (moment : ℕ) {old new : Link} {k l : Kept} (r : Result TrustedLayers PullRefusal)
    → AnswersFrom shelf old → IsSettled s image a shelf k → IsSettled s other a shelf k → Meets is_memory (collected policy_context (record { settings = s; moment = moment }) image a) old new k l r → IsSettled s other a shelf l
collected_settled policy_context s image other a shelf at_one moment r from own also met = documents_settled policy_context s image other a shelf at_one moment (as_documents r) from own also (documents_of_collected policy_context (record { settings = s; moment = moment }) image a r met)
