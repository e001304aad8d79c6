-- A client that caches no responses caches none after the second part, also if memory ran out.
use Rattle.std.specs.Prelude.{MatchBool}
use Rattle.std.proofs.Common.{◌≡◌, ℕ, Bool, true, false, List, [], ◌∷◌, ◌++◌, None, Result, Ok, Err}
use Rattle.oci_names.specs.Reference.{whole_text}
use Rattle.oci_names.specs.declared.reference.Reference.{Reference}
use Rattle.oci_auth.specs.declared.auth.RegistryAuth.{RegistryAuth}
use Rattle.oci_auth.specs.declared.auth_state.AuthState.{AuthState}
use Rattle.oci_manifests.specs.declared.index_entry.ImageIndexEntry.{ImageIndexEntry}
use Rattle.oci_manifests.specs.declared.document.OciManifest.{OciManifest}
use Rattle.oci_manifests.specs.declared.document.OciManifest.TheVariants.{Image, ImageIndex}
use Rattle.oci_transport.specs.Link.{Link}
use Rattle.oci_transport.specs.declared.message.Exchange.{Exchange}
use Rattle.oci_transport.specs.declared.message.Request.{Request}
use Rattle.oci_protocol.specs.Lift.{lifted}
use Rattle.oci_protocol.specs.Proto.{Proto, Done, Ask, Recall, Keep, Consult, bind, unless_refused, ◌>>=◌}
use Rattle.oci_protocol.specs.Runs.{Performs, PerformsPrefix, Outcome, Meets}
use Rattle.oci_protocol.specs.Safe.{Safe}
use Rattle.oci_protocol.proofs.SafeEnds.{Runs-ends-safe, RunPrefix-kept}
use Rattle.oci_protocol.proofs.Safety.{Safe-bind}
use Rattle.engine_answers.specs.Index.{entry_found, entry_reference}
use Rattle.engine_requests.specs.Requests.{manifest_types}
use Rattle.engine_terms.specs.Contexts.{Context}
use Rattle.registry_calls.specs.Calls.{document_made, document_call}
use Rattle.registry_calls.specs.Clients.{Kept, Row}
use Rattle.registry_calls.specs.ErrorContext.{with_error_context}
use Rattle.registry_calls.specs.declared.error_context.Called.TheVariants.{Pull}
use Rattle.cosign_chain.specs.declared.verified_documents.VerifiedDocuments.{VerifiedDocuments}
use Rattle.cosign_layers.specs.Satisfying.{PolicyContext}
use Rattle.cosign_rows.specs.Image.{document_in, entry_in, with_image, entry_call, entry_row, manifest_row}
use Rattle.cosign_rows.specs.References.{digest_reference}
use Rattle.cosign_rows.specs.Refusal.{is_memory}
use Rattle.cosign_rows.specs.Verified.{constrained, is_unconstrained, as_whole, part_of, standing}
use Rattle.cosign_rows.specs.declared.found.TrustedLayers.{TrustedLayers}
use Rattle.cosign_rows.specs.declared.refusal.PullRefusal.{PullRefusal}
use Rattle.cosign_rows.specs.Again.{read_again}
use Rattle.cosign_rows.specs.Rows.{image_documents, documents_after, decided}

-- ---- parts

abbrev IsPlain : Kept → List Exchange → Type 0
IsPlain k c = k.1 ≡ None

abbrev AnyRequest : Kept → List Exchange → Request → Type 0
AnyRequest k c request = Unit {0}

-- no response is cached on the way, if none was before
record StaysPlain {A : Type 0} (p : Proto Kept A) : Type 0 where
  safe : (k : Kept) (c : List Exchange) → k.1 ≡ None → Safe AnyRequest IsPlain (λ l d (a : A). IsPlain l d) k c p

plain_done : {A : Type 0} (x : A) → StaysPlain (Done x)
unfolding Safe
plain_done x = record { safe = λ k c is. is }

plain_parts : {A B : Type 0} (p : Proto Kept A) (f : A → Proto Kept B) → StaysPlain p → ((x : A) → StaysPlain (f x)) → StaysPlain (bind p f)
plain_parts {A} {B} p f h next = record { safe = λ k c is. Safe-bind AnyRequest IsPlain (λ l d (a : A). IsPlain l d) (λ l d (b : B). IsPlain l d) p f k c (h.safe k c is) (λ l d a here. (next a).safe l d here) }

plain_next : {A B E : Type 0} (p : Proto Kept (Result A E)) (f : A → Proto Kept (Result B E)) → StaysPlain p → ((a : A) → StaysPlain (f a)) → StaysPlain (p >>= f)
plain_next {A} {B} {E} p f h each = plain_parts p (unless_refused f) h by_result where
  by_result : (r : Result A E) → StaysPlain (unless_refused f r)
  by_result (Ok a) = each a
  by_result (Err e) = plain_done (Err e)

lifted_safe : {A : Type 0} (p : Proto AuthState A) (k : Kept) (c : List Exchange) → k.1 ≡ None → Safe AnyRequest IsPlain (λ l d (a : A). IsPlain l d) k c (lifted p)
unfolding Safe lifted
lifted_safe (Done a) k c is = is
lifted_safe (Ask request reading next) k c is = (tt, λ e before after reply r. lifted_safe (next reply) k (c ++ e ∷ []) is)
lifted_safe (Recall next) k c is = lifted_safe (next k.0) k c is
lifted_safe (Keep kept rest) k c is = (is, lifted_safe rest (kept, k.1) c is)
lifted_safe (Consult next) k c is = λ said. lifted_safe (next said) k c is

-- ---- the documents of a digest

document_plain : (s : Context) (image : Reference) (a : RegistryAuth) (types : List ℕ) → StaysPlain (document_call s image a types)
unfolding document_call
document_plain s image a types = record { safe = lifted_safe (document_made s image a types) }

entry_call_plain : (s : Context) (source : Reference) (a : RegistryAuth) (entry : List ℕ) → StaysPlain (entry_call s source a entry)
unfolding entry_call
entry_call_plain s source a entry = plain_parts (document_call s (entry_reference source entry) a manifest_types) (λ r. Done (with_image (whole_text source) r)) (document_plain s (entry_reference source entry) a manifest_types) (λ r. plain_done (with_image (whole_text source) r))

entry_plain : (s : Context) (source : Reference) (a : RegistryAuth) (entries : List ImageIndexEntry) → StaysPlain (entry_row s source a entries)
unfolding entry_row
entry_plain s source a entries =
    plain_next (Done (with_error_context Pull (whole_text source) (entry_found s.settings.platform_resolver entries))) _ (plain_done _) (λ entry.
    plain_next (entry_call s source a entry) _ (entry_call_plain s source a entry) (λ found.
    plain_next (Done (with_error_context Pull (whole_text source) (entry_in entry found.0))) _ (plain_done _) (λ manifest.
    plain_done _)))

manifest_plain : (s : Context) (source : Reference) (a : RegistryAuth) (first : List ℕ) (document : OciManifest) → StaysPlain (manifest_row s source a first document)
manifest_plain s source a first (Image manifest) = plain_done _
manifest_plain s source a first (ImageIndex index) = entry_plain s source a index.manifests

documents_plain : (s : Context) (image source : Reference) (a : RegistryAuth) → StaysPlain (image_documents s image source a)
unfolding image_documents
documents_plain s image source a =
    plain_next (document_call s source a manifest_types) _ (document_plain s source a manifest_types) (λ found.
    plain_next (Done (with_error_context Pull (whole_text source) (document_in image found.0))) _ (plain_done _) (λ document.
    plain_next (manifest_row s source a found.0 document) _ (manifest_plain s source a found.0 document) (λ chosen.
    plain_done _)))

part_plain : {A : Type 0} (p : Row A) → StaysPlain p → StaysPlain (part_of p)
unfolding part_of
part_plain p h = plain_parts p (λ r. Done (as_whole r)) h (λ r. plain_done (as_whole r))

-- ---- the second part

module _ {V : Type 0} {H : V → Type 0} (policy_context : PolicyContext V H) (s : Context) (image : Reference) (a : RegistryAuth) (found : TrustedLayers) where
  after_plain : (again : TrustedLayers) → StaysPlain (documents_after policy_context s image a again)
  unfolding documents_after
  after_plain again =
      plain_next (Done (standing policy_context again)) _ (plain_done _) (λ stood.
      plain_next (part_of (image_documents s image (digest_reference image stood.digest) a)) _ (part_plain (image_documents s image (digest_reference image stood.digest) a) (documents_plain s image (digest_reference image stood.digest) a)) (λ pulled.
      plain_done _))

  stays_plain : StaysPlain (decided policy_context s image a found)
  unfolding decided
  stays_plain = plain_next (Done (constrained (is_unconstrained policy_context.policy))) _ (plain_done _) (λ u. after_plain (read_again policy_context.trust found))

  pub decided_plain : {old new : Link} {k l : Kept} (r : Result VerifiedDocuments PullRefusal) → Meets is_memory (decided policy_context s image a found) old new k l r → k.1 ≡ None → l.1 ≡ None
  decided_plain {old} {new} {k} {l} r met is = by_outcome r met.outcome where
    safe : Safe AnyRequest IsPlain (λ l d (v : Result VerifiedDocuments PullRefusal). IsPlain l d) k [] (decided policy_context s image a found)
    safe = stays_plain.safe k [] is

    performed : (r : Result VerifiedDocuments PullRefusal) → Performs (decided policy_context s image a found) old new k l r → l.1 ≡ None
    performed r run = Runs-ends-safe AnyRequest IsPlain (λ l d (v : Result VerifiedDocuments PullRefusal). IsPlain l d) (decided policy_context s image a found) k l old.faults new.faults [] run.conversation r safe run.runs

    by_memory : (b : Bool) (e : PullRefusal) → MatchBool b (PerformsPrefix (decided policy_context s image a found) old new k l) (Performs (decided policy_context s image a found) old new k l (Err e)) → l.1 ≡ None
    by_memory true e run = (RunPrefix-kept AnyRequest IsPlain (λ l d (v : Result VerifiedDocuments PullRefusal). IsPlain l d) (decided policy_context s image a found) k l old.faults [] [] run.conversation is safe run.stops).holds
    by_memory false e run = performed (Err e) run

    by_outcome : (r : Result VerifiedDocuments PullRefusal) → Outcome is_memory (decided policy_context s image a found) old new k l r → l.1 ≡ None
    by_outcome (Ok v) run = performed (Ok v) run
    by_outcome (Err e) run = by_memory (is_memory e) e run
