-- A client that caches no responses caches none after a pull, also if memory ran out.
use Rattle.std.specs.Prelude.{MatchBool, option_map}
use Rattle.std.proofs.Common.{◌≡◌, ℕ, Bool, true, false, List, [], ◌∷◌, ◌++◌, Option, Some, None, Result, Ok, Err, refl, ap, ◌∙◌}
use Rattle.oci_names.specs.Reference.{repository_of, resolved_registry, reads_back}
use Rattle.oci_names.specs.declared.reference.Reference.{Reference}
use Rattle.oci_auth.specs.declared.auth.RegistryAuth.{RegistryAuth}
use Rattle.oci_auth.specs.declared.auth_state.AuthState.{AuthState}
use Rattle.oci_transport.specs.Link.{Link}
use Rattle.oci_transport.specs.declared.message.Exchange.{Exchange}
use Rattle.oci_transport.specs.declared.message.Request.{Request}
use Rattle.oci_protocol.specs.Lift.{lifted}
use Rattle.oci_protocol.specs.Proto.{Proto, Done, Ask, Recall, Keep, Consult, bind, unless_refused, ◌>>◌}
use Rattle.oci_protocol.specs.Runs.{Performs, PerformsPrefix, Outcome, Meets}
use Rattle.oci_protocol.specs.Safe.{Safe}
use Rattle.oci_protocol.proofs.SafeEnds.{Runs-ends-safe, RunPrefix-kept}
use Rattle.oci_protocol.proofs.Safety.{Safe-bind}
use Rattle.engine_terms.specs.Contexts.{Context}
use Rattle.registry_cache.specs.Answers.{keep, entry}
use Rattle.registry_cache.specs.Caching.{Cache, known}
use Rattle.registry_cache.specs.Keys.{manifest_key, pull_key, referrers_key}
use Rattle.registry_cache.specs.KeptCalls.{digests, manifests, images, referrers}
use Rattle.registry_cache.specs.declared.answers.Answers.{Answers}
use Rattle.registry_calls.specs.Caching.{keeping, known_or, recalled, cached}
use Rattle.registry_calls.specs.Calls.{digest_made, manifest_made, image_made, document_made, blob_made, referrers_made, digest_call, manifest_call, image_call, referrers_call, document_call, blob_call}
use Rattle.registry_calls.specs.Clients.{Kept, Plain}
use Rattle.registry_calls.specs.declared.error.SigstoreError.{SigstoreError}
use Rattle.cosign_chain.specs.declared.image.VerifiedImage.{VerifiedImage}
use Rattle.cosign_layers.specs.Satisfying.{PolicyContext}
use Rattle.cosign_rows.specs.Refusal.{is_memory}
use Rattle.cosign_rows.specs.Verified.{verified}
use Rattle.cosign_rows.specs.declared.refusal.PullRefusal.{PullRefusal}
use Rattle.cosign_laws.proofs.PullRows.{HoldsOfCalls, verified_good}

abbrev IsPlain : Kept → List Exchange → Type 0
IsPlain k c = k.1 ≡ None

abbrev AnyRequest : Kept → List Exchange → Request → Type 0
AnyRequest k c request = Unit {0}

-- no response is cached on the way, if none was before
record StaysPlain {A : Type 0} (p : Proto Kept A) : Type 0 where
  safe : (k : Kept) (c : List Exchange) → k.1 ≡ None → Safe AnyRequest IsPlain (λ l d (a : A). IsPlain l d) k c p

plain_done : {A : Type 0} (x : A) → StaysPlain (Done x)
unfolding Safe
plain_done x = record { safe = λ k c is. is }

plain_parts : {A B : Type 0} (p : Proto Kept A) (f : A → Proto Kept B) → StaysPlain p → ((x : A) → StaysPlain (f x)) → StaysPlain (bind p f)
plain_parts {A} {B} p f h next = record { safe = λ k c is. Safe-bind AnyRequest IsPlain (λ l d (a : A). IsPlain l d) (λ l d (b : B). IsPlain l d) p f k c (h.safe k c is) (λ l d a here. (next a).safe l d here) }

lifted_safe : {A : Type 0} (p : Proto AuthState A) (k : Kept) (c : List Exchange) → k.1 ≡ None → Safe AnyRequest IsPlain (λ l d (a : A). IsPlain l d) k c (lifted p)
unfolding Safe lifted
lifted_safe (Done a) k c is = is
lifted_safe (Ask request reading next) k c is = (tt, λ e before after reply r. lifted_safe (next reply) k (c ++ e ∷ []) is)
lifted_safe (Recall next) k c is = lifted_safe (next k.0) k c is
lifted_safe (Keep kept rest) k c is = (is, lifted_safe rest (kept, k.1) c is)
lifted_safe (Consult next) k c is = λ said. lifted_safe (next said) k c is

plain_lifted : {A : Type 0} (p : Proto AuthState A) → StaysPlain (lifted p)
plain_lifted p = record { safe = lifted_safe p }

module _ {A : Type 0} (cache : Cache A) (key : List ℕ) (now : ℕ) (p : Plain A) where
  plain_kept : (x : A) → StaysPlain (keeping cache key now x >> Done (Ok x))
  unfolding Safe keeping bind
  plain_kept x = record { safe = λ k c is. let same : option_map (keep (entry key now (cache.kept_as x))) k.1 ≡ None = ap (λ (o : Option Answers). option_map (keep (entry key now (cache.kept_as x))) o) is in (same, same) }

  by_result : (r : Result A SigstoreError) → StaysPlain (unless_refused (λ x. keeping cache key now x >> Done (Ok x)) r)
  by_result (Ok x) = plain_kept x
  by_result (Err e) = plain_done (Err e)

  by_known : (o : Option A) → StaysPlain (known_or cache key now p o)
  by_known (Some x) = plain_done (Ok x)
  by_known None = plain_parts (lifted p) (unless_refused (λ x. keeping cache key now x >> Done (Ok x))) (plain_lifted p) by_result

  plain_cached : (b : Bool) → StaysPlain (cached b cache key now p)
  unfolding Safe recalled
  plain_cached true = record { safe = λ k c is. (by_known (known cache key now k.1)).safe k c is }
  plain_cached false = plain_lifted p

module _ (s : Context) (a : RegistryAuth) where
  digest_plain : (r : Reference) → StaysPlain (digest_call s r a)
  unfolding digest_call
  digest_plain r = plain_cached digests (manifest_key r a) s.moment (digest_made s r a) (reads_back r)

  manifest_plain : (r : Reference) → StaysPlain (manifest_call s r a)
  unfolding manifest_call
  manifest_plain r = plain_cached manifests (manifest_key r a) s.moment (manifest_made s r a) (reads_back r)

  image_plain : (r : Reference) (types : List (List ℕ)) → StaysPlain (image_call s r a types)
  unfolding image_call
  image_plain r types = plain_cached images (pull_key r a types) s.moment (image_made s r a types) (reads_back r)

  referrers_plain : (r : Reference) (kind : Option (List ℕ)) → StaysPlain (referrers_call s r a kind)
  unfolding referrers_call
  referrers_plain r kind = plain_cached referrers (referrers_key r a kind) s.moment (referrers_made s r a kind) (reads_back r)

  calls_plain : (registry repository : List ℕ) → HoldsOfCalls (λ A p. StaysPlain p) s a registry repository
  unfolding document_call blob_call
  calls_plain registry repository = record {
    done = λ A x. plain_done x;
    parts = λ A B p f h next. plain_parts p f h next;
    digest = λ r in_it. digest_plain r;
    manifest = λ r in_it. manifest_plain r;
    image = λ r in_it types. image_plain r types;
    referrers = λ r in_it. referrers_plain r None;
    document = λ r in_it. plain_lifted _;
    blob = λ r in_it layer. plain_lifted _;
  }

pub pull_plain : {V : Type 0} {H : V → Type 0} (policy_context : PolicyContext V H) (s : Context) (image : Reference) (a : RegistryAuth) (accepted : List (List ℕ)) {old new : Link} {k l : Kept} (r : Result VerifiedImage PullRefusal)
    → Meets is_memory (verified policy_context s image a accepted) old new k l r → k.1 ≡ None → l.1 ≡ None
pull_plain policy_context s image a accepted {old} {new} {k} {l} r met is = by_outcome r met.outcome where
  safe : Safe AnyRequest IsPlain (λ l d (v : Result VerifiedImage PullRefusal). IsPlain l d) k [] (verified policy_context s image a accepted)
  safe = (verified_good policy_context s image a accepted (λ A p. StaysPlain p) (calls_plain s a (resolved_registry image) (repository_of image))).safe k [] is

  performed : (r : Result VerifiedImage PullRefusal) → Performs (verified policy_context s image a accepted) old new k l r → l.1 ≡ None
  performed r run = Runs-ends-safe AnyRequest IsPlain (λ l d (v : Result VerifiedImage PullRefusal). IsPlain l d) (verified policy_context s image a accepted) k l old.faults new.faults [] run.conversation r safe run.runs

  by_memory : (b : Bool) (e : PullRefusal) → MatchBool b (PerformsPrefix (verified policy_context s image a accepted) old new k l) (Performs (verified policy_context s image a accepted) old new k l (Err e)) → l.1 ≡ None
  by_memory true e run = (RunPrefix-kept AnyRequest IsPlain (λ l d (v : Result VerifiedImage PullRefusal). IsPlain l d) (verified policy_context s image a accepted) k l old.faults [] [] run.conversation is safe run.stops).holds
  by_memory false e run = performed (Err e) run

  by_outcome : (r : Result VerifiedImage PullRefusal) → Outcome is_memory (verified policy_context s image a accepted) old new k l r → l.1 ≡ None
  by_outcome (Ok v) run = performed (Ok v) run
  by_outcome (Err e) run = by_memory (is_memory e) e run
