-- A complete run of a protocol leaves the cached responses within their bounds.
use Rattle.std.specs.Prelude.{option_map}
use Rattle.std.proofs.Common.{◌≡◌, ℕ, Bool, true, false, List, [], ◌∷◌, Option, Some, None, Result, Ok, Err, sym, subst}
use Rattle.oci_names.specs.Reference.{reads_back}
use Rattle.oci_names.specs.declared.reference.Reference.{Reference}
use Rattle.oci_auth.specs.declared.auth.RegistryAuth.{RegistryAuth}
use Rattle.oci_auth.specs.declared.auth_state.AuthState.{AuthState}
use Rattle.oci_transport.specs.declared.message.Exchange.{Exchange}
use Rattle.oci_protocol.specs.Lift.{lifted}
use Rattle.oci_protocol.specs.Proto.{Proto, Done, bind, unless_refused, ◌>>◌}
use Rattle.oci_protocol.specs.Runs.{Runs}
use Rattle.oci_protocol.proofs.Parts.{Runs-parts, Runs-done}
use Rattle.oci_protocol.proofs.WiderMemory.{Runs-unlifted}
use Rattle.engine_terms.specs.Contexts.{Context}
use Rattle.registry_cache.specs.Answers.{entry, fits, keep, replaced, within}
use Rattle.registry_cache.specs.Caching.{Cache, known}
use Rattle.registry_cache.specs.Keys.{manifest_key, pull_key, referrers_key}
use Rattle.registry_cache.specs.KeptCalls.{digests, manifests, images, referrers}
use Rattle.registry_cache.specs.declared.answers.Answers.{Answers}
use Rattle.registry_cache.specs.declared.answers.Bounds.{Bounds}
use Rattle.registry_cache.specs.declared.answers.Entry.{Entry}
use Rattle.registry_cache.proofs.Longest.{keeps_longest}
use Rattle.registry_calls.specs.Caching.{cached, keeping, known_or, recalled}
use Rattle.registry_calls.specs.Calls.{digest_made, manifest_made, image_made, document_made, referrers_made, digest_call, manifest_call, image_call, document_call, referrers_call}
use Rattle.registry_calls.specs.Clients.{Kept, Plain}
use Rattle.registry_calls.specs.declared.error.SigstoreError.{SigstoreError}
use Rattle.live_pull.specs.Keeping.{IsWithin}

-- what is cached within bounds before a complete run is within them afterwards
pub record StaysWithin {A : Type 0} (bounds : Bounds) (p : Proto Kept A) : Type 0 where
  pub stays : (k l : Kept) (m n : ℕ) (c : List Exchange) (answer : A) → Runs p k m c n l answer → IsWithin bounds k.1 → IsWithin bounds l.1

module _ (bounds : Bounds) where
  pub within_done : {A : Type 0} (x : A) → StaysWithin bounds (Done x)
  within_done x = record { stays = λ k l m n c answer run is. subst (λ (k : Kept). IsWithin bounds k.1) (Runs-done x k m c n l answer run).1 is }

  pub within_bind : {A B : Type 0} (p : Proto Kept A) (f : A → Proto Kept B) → StaysWithin bounds p → ((a : A) → StaysWithin bounds (f a)) → StaysWithin bounds (bind p f)
  within_bind {A} {B} p f first second = record { stays = both } where
    both : (k l : Kept) (m n : ℕ) (c : List Exchange) (b : B) → Runs (bind p f) k m c n l b → IsWithin bounds k.1 → IsWithin bounds l.1
    both k l m n c b run is =
        let parts = Runs-parts p f k m c n l b run in
        (second parts.answer).stays parts.between l parts.count n parts.second b parts.runs_second (first.stays k parts.between m parts.count parts.first parts.answer parts.runs_first is)

  within_lifted : {A : Type 0} (p : Proto AuthState A) → StaysWithin bounds (lifted p)
  within_lifted p = record { stays = λ k l m n c answer run is. subst (λ (o : Option Answers). IsWithin bounds o) (Runs-unlifted p k l m n c answer run).1 is }

  within_kept : (e : Entry) (o : Option Answers) → IsWithin bounds o → IsWithin bounds (option_map (keep e) o)
  within_kept e None is = absurd is
  within_kept e (Some answers) is = (is.0, subst (λ (b : Option Bounds). fits (Some bounds) (within b (replaced e answers.entries)) ≡ true) (sym is.0) (keeps_longest (Some bounds) (replaced e answers.entries)).fit)

  module _ {A : Type 0} (cache : Cache A) (key : List ℕ) (now : ℕ) (p : Plain A) where
    keeping_within : (x : A) (k l : Kept) (m n : ℕ) (c : List Exchange) (r : Result A SigstoreError) → Runs (keeping cache key now x >> Done (Ok x)) k m c n l r → IsWithin bounds k.1 → IsWithin bounds l.1
    unfolding Runs keeping bind
    keeping_within x k l m n [] r run is = subst (λ (k : Kept). IsWithin bounds k.1) run.1 (within_kept (entry key now (cache.kept_as x)) k.1 is)
    keeping_within x k l m n (e ∷ c) r run is = absurd run

    by_result : (r : Result A SigstoreError) → StaysWithin bounds (unless_refused (λ x. keeping cache key now x >> Done (Ok x)) r)
    by_result (Ok x) = record { stays = keeping_within x }
    by_result (Err e) = within_done (Err e)

    by_known : (o : Option A) → StaysWithin bounds (known_or cache key now p o)
    by_known (Some x) = within_done (Ok x)
    by_known None = within_bind (lifted p) (unless_refused (λ x. keeping cache key now x >> Done (Ok x))) (within_lifted p) by_result

    within_cached : (b : Bool) → StaysWithin bounds (cached b cache key now p)
    unfolding Runs recalled
    within_cached true = record { stays = λ k l m n c r run is. (by_known (known cache key now k.1)).stays k l m n c r run is }
    within_cached false = within_lifted p

  module _ (s : Context) (image : Reference) (a : RegistryAuth) where
    pub digest_within : StaysWithin bounds (digest_call s image a)
    unfolding digest_call
    digest_within = within_cached digests (manifest_key image a) s.moment (digest_made s image a) (reads_back image)

    pub manifest_within : StaysWithin bounds (manifest_call s image a)
    unfolding manifest_call
    manifest_within = within_cached manifests (manifest_key image a) s.moment (manifest_made s image a) (reads_back image)

    pub image_within : (accepted : List (List ℕ)) → StaysWithin bounds (image_call s image a accepted)
    unfolding image_call
    image_within accepted = within_cached images (pull_key image a accepted) s.moment (image_made s image a accepted) (reads_back image)

    pub referrers_within : (kind : Option (List ℕ)) → StaysWithin bounds (referrers_call s image a kind)
    unfolding referrers_call
    referrers_within kind = within_cached referrers (referrers_key image a kind) s.moment (referrers_made s image a kind) (reads_back image)

    pub document_within : (types : List ℕ) → StaysWithin bounds (document_call s image a types)
    unfolding document_call
    document_within types = within_lifted (document_made s image a types)
