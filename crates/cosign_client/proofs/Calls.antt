-- The calls of a client.
use Rattle.std.proofs.Common.{◌≡◌, ℕ, Bool, true, false, List, [], ◌∷◌, ◌++◌, Option, Some, None, Result, Ok, Err, refl, sym, ◌∙◌, ap, subst, append-nil}
use Rattle.std.proofs.lemmas.List.Elements.{All-nil, All-push}
use Rattle.oci_transport.specs.declared.message.Exchange.{Exchange}
use Rattle.oci_transport.specs.Link.{Link, Extends}
use Rattle.oci_names.specs.declared.reference.Reference.{Reference}
use Rattle.oci_names.specs.Reference.{reads_back}
use Rattle.oci_auth.specs.declared.auth.RegistryAuth.{RegistryAuth}
use Rattle.oci_protocol.specs.Proto.{Done, bind, unless_refused, ◌>>◌}
use Rattle.oci_protocol.specs.Lift.{lifted}
use Rattle.oci_protocol.specs.Runs.{Runs}
use Rattle.oci_protocol.proofs.WiderMemory.{Runs-unlifted}
use Rattle.oci_protocol.proofs.Parts.{Parts, Runs-parts, Runs-done}
use Rattle.engine_terms.specs.declared.settings.Settings.{Settings}
use Rattle.engine_terms.specs.Contexts.{within}
use Rattle.engine_requests.specs.Sources.{Layer}
use Rattle.registry_calls.specs.declared.error.SigstoreError.{SigstoreError}
use Rattle.registry_calls.specs.Error.{is_memory}
use Rattle.registry_calls.specs.Clients.{Kept, Plain, Row, Client, ClientMeets}
use Rattle.registry_calls.specs.Caching.{keeping, known_or, recalled, cached}
use Rattle.registry_cache.specs.Caching.{Cache, known}
use Rattle.registry_calls.specs.Calls.{digest_made, manifest_made, image_made, referrers_made, document_made, blob_made, digest_call, manifest_call, image_call, referrers_call, document_call, blob_call}
use Rattle.registry_cache.specs.KeptCalls.{digests, manifests, images, referrers}
use Rattle.registry_calls.specs.Log.{Call, DigestCall, ManifestCall, ImageCall, ReferrersCall, image_called, kind_called, key_called, answering, answered, call_made, LoggedCall, place_of, IsRun, IsBacked}
use Rattle.sig_registry.proofs.Logs.{IsCache, logged}
use Rattle.sig_registry.proofs.Facts.{digests_kept, manifests_kept, images_kept, referrers_kept}
use Rattle.cosign_client.specs.Growth.{IsMadeIn, ExtendsLog, PreservesLog}
use Rattle.cosign_client.proofs.PartsInTurn.{as_it_was, grows_lifted}

-- ---- a refusal leaves the cached responses unchanged

module _ {A : Type 0} (cache : Cache A) (key : List ℕ) (now : ℕ) (p : Plain A) where
  kept_is_ok : (a : A) (k : Kept) (m : ℕ) (c : List Exchange) (n : ℕ) (l : Kept) (r : Result A SigstoreError) → Runs (keeping cache key now a >> Done (Ok a)) k m c n l r → Ok a ≡ r
  unfolding Runs keeping bind
  kept_is_ok a k m [] n l r run = run.2
  kept_is_ok a k m (e ∷ c) n l r run = absurd run

  then_kept : A → Row A
  then_kept answer = keeping cache key now answer >> Done (Ok answer)

  missed_refused : (k l : Kept) (m n : ℕ) (c : List Exchange) (e : SigstoreError) → Runs (known_or cache key now p None) k m c n l (Err e) → k.1 ≡ l.1
  unfolding then_kept
  missed_refused k l m n c e run = by_answer parts.answer parts.runs_first parts.runs_second where
    parts : Parts (lifted p) (unless_refused then_kept) k m c n l (Err e)
    parts = Runs-parts (lifted p) (unless_refused then_kept) k m c n l (Err e) run

    by_answer : (a : Result A SigstoreError) → Runs (lifted p) k m parts.first parts.count parts.between a → Runs (unless_refused then_kept a) parts.between parts.count parts.second n l (Err e) → k.1 ≡ l.1
    by_answer (Ok a) first second = absurd (cc (kept_is_ok a parts.between parts.count parts.second n l (Err e) second))
    by_answer (Err x) first second = (Runs-unlifted p k parts.between m parts.count parts.first (Err x) first).1 ∙ ap (λ (k : Kept). k.1) (Runs-done (Err x) parts.between parts.count parts.second n l (Err e) second).1

  recalled_refused : (k l : Kept) (m n : ℕ) (c : List Exchange) (e : SigstoreError) → Runs (recalled cache key now p) k m c n l (Err e) → k.1 ≡ l.1
  unfolding recalled Runs
  recalled_refused k l m n c e run = by_known (known cache key now k.1) run where
    by_known : (a : Option A) → Runs (known_or cache key now p a) k m c n l (Err e) → k.1 ≡ l.1
    by_known (Some a) run = absurd (cc ((Runs-done (Ok a) k m c n l (Err e) run).2))
    by_known None run = missed_refused k l m n c e run

  refused_keeps : (b : Bool) (k l : Kept) (m n : ℕ) (c : List Exchange) (e : SigstoreError) → Runs (cached b cache key now p) k m c n l (Err e) → k.1 ≡ l.1
  refused_keeps true k l m n c e run = recalled_refused k l m n c e run
  refused_keeps false k l m n c e run = (Runs-unlifted p k l m n c (Err e) run).1

-- ---- a complete run is one more entry of the log

-- a transport that exposes these exchanges, with this fault count
abbrev exposing : List Exchange → ℕ → Link
exposing c faults = record { told = Some c; rest = None; pieces = None; faults = faults; exact = false; answers = None }

exposing_extends : (m n : ℕ) (c : List Exchange) → Extends (exposing [] m) (exposing c n) c
exposing_extends m n c = record {
  told = λ before is. let same : [] ≡ before = cc is in subst (λ (b : List Exchange). Some c ≡ Some (b ++ c)) same refl;
  table = λ a before by. absurd (cc by);
  stays = record { steady = λ a is. absurd (cc is); quiet = λ a is never. absurd (cc is); exact = refl };
}

-- a client with these settings and this state
abbrev client : Settings → Kept → Client
client s k = record { settings = s; kept = k }

answered_made : {A : Type 0} (s : Settings) (p : Row A) (k l : Kept) (m n : ℕ) (c : List Exchange) (a : A) → Runs p k m c n l (Ok a) → ClientMeets is_memory s p (client s k) (client s l) (exposing [] m) (exposing c n) (Ok a)
answered_made s p k l m n c a run = record { made = λ at. (at, record { outcome = record { conversation = c; told = exposing_extends m n c; runs = run; runs_by = λ t before by. absurd (cc by) } }) }

-- a call whose response may be cached
grows_call : {A : Type 0} (cache : Cache A) (law : IsCache cache) (call : Call) (now : ℕ) (row : Settings → Plain A) (kind_is : kind_called call ≡ cache.kind) (is_call : (s : Settings) → call_made (within s now) call ≡ answering cache (row s)) (s : Settings) → PreservesLog s now (cached (reads_back (image_called call)) cache (key_called call) now (row s))
grows_call {A} cache law call now row kind_is is_call s = record { grows = by_answer } where
  by_answer : (k l : Kept) (m n : ℕ) (c : List Exchange) (r : Result A SigstoreError) (log : List LoggedCall) → Runs (cached (reads_back (image_called call)) cache (key_called call) now (row s)) k m c n l r → IsRun s log → IsBacked s k.1 log → ExtendsLog s now c l.1 log
  by_answer k l m n c (Ok a) log run lawful backed =
      let made = answered_made s (cached (reads_back (image_called call)) cache (key_called call) now (row s)) k l m n c a run in
      let one = (logged cache law call now row kind_is is_call s made (λ h. absurd (cc h))).logged refl log lawful backed in
      let own : c ≡ one.0 = cc (one.1.told [] refl) in
      let place = place_of call now (client s k) (client s l) (exposing [] m) one.0 (exposing c n) (answered cache (Ok a)) in
      record {
        more = place ∷ [];
        made = All-push (IsMadeIn now c) [] place (All-nil (IsMadeIn now c)) (record { moment_is = refl; before = []; after = []; split = own ∙ sym (append-nil one.0) });
        run = one.2.run;
        backed = one.2.backed;
      }
  by_answer k l m n c (Err e) log run lawful backed = as_it_was s now c k l log (refused_keeps cache (key_called call) now (row s) (reads_back (image_called call)) k l m n c e run) lawful backed

pub digest_grows : (s : Settings) (now : ℕ) (image : Reference) (a : RegistryAuth) → PreservesLog s now (digest_call (within s now) image a)
unfolding digest_call
digest_grows s now image a = grows_call digests digests_kept (DigestCall image a) now (λ s. digest_made (within s now) image a) refl (λ s. refl) s

pub manifest_grows : (s : Settings) (now : ℕ) (image : Reference) (a : RegistryAuth) → PreservesLog s now (manifest_call (within s now) image a)
unfolding manifest_call
manifest_grows s now image a = grows_call manifests manifests_kept (ManifestCall image a) now (λ s. manifest_made (within s now) image a) refl (λ s. refl) s

pub image_grows : (s : Settings) (now : ℕ) (image : Reference) (a : RegistryAuth) (accepted : List (List ℕ)) → PreservesLog s now (image_call (within s now) image a accepted)
unfolding image_call
image_grows s now image a accepted = grows_call images images_kept (ImageCall image a accepted) now (λ s. image_made (within s now) image a accepted) refl (λ s. refl) s

pub referrers_grow : (s : Settings) (now : ℕ) (image : Reference) (a : RegistryAuth) (kind : Option (List ℕ)) → PreservesLog s now (referrers_call (within s now) image a kind)
unfolding referrers_call
referrers_grow s now image a kind = grows_call referrers referrers_kept (ReferrersCall image a kind) now (λ s. referrers_made (within s now) image a kind) refl (λ s. refl) s

pub document_grows : (s : Settings) (now : ℕ) (image : Reference) (a : RegistryAuth) (types : List ℕ) → PreservesLog s now (document_call (within s now) image a types)
unfolding document_call
document_grows s now image a types = grows_lifted s now (document_made (within s now) image a types)

pub blob_grows : (s : Settings) (now : ℕ) (image : Reference) (layer : Layer) → PreservesLog s now (blob_call (within s now) image layer)
unfolding blob_call
blob_grows s now image layer = grows_lifted s now (blob_made (within s now) image layer)
