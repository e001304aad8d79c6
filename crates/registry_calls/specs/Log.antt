-- The calls of one client over time, and where their responses come from.
use Rattle.std.specs.Prelude.{◌≡◌, ◌⊎◌, ◌≤◌, ◌<◌, ◌-◌, ℕ, List, [], ◌∷◌, Option, Some, None, Result, Ok, Err, true}
use Rattle.oci_transport.specs.declared.message.Exchange.{Exchange}
use Rattle.oci_transport.specs.Link.{Link, Extends}
use Rattle.oci_names.specs.declared.reference.Reference.{Reference}
use Rattle.oci_names.specs.Reference.{reads_back}
use Rattle.oci_auth.specs.declared.auth.RegistryAuth.{RegistryAuth}
use Rattle.oci_auth.specs.declared.auth_state.AuthState.{AuthState}
use Rattle.oci_protocol.specs.Proto.{Done, bind}
use Rattle.oci_protocol.specs.Runs.{Runs}
use Rattle.engine_terms.specs.Contexts.{Context, within}
use Rattle.engine_terms.specs.declared.settings.Settings.{Settings}
use Rattle.registry_cache.specs.Keys.{manifest_key, pull_key, referrers_key}
use Rattle.registry_cache.specs.Answers.{kind_of}
use Rattle.registry_cache.specs.declared.answer.Answer.{Answer}
use Rattle.registry_cache.specs.declared.answer.Kind.{Kind}
use Rattle.registry_cache.specs.declared.answer.Kind.TheVariants as kinds
use Rattle.registry_cache.specs.declared.answers.Answers.{Answers}
use Rattle.registry_cache.specs.declared.answers.Entry.{Entry}
use Rattle.registry_cache.specs.Caching.{Cache, known}
use Rattle.registry_cache.specs.KeptCalls.{digests, manifests, images, referrers}
use Rattle.registry_calls.specs.Calls.{digest_made, manifest_made, image_made, referrers_made}
use Rattle.registry_calls.specs.Clients.{Client, Plain}
use Rattle.json_values.specs.Refusals.{Matches}
use Rattle.registry_calls.specs.Error.{is_memory}
use Rattle.registry_calls.specs.declared.error.SigstoreError.{SigstoreError}

-- a call whose response may be cached, with its arguments
pub data Call : Type 0 where
  DigestCall : (image : Reference) → (auth : RegistryAuth) → Call
  ManifestCall : (image : Reference) → (auth : RegistryAuth) → Call
  ImageCall : (image : Reference) → (auth : RegistryAuth) → (accepted : List (List ℕ)) → Call
  ReferrersCall : (image : Reference) → (auth : RegistryAuth) → (artifact_type : Option (List ℕ)) → Call

abbrev pub kind_called : Call → Kind
kind_called (DigestCall image a) = kinds.Digests
kind_called (ManifestCall image a) = kinds.Manifests
kind_called (ImageCall image a accepted) = kinds.Images
kind_called (ReferrersCall image a artifact_type) = kinds.Referrers

abbrev pub key_called : Call → List ℕ
key_called (DigestCall image a) = manifest_key image a
key_called (ManifestCall image a) = manifest_key image a
key_called (ImageCall image a accepted) = pull_key image a accepted
key_called (ReferrersCall image a artifact_type) = referrers_key image a artifact_type

abbrev pub image_called : Call → Reference
image_called (DigestCall image a) = image
image_called (ManifestCall image a) = image
image_called (ImageCall image a accepted) = image
image_called (ReferrersCall image a artifact_type) = image

-- If the reference round-trips and a response is known, the call returns it or runs out of memory: no request is sent,
-- and the client is unchanged.
pub record Recalled {A : Type 0} (cache : Cache A) (call : Call) (now : ℕ) (before after : Client) (old new : Link)
    (r : Result A SigstoreError) : Type 0 where
  pub recalled : (answer : A) → reads_back (image_called call) ≡ true
      → known cache (key_called call) now before.kept.1 ≡ Some answer
      → Matches is_memory r (Ok answer) × (new ≡ old) × (after ≡ before)

-- a result as it is cached
abbrev pub answered : {A : Type 0} → Cache A → Result A SigstoreError → Result Answer SigstoreError
answered cache (Ok answer) = Ok (cache.kept_as answer)
answered cache (Err e) = Err e

abbrev pub answering : {A : Type 0} → Cache A → Plain A → Plain Answer
answering cache p = bind p (λ r. Done (answered cache r))

-- the call as it is made if no response is known
abbrev pub call_made : Context → Call → Plain Answer
call_made s (DigestCall image a) = answering digests (digest_made s image a)
call_made s (ManifestCall image a) = answering manifests (manifest_made s image a)
call_made s (ImageCall image a accepted) = answering images (image_made s image a accepted)
call_made s (ReferrersCall image a artifact_type) = answering referrers (referrers_made s image a artifact_type)

-- One call of a client: its arguments and moment, the credentials and tokens before and after it, its exchanges, the
-- transport's fault count before and after them, and the result.
pub record LoggedCall : Type 0 where
  pub call : Call
  pub moment : ℕ
  pub entry : AuthState
  pub exit : AuthState
  pub before : ℕ
  pub conversation : List Exchange
  pub after : ℕ
  pub answer : Result Answer SigstoreError

-- the call was made in full with these credentials and tokens at its moment, and returned this result
unfoldable pub IsStep : Settings → LoggedCall → Type 0
IsStep s p =
    Runs (call_made (within s p.moment) p.call) p.entry p.before p.conversation p.after p.exit p.answer

-- at least one entry has the property
abbrev pub AnyOf : (LoggedCall → Type 0) → List LoggedCall → Type 0
AnyOf P [] = ⊥
AnyOf P (p ∷ log) = P p ⊎ AnyOf P log

-- the same call was made in full, not after `now` and less than 60 seconds before it, and returned this response
pub record IsSource (s : Settings) (call : Call) (now : ℕ) (answer : Answer) (p : LoggedCall) : Type 0 where
  pub call_is : p.call ≡ call
  pub answer_is : p.answer ≡ Ok answer
  pub step : IsStep s p
  pub early : p.moment ≤ now
  pub recent : now - p.moment < 60

-- the response of this call comes from a call made in full: this one, or an earlier one
abbrev pub HasSource : Settings → LoggedCall → List LoggedCall → Type 0
HasSource s p log = (answer : Answer) → p.answer ≡ Ok answer → AnyOf (IsSource s p.call p.moment answer) (p ∷ log)

-- This holds for each response of the log, the latest call first.
abbrev pub IsRun : Settings → List LoggedCall → Type 0
IsRun s [] = Unit {0}
IsRun s (p ∷ log) = HasSource s p log × IsRun s log

-- the cache entry is the response of this call, which was made in full at the entry's moment
pub record IsOrigin (s : Settings) (e : Entry) (p : LoggedCall) : Type 0 where
  pub kind_is : kind_called p.call ≡ kind_of e.answer
  pub key_is : key_called p.call ≡ e.key
  pub reads_back_is : reads_back (image_called p.call) ≡ true
  pub moment_is : p.moment ≡ e.moment
  pub answer_is : p.answer ≡ Ok e.answer
  pub step : IsStep s p

-- each of these entries is the response of such a call
abbrev pub EachBacked : Settings → List Entry → List LoggedCall → Type 0
EachBacked s [] log = Unit {0}
EachBacked s (e ∷ es) log = AnyOf (IsOrigin s e) log × EachBacked s es log

abbrev pub IsBacked : Settings → Option Answers → List LoggedCall → Type 0
IsBacked s None log = Unit {0}
IsBacked s (Some answers) log = EachBacked s answers.entries log

-- this call of a client, as an entry of the log
abbrev pub place_of : Call → ℕ → Client → Client → Link → List Exchange → Link → Result Answer SigstoreError
    → LoggedCall
place_of call now before after old c new answer = record {
  call = call;
  moment = now;
  entry = before.kept.0;
  exit = after.kept.0;
  before = old.faults;
  conversation = c;
  after = new.faults;
  answer = answer;
}

-- the log with this call is a run, and it backs what is cached now
pub record IsLawful (s : Settings) (kept : Option Answers) (p : LoggedCall) (log : List LoggedCall) : Type 0 where
  pub run : IsRun s (p ∷ log)
  pub backed : IsBacked s kept (p ∷ log)

-- If a log of a client with these settings is a run and backs what the client has cached, the same holds for the log
-- with this call and its exchanges.
pub record Logged {A : Type 0} (s : Settings) (cache : Cache A) (call : Call) (now : ℕ) (before after : Client)
    (old new : Link) (r : Result A SigstoreError) : Type 0 where
  pub logged : before.settings ≡ s → (log : List LoggedCall) → IsRun s log → IsBacked s before.kept.1 log
      → (c : List Exchange) × Extends old new c
      × IsLawful s after.kept.1 (place_of call now before after old c new (answered cache r)) log
