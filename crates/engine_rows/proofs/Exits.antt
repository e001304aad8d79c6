-- The exits of a function of the engine, as steps of its row, beside those of any row.
use Rattle.std.proofs.Common.{◌≡◌, ℕ, List, Option, Result, Ok, Err, Some, None, refl, ◌∙◌, Bool, true, false}
use Rattle.std.specs.Prelude.{MatchBool}
use Rattle.std.specs.Result.{IsErrAnd}
use Rattle.oci_transport.specs.Link.{Link}
use Rattle.oci_protocol.specs.Proto.{Done, Recall, Keep, bind, ◌>>=◌}
use Rattle.oci_transport.specs.declared.message.Exchange.{Exchange}
use Rattle.oci_protocol.specs.Runs.{Meets, PerformsPrefix, Performs, Told, Outcome}
use Rattle.oci_protocol.proofs.Exits.{and_then, done, wanting as wanting_by}
use Rattle.oci_protocol.proofs.Laws.{Meets-next, Meets-ok, Meets-recall, Meets-keep, PerformsPrefix-first, Meets-caught}
use Rattle.engine_terms.specs.declared.error.OciDistributionError.{OciDistributionError}
use Rattle.engine_terms.specs.declared.error.OciDistributionError.TheVariants as refusal
use Rattle.oci_auth.specs.declared.auth_state.AuthState.{AuthState}
use Rattle.engine_terms.specs.Error.{is_memory}
use Rattle.engine_rows.specs.Rows.{Row, recalled as recall, keep, passed_over, store, with_kept, taken, shown_text, kept_text}
use Rattle.oci_auth.specs.declared.auth.RegistryAuth.{RegistryAuth}
use Rattle.oci_names.specs.declared.reference.Reference.{Reference}
use Rattle.oci_names.specs.Reference.{resolved_registry}
use Rattle.oci_auth.specs.AuthState.{stored}
use Rattle.oci_auth.specs.Cache.{with_token}
use Rattle.oci_auth.specs.Kept.{Key}
use Rattle.oci_auth.specs.declared.cache.TokenCache.{TokenCache}
use Rattle.oci_auth.specs.declared.token_type.RegistryTokenType.{RegistryTokenType}

-- memory ran out between two requests
pub wanting : {A : Type 0} {p : Row A} {link : Link} {k : AuthState} {r : Result A OciDistributionError} → IsErrAnd r (λ x. x ≡ refusal.WantOfMemory) → Meets is_memory p link link k k r
wanting is = wanting_by refusal.WantOfMemory refl is

-- a row that continues by the client state
pub recalled : {B : Type 0} (f : AuthState → Row B) {old new : Link} {k j : AuthState} {r : Result B OciDistributionError}
    → Meets is_memory (f k) old new k j r → Meets is_memory (recall >>= f) old new k j r
recalled f {old} {k} h = Meets-next f (Meets-recall (λ k. Done (Ok k)) (Meets-ok is_memory old k k)) h

-- the client state is replaced, and nothing else happens
pub keeps : {link : Link} {k l : AuthState} → Meets is_memory (keep l) link link k l (Ok tt)
keeps {link} {k} {l} = Meets-keep l (Done (Ok tt)) (Meets-ok is_memory link l tt)

-- a step whose result is inspected with its errors
pub caught : {A B : Type 0} {p : Row A} (f : Result A OciDistributionError → Row B) {old mid new : Link} {k l j : AuthState} {a : A} {r : Result B OciDistributionError}
    → Meets is_memory p old mid k l (Ok a) → Meets is_memory (f (Ok a)) mid new l j r → Meets is_memory (bind p f) old new k j r
caught f first second = Meets-caught f first.outcome second

-- a refusal other than out of memory
pub caught_refusal : {A B : Type 0} {p : Row A} (f : Result A OciDistributionError → Row B) {old mid new : Link} {k l j : AuthState} {e : OciDistributionError} {r : Result B OciDistributionError}
    → is_memory e ≡ false → Meets is_memory p old mid k l (Err e) → Meets is_memory (f (Err e)) mid new l j r → Meets is_memory (bind p f) old new k j r
caught_refusal f other first second = Meets-caught f (rw other at first.outcome) second

-- out of memory cut it off
pub caught_memory : {A B : Type 0} {p : Row A} (f : Result A OciDistributionError → Row B) {old new : Link} {k l : AuthState} {e : OciDistributionError}
    → is_memory e ≡ true → Meets is_memory p old new k l (Err e) → Meets is_memory (bind p f) old new k l (Err refusal.WantOfMemory)
caught_memory f wanted first = record { outcome = PerformsPrefix-first f (rw wanted at first.outcome) }

-- the client state is changed, and nothing else happens
pub changes : {A : Type 0} (f : AuthState → AuthState) (a : A) (link : Link) (k : AuthState) → Meets is_memory (Recall (λ k. Keep (f k) (Done (Ok a)))) link link k (f k) (Ok a)
changes f a link k = Meets-recall (λ k. Keep (f k) (Done (Ok a))) (Meets-keep (f k) (Done (Ok a)) (Meets-ok is_memory link (f k) a))

-- a refusal other than out of memory is ignored
pub passed : (e : OciDistributionError) (link : Link) (k : AuthState) → is_memory e ≡ false → Meets is_memory (Done (passed_over e)) link link k k (Ok None)
passed refusal.WantOfMemory link k h = absurd (cc h)
passed e link k h = by_cause e h where
  by_cause : (e : OciDistributionError) → is_memory e ≡ false → Meets is_memory (Done (passed_over e)) link link k k (Ok None)
  by_cause refusal.WantOfMemory h = absurd (cc h)
  by_cause _ h = done

memory_ends : (e : OciDistributionError) → is_memory e ≡ true → passed_over e ≡ Err refusal.WantOfMemory
memory_ends refusal.WantOfMemory h = refl
memory_ends e h = by_cause e h where
  by_cause : (e : OciDistributionError) → is_memory e ≡ true → passed_over e ≡ Err refusal.WantOfMemory
  by_cause refusal.WantOfMemory h = refl
  by_cause _ h = absurd (cc h)

passes : (e : OciDistributionError) → is_memory e ≡ false → passed_over e ≡ Ok None
passes refusal.WantOfMemory h = absurd (cc h)
passes e h = by_cause e h where
  by_cause : (e : OciDistributionError) → is_memory e ≡ false → passed_over e ≡ Ok None
  by_cause refusal.WantOfMemory h = absurd (cc h)
  by_cause _ h = refl

-- a step whose refusal is ignored, unless memory ran out
pub passed_met : {p : Row (Option RegistryTokenType)} (moment : ℕ) (key : Key) (e : OciDistributionError) {old new : Link} {k l : AuthState} {r : Result (Option RegistryTokenType) OciDistributionError}
    → r ≡ passed_over e → Meets is_memory p old new k l (Err e) → Meets is_memory (bind p (taken moment key)) old new k l r
passed_met {p} moment key e {old} {new} {k} {l} {r} is met = by_test (is_memory e) refl where
  by_test : (b : Bool) → is_memory e ≡ b → Meets is_memory (bind p (taken moment key)) old new k l r
  by_test true h = rw (is ∙ memory_ends e h) (caught_memory (taken moment key) h met)
  by_test false h = rw (is ∙ passes e h) (caught_refusal (taken moment key) h met (passed e new l h))

-- a token is stored and used
pub keeps_token : (moment : ℕ) (key : Key) (token : RegistryTokenType) (link : Link) (k : AuthState) {tokens : TokenCache} → tokens ≡ with_token k.tokens key token moment → Meets is_memory (taken moment key (Ok (Some token))) link link k (record k { tokens = tokens }) (Ok (Some token))
keeps_token moment key token link k is = rw is (changes (λ k. with_kept k key token moment) (Some token) link k)

-- a token is stored, and its text returned
pub keeps_text : (moment : ℕ) (key : Key) (token : RegistryTokenType) (link : Link) (k : AuthState) {tokens : TokenCache} → tokens ≡ with_token k.tokens key token moment → Meets is_memory (kept_text moment key (Some token)) link link k (record k { tokens = tokens }) (Ok (shown_text token))
keeps_text moment key token link k is = rw is (recalled (λ k. keep (with_kept k key token moment) >>= (λ _. Done (Ok (shown_text token)))) (and_then (λ _. Done (Ok (shown_text token))) keeps done))

-- credentials are stored
pub stores : (image : Reference) (a : RegistryAuth) (link : Link) (k : AuthState) → Meets is_memory (store image a) link link k (stored k (resolved_registry image) a) (Ok tt)
unfolding store
stores image a link k = recalled (λ k. keep (stored k (resolved_registry image) a)) keeps

pub stores_as : (image : Reference) (a : RegistryAuth) (link : Link) (k l : AuthState) {registry : List ℕ} → l ≡ stored k registry a → registry ≡ resolved_registry image → Meets is_memory (store image a) link link k l (Ok tt)
stores_as image a link k l is registry_is = rw (is, registry_is) (stores image a link k)

-- which exchanges a call exposed that met a protocol
pub meets_told : {A : Type 0} (P : List Exchange → Type 0) {p : Row A} {old new : Link} {k l : AuthState} {r : Result A OciDistributionError} → ((c : List Exchange) → P c) → Meets is_memory p old new k l r → Told P old new
meets_told {A} P {p} {old} {new} {k} {l} {r} all met = by_result r met.outcome where
  by_memory : (b : Bool) (e : OciDistributionError) → MatchBool b (PerformsPrefix p old new k l) (Performs p old new k l (Err e)) → Told P old new
  by_memory true e h = record { conversation = h.conversation; told = h.told; holds = all h.conversation }
  by_memory false e h = record { conversation = h.conversation; told = h.told; holds = all h.conversation }

  by_result : (r : Result A OciDistributionError) → Outcome is_memory p old new k l r → Told P old new
  by_result (Ok a) h = record { conversation = h.conversation; told = h.told; holds = all h.conversation }
  by_result (Err e) h = by_memory (is_memory e) e h
