-- Calls of the registry's client, with the context of the calls here.
use Rattle.std.proofs.Common.{◌≡◌, ℕ, Bool, true, false, List, Option, Some, None, Result, Ok, Err, refl, sym, ap, subst, ◌∙◌}
use Rattle.std.specs.Prelude.{MatchBool, if◌then◌else◌}
use Rattle.oci_transport.specs.declared.message.Exchange.{Exchange}
use Rattle.oci_transport.specs.Link.{Link}
use Rattle.oci_names.specs.declared.reference.Reference.{Reference}
use Rattle.oci_names.specs.Reference.{whole_text}
use Rattle.oci_auth.specs.declared.auth_state.AuthState.{AuthState}
use Rattle.oci_protocol.specs.Proto.{Done, bind}
use Rattle.oci_protocol.specs.Runs.{Meets, PerformsPrefix, Performs}
use Rattle.oci_protocol.proofs.Laws.{Meets-ok, Meets-caught, PerformsPrefix-start, PerformsPrefix-first, Performs-done}
use Rattle.engine_terms.specs.declared.settings.Settings.{Settings}
use Rattle.engine_terms.specs.declared.error.OciDistributionError.{OciDistributionError}
use Rattle.engine_terms.specs.declared.error.OciDistributionError.TheVariants as engine_refusal
use Rattle.json_values.specs.Refusals.{Matches}
use Rattle.engine_terms.specs.Error.{is_memory as engine_is_memory}
use Rattle.oci_engine.specs.Refusals.{RefusedFor}
use Rattle.registry_calls.specs.declared.error_context.Called.TheVariants.{FetchManifest, Pull, PullManifest, Push}
use Rattle.engine_rows.specs.Rows.{Row as Engine}
use Rattle.oci_engine.specs.declared.client.Client.{Client}
use Rattle.registry_calls.specs.declared.error.SigstoreError.{SigstoreError}
use Rattle.registry_calls.specs.declared.error.SigstoreError.TheVariants as sigstore
use Rattle.registry_calls.specs.declared.error_context.Called.{Called}
use Rattle.registry_calls.specs.Error.{is_memory, registry_refusal, IsRefusedBy, NoSinkFault}
use Rattle.registry_calls.specs.ErrorContext.{refusal, with_error_context}
use Rattle.registry_calls.specs.Clients.{Plain}
use Rattle.sig_registry.specs.States.{PlainlyMade}
use Rattle.registry_calls.specs.Calls.{in_words}
use Rattle.oci_engine.specs.Kept.{auth_state_of}

true_is_not_false : true ≡ false → ⊥
true_is_not_false h = cc h

said : {A : Type 0} (r : Result A SigstoreError) {s : Result A SigstoreError} {link : Link} {k : AuthState} → Matches is_memory r s → Meets is_memory (Done s) link link k k r
said (Ok a) {link} {k} h = rw h (Meets-ok is_memory link k a)
said {A} (Err e) {s} {link} {k} h = record { outcome = refusing (is_memory e) h } where
  refusing : (b : Bool) → MatchBool b (Unit {0}) (s ≡ Err e) → MatchBool b (PerformsPrefix {A = Result A SigstoreError} (Done s) link link k k) (Performs (Done s) link link k k (Err e))
  refusing true h = PerformsPrefix-start (Done s) link k
  refusing false h = rw h (Performs-done link k (Err e))

abbrev wants : {A : Type 0} → Result A SigstoreError → Bool
wants (Ok a) = false
wants (Err e) = is_memory e

-- an out-of-memory error cut the call short
cut : {A : Type 0} (p : Plain A) {old new : Link} {k l : AuthState} (s : Result A SigstoreError) → PerformsPrefix p old new k l → Matches is_memory s (Err sigstore.WantOfMemory) → Meets is_memory p old new k l s
cut p (Ok a) h w = absurd (true_is_not_false (ap wants w))
cut {A} p {old} {new} {k} {l} (Err e) h w = record { outcome = cut_off (is_memory e) refl w } where
  cut_off : (b : Bool) → is_memory e ≡ b → MatchBool b (Unit {0}) (◌≡◌ {A = Result A SigstoreError} (Err sigstore.WantOfMemory) (Err e)) → MatchBool b (PerformsPrefix p old new k l) (Performs p old new k l (Err e))
  cut_off true is w = h
  cut_off false is w = absurd (true_is_not_false (ap wants w ∙ is))

in_the_words : {A : Type 0} (called : Called) (image : Reference) {p : Engine A} {old new : Link} {k l : AuthState} (r : Result A OciDistributionError) (s : Result A SigstoreError)
    → Meets engine_is_memory p old new k l r → Matches is_memory s (with_error_context called (whole_text image) r) → Meets is_memory (in_words called image p) old new k l s
unfolding in_words
in_the_words called image (Ok a) s h w = Meets-caught (λ x. Done (with_error_context called (whole_text image) x)) h.outcome (said s w)
in_the_words {A} called image {p} {old} {new} {k} {l} (Err e) s h w = by_memory (engine_is_memory e) refl h.outcome where
  by_memory : (b : Bool) → engine_is_memory e ≡ b → MatchBool b (PerformsPrefix p old new k l) (Performs p old new k l (Err e)) → Meets is_memory (bind p (λ x. Done (with_error_context called (whole_text image) x))) old new k l s
  by_memory true is h = cut (bind p (λ x. Done (with_error_context called (whole_text image) x))) s (PerformsPrefix-first (λ x. Done (with_error_context called (whole_text image) x)) h) (rw is at w)
  by_memory false is h = Meets-caught (λ x. Done (with_error_context called (whole_text image) x)) h (said s w)

-- a call of a client whose settings are unchanged
pub made : {A : Type 0} (called : Called) (image : Reference) (row : Settings → Engine A) (s : Settings) {c d : Client} {old new : Link} {r : Result A OciDistributionError} {t : Result A SigstoreError}
    → d.settings ≡ c.settings → Meets engine_is_memory (row c.settings) old new (auth_state_of c) (auth_state_of d) r → Matches is_memory t (with_error_context called (whole_text image) r)
    → PlainlyMade s (in_words called image (row s)) c d old new t
made called image row s {c} {d} {old} {new} {r} {t} kept met says = record { made = λ same. (kept ∙ same, rw (sym same) (in_the_words called image r t met says)) }

-- ---- the error that an error holds

not_memory : (e : SigstoreError) (f : OciDistributionError) → is_memory e ≡ true → registry_refusal e ≡ Some f → ⊥
not_memory sigstore.WantOfMemory f is held = absurd (cc held)
not_memory _ f is held = absurd (cc is)

held_refusal : (called : Called) (text : List ℕ) (e : OciDistributionError) → registry_refusal (refusal called text e) ≡ Some e
held_refusal FetchManifest text e = refl
held_refusal Pull text e = refl
held_refusal PullManifest text e = refl
held_refusal Push text e = refl

by_engine : (b : Bool) (called : Called) (text : List ℕ) (e f : OciDistributionError) (x : SigstoreError) {A : Type 0} → ◌≡◌ {A = Result A SigstoreError} (if b then Err sigstore.WantOfMemory else Err (refusal called text e)) (Err x) → registry_refusal x ≡ Some f → e ≡ f
by_engine true called text e f x says held =
    let same : sigstore.WantOfMemory ≡ x = cc says in
    absurd (not_memory sigstore.WantOfMemory f refl (ap registry_refusal same ∙ held))
by_engine false called text e f x says held =
    let same : refusal called text e ≡ x = cc says in
    let both : Some e ≡ Some f = sym (held_refusal called text e) ∙ ap registry_refusal same ∙ held in
    cc both

-- if the call's error holds an error of the registry's client, the client returned that error
pub worded_refusal : {A : Type 0} (called : Called) (text : List ℕ) (f : OciDistributionError) (r : Result A OciDistributionError) (s : Result A SigstoreError) → Matches is_memory s (with_error_context called text r) → IsRefusedBy registry_refusal f s → r ≡ Err f
worded_refusal called text f r (Ok a) says held = absurd held
worded_refusal {A} called text f r (Err x) says held = by_memory (is_memory x) refl says where
  by_result : (r : Result A OciDistributionError) → with_error_context called text r ≡ Err x → r ≡ Err f
  by_result (Ok a) is = absurd (cc is)
  by_result (Err e) is = ap Err (by_engine (engine_is_memory e) called text e f x is held)

  by_memory : (b : Bool) → is_memory x ≡ b → MatchBool b (Unit {0}) (with_error_context called text r ≡ Err x) → r ≡ Err f
  by_memory true is says = absurd (not_memory x f is held)
  by_memory false is says = by_result r says

pub worded_fault : {A : Type 0} (called : Called) (text : List ℕ) (r : Result A OciDistributionError) (s : Result A SigstoreError) (P : Type 0) → (r ≡ Err engine_refusal.TransportFault → P) → Matches is_memory s (with_error_context called text r) → IsRefusedBy registry_refusal engine_refusal.TransportFault s → P
worded_fault called text r s P fault says held = fault (worded_refusal called text engine_refusal.TransportFault r s says held)

-- if the client's causes exclude a fault of a sink
pub worded_no_sink : {A : Type 0} (called : Called) (text : List ℕ) (Why : List Exchange → ℕ → OciDistributionError → Type 0) (old new : Link) (r : Result A OciDistributionError) (s : Result A SigstoreError) → ((c : List Exchange) (n : ℕ) → Why c n engine_refusal.SinkFault → ⊥) → RefusedFor Why old new r → Matches is_memory s (with_error_context called text r) → NoSinkFault registry_refusal s
worded_no_sink {A} called text Why old new r s never causes says held = by_result r causes (worded_refusal called text engine_refusal.SinkFault r s says held) where
  by_result : (r : Result A OciDistributionError) → RefusedFor Why old new r → r ≡ Err engine_refusal.SinkFault → ⊥
  by_result (Ok a) h is = absurd (cc is)
  by_result (Err e) h is = let same : e ≡ engine_refusal.SinkFault = cc is in never h.conversation new.faults (subst (Why h.conversation new.faults) same h.holds)
