-- Two calls of the registry's client in sequence.
use Rattle.std.proofs.Common.{◌≡◌, ◌≤◌, inl, ℕ, Bool, true, false, List, Option, Some, Result, Ok, Err, refl, sym, ap, subst, ◌∙◌, arith}
use Rattle.std.specs.Prelude.{if◌then◌else◌}
use Rattle.std.specs.Result.{IsErrAnd}
use Rattle.std.proofs.lemmas.Result.{err_from_is_err_and}
use Rattle.json_values.specs.Counts.{Increased}
use Rattle.oci_transport.specs.Link.{Link}
use Rattle.oci_names.specs.declared.reference.Reference.{Reference}
use Rattle.oci_auth.specs.declared.auth.RegistryAuth.{RegistryAuth}
use Rattle.oci_auth.specs.declared.auth_state.AuthState.{AuthState}
use Rattle.oci_auth.specs.declared.token_type.RegistryOperation.TheVariants as operation
use Rattle.oci_manifests.specs.declared.index.OciImageIndex.{OciImageIndex}
use Rattle.oci_protocol.specs.Proto.{◌>>=◌}
use Rattle.oci_protocol.specs.Runs.{Meets, Told}
use Rattle.oci_protocol.proofs.Laws.{Meets-next, Meets-refused, Runs-count}
use Rattle.engine_terms.specs.Contexts.{Context, within}
use Rattle.engine_terms.specs.declared.settings.Settings.{Settings}
use Rattle.engine_terms.specs.declared.error.OciDistributionError.{OciDistributionError}
use Rattle.engine_terms.specs.declared.error.OciDistributionError.TheVariants as engine
use Rattle.oci_transport.specs.declared.message.Exchange.{Exchange}
use Rattle.oci_engine.specs.declared.client.Client.{Client}
use Rattle.oci_engine.specs.Refusals.{RefusedFor}
use Rattle.json_values.specs.Refusals.{Matches}
use Rattle.engine_terms.specs.Error.{is_memory as engine_is_memory}
use Rattle.engine_rows.specs.Rows.{Row as Engine, token_given}
use Rattle.engine_rows.specs.Referrers.{pull_referrers}
use Rattle.engine_rows.specs.Confined.{Within}
use Rattle.engine_rows.specs.Held.{Entry, pulling}
use Rattle.engine_rows.specs.ReferrersCauses.{WithinReferrers}
use Rattle.engine_laws.proofs.ReferrersConfinement.{given_referrers_confined}
use Rattle.registry_calls.specs.declared.error.SigstoreError.{SigstoreError}
use Rattle.registry_calls.specs.declared.error.SigstoreError.TheVariants as sigstore
use Rattle.registry_calls.specs.declared.error_context.Called.{Called}
use Rattle.registry_calls.specs.Error.{is_memory, IsRefusedBy, NoSinkFault, registry_refusal}
use Rattle.registry_calls.specs.ErrorContext.{refusal, with_error_context}
use Rattle.sig_registry.proofs.InWords.{worded_fault, worded_no_sink}
use Rattle.registry_calls.specs.Clients.{Plain}
use Rattle.sig_registry.specs.States.{PlainlyMade}
use Rattle.oci_engine.specs.Kept.{auth_state_of}

-- an error that is the result of both
result_is : {B : Type 0} (e : SigstoreError) (r : Result B SigstoreError) → IsErrAnd r (λ x. x ≡ e) → r ≡ Err e
result_is e r is = let at = err_from_is_err_and r is in at.1 ∙ ap Err at.2

-- the first one was refused
pub made_refused : {A B : Type 0} (s : Settings) {p : Plain A} (f : A → Plain B) {c d : Client} {old new : Link} (e : SigstoreError) (r : Result B SigstoreError) → PlainlyMade s p c d old new (Err e) → IsErrAnd r (λ x. x ≡ e) → PlainlyMade s (p >>= f) c d old new r
made_refused {A} {B} s {p} f {c} {d} {old} {new} e r first is = record { made = by_settings } where
  by_settings : c.settings ≡ s → (d.settings ≡ s) × Meets is_memory (p >>= f) old new (auth_state_of c) (auth_state_of d) r
  by_settings same =
      let h : (d.settings ≡ s) × Meets is_memory p old new (auth_state_of c) (auth_state_of d) (Err e) = first.made same in
      (h.0, subst (λ z. Meets is_memory (p >>= f) old new (auth_state_of c) (auth_state_of d) z) (sym (result_is e r is)) (Meets-refused f h.1))

-- both succeeded
pub made_next : {A B : Type 0} (s : Settings) {p : Plain A} (f : A → Plain B) {c m d : Client} {old mid new : Link} (a : A) (r : Result B SigstoreError) → PlainlyMade s p c m old mid (Ok a) → PlainlyMade s (f a) m d mid new r → PlainlyMade s (p >>= f) c d old new r
made_next {A} {B} s {p} f {c} {m} {d} {old} {mid} {new} a r first second = record { made = by_settings } where
  by_settings : c.settings ≡ s → (d.settings ≡ s) × Meets is_memory (p >>= f) old new (auth_state_of c) (auth_state_of d) r
  by_settings same =
      let h : (m.settings ≡ s) × Meets is_memory p old mid (auth_state_of c) (auth_state_of m) (Ok a) = first.made same in
      let g : (d.settings ≡ s) × Meets is_memory (f a) mid new (auth_state_of m) (auth_state_of d) r = second.made h.0 in
      (g.0, Meets-next f h.1 g.1)

-- the first one's error is the result
pub refused_fault : {A B : Type 0} (called : Called) (text : List ℕ) (given : Result A OciDistributionError) (e : SigstoreError) (r : Result B SigstoreError) (P : Type 0) → (given ≡ Err engine.TransportFault → P) → Matches is_memory (Err e) (with_error_context called text given) → IsErrAnd r (λ x. x ≡ e) → IsRefusedBy registry_refusal engine.TransportFault r → P
refused_fault {A} {B} called text given e r P fault says is held = worded_fault called text given (Err e) P fault says (let Q : Result B SigstoreError → Type 0 = IsRefusedBy registry_refusal engine.TransportFault in subst Q (result_is e r is) held)

pub refused_no_sink : {A B : Type 0} (called : Called) (text : List ℕ) (Why : List Exchange → ℕ → OciDistributionError → Type 0) (old new : Link) (given : Result A OciDistributionError) (e : SigstoreError) (r : Result B SigstoreError) → ((c : List Exchange) (n : ℕ) → Why c n engine.SinkFault → ⊥) → RefusedFor Why old new given → Matches is_memory (Err e) (with_error_context called text given) → IsErrAnd r (λ x. x ≡ e) → NoSinkFault registry_refusal r
refused_no_sink {A} {B} called text Why old new given e r never causes says is held = worded_no_sink called text Why old new given (Err e) never causes says (let Q : Result B SigstoreError → Type 0 = IsRefusedBy registry_refusal engine.SinkFault in subst Q (result_is e r is) held)

-- a response with the call's context is the engine's response
pub worded_ok : {A : Type 0} (called : Called) (text : List ℕ) (r : Result A OciDistributionError) (a : A) → Matches is_memory (Ok a) (with_error_context called text r) → r ≡ Ok a
worded_ok called text (Ok b) a is = let same : b ≡ a = cc is in ap Ok same
worded_ok called text (Err e) a is = by_memory (engine_is_memory e) is where
  by_memory : (b : Bool) → (if b then Err sigstore.WantOfMemory else Err (refusal called text e)) ≡ Ok a → Err e ≡ Ok a
  by_memory true is = absurd (cc is)
  by_memory false is = absurd (cc is)

-- the fault count does not decrease in a successful call, so a fault in the second call is a fault of both
pub rose_in_second : {A : Type 0} {p : Engine A} {old mid : Link} {k l : AuthState} {r : Result A OciDistributionError} {a : A} {n : ℕ} → Meets engine_is_memory p old mid k l r → r ≡ Ok a → Increased mid.faults n → Increased old.faults n
rose_in_second {p = p} {old = old} {mid = mid} {k = k} {l = l} {a = a} {n = n} met is rose = by_answer (rw is at met) where
  by_answer : Meets engine_is_memory p old mid k l (Ok a) → Increased old.faults n
  by_answer h = let le : old.faults ≤ mid.faults = Runs-count p k l old.faults mid.faults h.outcome.conversation (Ok a) h.outcome.runs in omega (arith, le, rose)

-- where credentials are sent in both
pub first_confined : (x : Entry) (s : Settings) (l : AuthState) {old new : Link} → Told (Within x s l) old new → Told (WithinReferrers x s l) old new
first_confined x s l told = record { conversation = told.conversation; told = told.told; holds = inl told.holds }

pub both_confined : (s t : Settings) (moment : ℕ) (image : Reference) (a : RegistryAuth) (kind : Option (List ℕ)) {old mid new : Link} {k m l : AuthState} {r : Result (Option (List ℕ)) OciDistributionError} {given : Option (List ℕ)} {o : Result OciImageIndex OciDistributionError} → t ≡ s → r ≡ Ok given
    → Meets engine_is_memory (token_given (within s moment) image a operation.Pull) old mid k m r → Meets engine_is_memory (pull_referrers (within t moment) image kind) mid new m l o → Told (WithinReferrers (pulling k (within s moment) image (Some a)) s l) old new
both_confined s t moment image a kind same is first second = given_referrers_confined (within s moment) image a kind (Meets-next (λ u. pull_referrers (within s moment) image kind) (rw is at first) (rw same at second))
