-- A response that is refused for its status.
use Rattle.std.proofs.Common.{◌≡◌, ◌≢◌, ℕ, Bool, true, false, List, Option, Some, None, Result, Ok, Err, refl, subst, []}
use Rattle.std.specs.Prelude.{nat_eq, if◌then◌else◌}
use Rattle.serde_json.specs.Data.{Data}
use Rattle.oci_errors.specs.declared.envelope.OciEnvelope.{OciEnvelope}
use Rattle.oci_transport.specs.declared.message.Answer.{Answer}
use Rattle.oci_transport.specs.declared.message.Exchange.{Exchange}
use Rattle.engine_terms.specs.declared.error.GenericCause.TheVariants.{HeaderText}
use Rattle.engine_terms.specs.declared.error.SpecViolation.TheVariants.{Status}
use Rattle.engine_terms.specs.declared.error.OciDistributionError.{OciDistributionError}
use Rattle.engine_terms.specs.declared.error.OciDistributionError.TheVariants as refusal
use Rattle.engine_terms.specs.Error.{is_memory}
use Rattle.engine_terms.specs.declared.settings.Settings.{Settings}
use Rattle.engine_answers.specs.Answers.{is_success, is_client_error, envelope_in, by_envelope, refused_answer, accepted}
use Rattle.engine_rows.specs.Causes.{Act, LastAnswer, AnswerCause, Cause}
use Rattle.engine_rows.specs.Held.{Entry}
use Rattle.request_laws.proofs.DocumentCauses.{status_cause, status_other}
use Rattle.request_laws.proofs.EarlyCauses.{AnyValue}
use Rattle.request_laws.proofs.ShownTokens.{HeaderCause}
use Rattle.engine_pull.specs.Causes.{BadValue, StatusCause, ListAnswer}
use Rattle.call_laws.proofs.BareRequests.{bad_value}

-- a call that was given no digest
abbrev NoDigest : List ℕ → Type 0
NoDigest text = ⊥

-- ---- the refusals for a status

abbrev pub IsOfStatus : OciDistributionError → Type 0
IsOfStatus (refusal.UnauthorizedError url) = Unit {0}
IsOfStatus (refusal.RegistryError envelope url) = Unit {0}
IsOfStatus (refusal.ServerError status url body) = Unit {0}
IsOfStatus (refusal.SpecViolationError violation) = Unit {0}
IsOfStatus _ = ⊥

envelope_status : (url : List ℕ) (answer : Answer) (o : Option OciEnvelope) → IsOfStatus (by_envelope url answer o)
envelope_status url answer (Some envelope) = tt
envelope_status url answer None = tt

refused_status : (url : List ℕ) (answer : Answer) → IsOfStatus (refused_answer 200 url answer)
refused_status url answer = by_status (nat_eq answer.status 401) (is_success answer.status) (is_client_error answer.status) where
  by_status : (a b c : Bool) → IsOfStatus (if a then refusal.UnauthorizedError url else (if b then refusal.SpecViolationError (Status 200 answer.status url) else (if c then by_envelope url answer (envelope_in answer.body) else refusal.ServerError answer.status url answer.body)))
  by_status true b c = tt
  by_status false true c = tt
  by_status false false true = envelope_status url answer (envelope_in answer.body)
  by_status false false false = tt

-- ---- as causes

of_status : (address : List ℕ) (answer : Answer) (e : OciDistributionError) → IsOfStatus e → AnswerCause NoDigest address answer e → StatusCause address answer e
of_status address answer (refusal.UnauthorizedError url) of h = h
of_status address answer (refusal.RegistryError envelope url) of h = h
of_status address answer (refusal.ServerError status url body) of h = h
of_status address answer (refusal.SpecViolationError violation) of h = h
of_status address answer e of h = absurd of

-- of a list
pub list_status : {A : Type 0} (table : Data → Option A) (address : List ℕ) (answer : Answer) (e : OciDistributionError) → IsOfStatus e → StatusCause address answer e → ListAnswer table address answer e
list_status table address answer (refusal.UnauthorizedError url) of h = h
list_status table address answer (refusal.RegistryError envelope url) of h = h
list_status table address answer (refusal.ServerError status url body) of h = h
list_status table address answer (refusal.SpecViolationError violation) of h = h
list_status table address answer e of h = absurd of

-- the last response shows the cause, by what a refusal for a status is of its call
pub refused_cause : (T : Act → Type 0) (Of : List ℕ → Answer → OciDistributionError → Type 0) (s : Settings) (now : ℕ) (c : List Exchange) (address : List ℕ) (answer : Answer) → LastAnswer T c address answer → answer.status ≢ 200 → ((e : OciDistributionError) → IsOfStatus e → StatusCause address answer e → Of address answer e) → Cause T Of AnyValue s c now (refused_answer 200 address answer)
refused_cause T Of s now c address answer last other more = by_kind (refused_answer 200 address answer) (refused_status address answer) (status_cause NoDigest address answer other) where
  by_kind : (e : OciDistributionError) → IsOfStatus e → AnswerCause NoDigest address answer e → Cause T Of AnyValue s c now e
  by_kind (refusal.UnauthorizedError url) of h = record { address = address; answer = answer; last = last; holds = more (refusal.UnauthorizedError url) tt (of_status address answer (refusal.UnauthorizedError url) tt h) }
  by_kind (refusal.RegistryError envelope url) of h = record { address = address; answer = answer; last = last; holds = more (refusal.RegistryError envelope url) tt (of_status address answer (refusal.RegistryError envelope url) tt h) }
  by_kind (refusal.ServerError status url body) of h = record { address = address; answer = answer; last = last; holds = more (refusal.ServerError status url body) tt (of_status address answer (refusal.ServerError status url body) tt h) }
  by_kind (refusal.SpecViolationError violation) of h = record { address = address; answer = answer; last = last; holds = more (refusal.SpecViolationError violation) tt (of_status address answer (refusal.SpecViolationError violation) tt h) }
  by_kind e of h = absurd of

pub accepted_cause : (T : Act → Type 0) (Of : List ℕ → Answer → OciDistributionError → Type 0) (s : Settings) (now : ℕ) (c : List Exchange) (address : List ℕ) (answer : Answer) (e : OciDistributionError) → LastAnswer T c address answer → ((e : OciDistributionError) → IsOfStatus e → StatusCause address answer e → Of address answer e) → accepted 200 address answer ≡ Err e → Cause T Of AnyValue s c now e
accepted_cause T Of s now c address answer e last more = by_test (nat_eq answer.status 200) refl where
  by_test : (b : Bool) → nat_eq answer.status 200 ≡ b → ◌≡◌ {A = Result Answer OciDistributionError} (if b then Ok answer else Err (refused_answer 200 address answer)) (Err e) → Cause T Of AnyValue s c now e
  by_test true test is = absurd (cc is)
  by_test false test is = let same : refused_answer 200 address answer ≡ e = cc is in subst (Cause T Of AnyValue s c now) same (refused_cause T Of s now c address answer last (status_other answer.status 200 test) more)

-- ---- the causes of a call

-- with the values that are not valid header values
pub tight : (T : Act → Type 0) (Of : List ℕ → Answer → OciDistributionError → Type 0) (x : Entry) (s : Settings) (now : ℕ) (c : List Exchange) (e : OciDistributionError) → Cause T Of AnyValue s c now e → HeaderCause x s [] c e → Cause T Of (BadValue x s) s c now e
tight T Of x s now c (refusal.GenericError HeaderText) h bad = bad_value x s c bad
tight T Of x s now c _ h bad = h

-- out of memory has none
pub free : (T : Act → Type 0) (Of : List ℕ → Answer → OciDistributionError → Type 0) (Bad : List Exchange → Type 0) (s : Settings) (now : ℕ) (c : List Exchange) (e : OciDistributionError) → is_memory e ≡ true → Cause T Of Bad s c now e
free T Of Bad s now c refusal.WantOfMemory is = tt
free T Of Bad s now c _ is = absurd (cc is)
