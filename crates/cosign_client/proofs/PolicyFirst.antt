-- A call that refuses a policy without a constraint before it allocates memory.
use Rattle.std.proofs.Common.{◌≡◌, Bool, true, false, Result, Ok, Err, refl, ap}
use Rattle.std.specs.Prelude.{if◌then◌else◌}
use Rattle.std.specs.Result.{IsErrAnd}
use Rattle.std.proofs.lemmas.Result.{err_from_is_err_and}
use Rattle.oci_names.specs.declared.reference.Reference.{Reference}
use Rattle.oci_auth.specs.declared.auth.RegistryAuth.{RegistryAuth}
use Rattle.oci_transport.specs.Link.{Link}
use Rattle.oci_protocol.specs.Proto.{Proto, Done, ◌>>=◌}
use Rattle.oci_protocol.specs.Runs.{Meets}
use Rattle.oci_protocol.proofs.Laws.{Meets-refused, Meets-err}
use Rattle.engine_terms.specs.Contexts.{Context}
use Rattle.registry_calls.specs.Clients.{Kept}
use Rattle.cosign_layers.specs.Satisfying.{PolicyContext}
use Rattle.cosign_rows.specs.Refusal.{is_memory}
use Rattle.cosign_rows.specs.Verified.{constrained, is_unconstrained}
use Rattle.cosign_rows.specs.declared.found.TrustedLayers.{TrustedLayers}
use Rattle.cosign_rows.specs.declared.refusal.PullRefusal.{PullRefusal}
use Rattle.cosign_rows.specs.declared.refusal.PullRefusal.TheVariants as refusal
use Rattle.cosign_rows.proofs.Exits.{meets_wanting}
use Rattle.cosign_rows.specs.Rows.{collected, documents_after, decided, documents_row}

-- ---- the rows refuse such a policy

refused_by : {A : Type 0} (f : Unit {0} → Proto Kept (Result A PullRefusal)) (link : Link) (k : Kept) (b : Bool) → b ≡ true → Meets is_memory (Done (constrained b) >>= f) link link k k (Err refusal.EmptyPolicy)
refused_by f link k true none = Meets-refused f (Meets-err is_memory link k refusal.EmptyPolicy refl)
refused_by f link k false none = absurd (cc none)

module _ {V : Type 0} {H : V → Type 0} (policy_context : PolicyContext V H) (s : Context) (image : Reference) (a : RegistryAuth) where
  pub collected_empty : {link : Link} {k : Kept} → is_unconstrained policy_context.policy ≡ true → Meets is_memory (collected policy_context s image a) link link k k (Err refusal.EmptyPolicy)
  unfolding collected
  collected_empty {link} {k} none = refused_by _ link k (is_unconstrained policy_context.policy) none

  pub documents_empty : {link : Link} {k : Kept} → is_unconstrained policy_context.policy ≡ true → Meets is_memory (documents_row policy_context s image a) link link k k (Err refusal.EmptyPolicy)
  unfolding documents_row
  documents_empty none = Meets-refused (λ found. documents_after policy_context s image a found) (collected_empty none)

  pub decided_empty : (found : TrustedLayers) {link : Link} {k : Kept} → is_unconstrained policy_context.policy ≡ true → Meets is_memory (decided policy_context s image a found) link link k k (Err refusal.EmptyPolicy)
  unfolding decided
  decided_empty found {link} {k} none = refused_by _ link k (is_unconstrained policy_context.policy) none

-- ---- the exit of a `?`

-- the refusal is that of the policy, or memory ran out
abbrev pub first_refusal : Bool → PullRefusal
first_refusal b = if b then refusal.EmptyPolicy else refusal.WantOfMemory

pub empty_before : {A : Type 0} (b : Bool) (x : PullRefusal) {r : Result A PullRefusal} → x ≡ first_refusal b → IsErrAnd r (λ y. y ≡ x) → b ≡ true → r ≡ Err refusal.EmptyPolicy
empty_before true x {r} is at none = let e = err_from_is_err_and r at in let same : x ≡ refusal.EmptyPolicy = is in rw (e.1, e.2, same) refl
empty_before false x is at none = absurd (cc none)

pub refused_before : {A : Type 0} {p : Proto Kept (Result A PullRefusal)} {link : Link} {k : Kept} (b : Bool) (x : PullRefusal) {r : Result A PullRefusal} → x ≡ first_refusal b → IsErrAnd r (λ y. y ≡ x)
    → (b ≡ true → Meets is_memory p link link k k (Err refusal.EmptyPolicy)) → Meets is_memory p link link k k r
refused_before true x {r} is at empty = rw (empty_before true x is at refl) (empty refl)
refused_before false x is at empty = meets_wanting x (ap is_memory is) at
