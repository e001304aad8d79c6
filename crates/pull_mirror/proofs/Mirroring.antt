-- What a copy states about its pull, and when nothing was pulled.
use Rattle.std.proofs.Common.{◌≡◌, ℕ, Bool, true, false, List, Option, Some, None, Result, Ok, Err, All, IfSome, IfOk, IfErr, IsErr, refl, sym, ap, subst, ◌∙◌}
use Rattle.oci_names.specs.Reference.{whole_text}
use Rattle.oci_names.specs.declared.reference.Reference.{Reference}
use Rattle.engine_terms.specs.declared.error.OciDistributionError.{OciDistributionError}
use Rattle.oci_manifests.specs.declared.promise.ResolverPromise.{ResolverPromise}
use Rattle.cosign_layers.specs.Satisfying.{PolicyContext}
use Rattle.cosign_chain.specs.Chain.{Chain}
use Rattle.cosign_chain.specs.Links.{Links}
use Rattle.cosign_chain.specs.declared.image.VerifiedImage.{VerifiedImage}
use Rattle.cosign_rows.specs.Refusal.{is_memory}
use Rattle.cosign_rows.specs.declared.refusal.PullRefusal.{PullRefusal}
use Rattle.pull_mirror.specs.Errors.{IsTargetError, IsTargetOf}
use Rattle.pull_mirror.specs.Found.{Follows, IfPulled, IfFound, IfNotFound, IfStopped, IfNoTarget}
use Rattle.pull_mirror.specs.Pushes.{IsNamed, pushes}
use Rattle.pull_mirror.specs.Signatures.{AreTyped}
use Rattle.pull_mirror.specs.Targets.{is_target}
use Rattle.pull_mirror.specs.declared.refusals.MirrorError.{MirrorError}
use Rattle.pull_mirror.specs.declared.refusals.MirrorError.TheVariants.{Target, Pull, Push, WantOfMemory}
use Rattle.pull_mirror.specs.declared.refusals.MirrorReport.{MirrorReport}
use Rattle.pull_mirror.proofs.Images.{all_named}
use Rattle.pull_mirror.proofs.Typed.{all_typed}

-- ---- after a pull

-- what holds for the result of the pull
pub pulled_as : (P : Result VerifiedImage PullRefusal → Type 0) (pulled : Result VerifiedImage PullRefusal) (r : Result MirrorReport MirrorError) → Follows pulled r → P pulled → IfPulled r P
pulled_as P pulled (Ok report) follows h = subst P follows h
pulled_as P pulled (Err (Target reference)) follows h = absurd follows
pulled_as P pulled (Err (Pull e)) follows h = subst P follows.0 h
pulled_as P pulled (Err (Push found digest error)) follows h = subst P follows h
pulled_as P pulled (Err WantOfMemory) follows h = tt

-- an error of the pull that is stated is not that memory ran out
pub plain_pull : (P : PullRefusal → Type 0) (pulled : Result VerifiedImage PullRefusal) (r : Result MirrorReport MirrorError) → Follows pulled r → IfErr pulled P → IfNotFound r (λ e. (is_memory e ≡ false) × P e)
plain_pull P pulled (Ok report) follows h = tt
plain_pull P pulled (Err (Target reference)) follows h = absurd follows
plain_pull P pulled (Err (Pull e)) follows h = (follows.1, subst (λ p. IfErr p P) follows.0 h)
plain_pull P pulled (Err (Push found digest error)) follows h = tt
plain_pull P pulled (Err WantOfMemory) follows h = tt

pub refused_pull : (Q : Type 0) (pulled : Result VerifiedImage PullRefusal) (r : Result MirrorReport MirrorError) → Follows pulled r → (IsErr pulled → Q) → IfNotFound r (λ e. Q)
refused_pull Q pulled (Ok report) follows h = tt
refused_pull Q pulled (Err (Target reference)) follows h = absurd follows
refused_pull Q pulled (Err (Pull e)) follows h = subst (λ p. (IsErr p → Q) → Q) (sym follows.0) (λ g. g refl) h
refused_pull Q pulled (Err (Push found digest error)) follows h = tt
refused_pull Q pulled (Err WantOfMemory) follows h = tt

pub targeted : (P : List ℕ → Type 0) (pulled : Result VerifiedImage PullRefusal) (r : Result MirrorReport MirrorError) → Follows pulled r → IfNoTarget r P
targeted P pulled (Ok report) follows = tt
targeted P pulled (Err (Target reference)) follows = absurd follows
targeted P pulled (Err (Pull e)) follows = tt
targeted P pulled (Err (Push found digest error)) follows = tt
targeted P pulled (Err WantOfMemory) follows = tt

pub named_if : (image : Reference) (accepted : List (List ℕ)) (target : Reference) (pulled : Result VerifiedImage PullRefusal) → IfOk pulled (λ v. Links image accepted v) → IfOk pulled (λ v. All IsNamed (pushes v target))
named_if image accepted target (Ok v) links = all_named image accepted v target links
named_if image accepted target (Err e) links = tt

pub typed_if : {V : Type 0} {H : V → Type 0} (policy_context : PolicyContext V H) (image : Reference) (accepted : List (List ℕ)) (promise : Option ResolverPromise) (pulled : Result VerifiedImage PullRefusal) → IfOk pulled (λ v. Chain policy_context image accepted promise v) → IfOk pulled AreTyped
typed_if policy_context image accepted promise (Ok v) chain = all_typed promise v chain
typed_if policy_context image accepted promise (Err e) chain = tt

-- ---- the target was refused

module _ (target : Reference) where
  pub nothing_pulled : (P : Result VerifiedImage PullRefusal → Type 0) (e : MirrorError) → IsTargetError target (Some e) → IfPulled (Err e) P
  nothing_pulled P (Target reference) is = tt
  nothing_pulled P (Pull e) is = absurd is
  nothing_pulled P (Push found digest error) is = absurd is
  nothing_pulled P WantOfMemory is = tt

  pub nothing_stopped : (P : VerifiedImage → List ℕ → OciDistributionError → Type 0) (e : MirrorError) → IsTargetError target (Some e) → IfStopped (Err e) P
  nothing_stopped P (Target reference) is = tt
  nothing_stopped P (Pull e) is = absurd is
  nothing_stopped P (Push found digest error) is = absurd is
  nothing_stopped P WantOfMemory is = tt

  pub target_is : (e : MirrorError) → IsTargetError target (Some e) → IsTargetOf target e
  target_is (Target reference) is = is.1
  target_is (Pull e) is = absurd is
  target_is (Push found digest error) is = absurd is
  target_is WantOfMemory is = tt

  pub target_cause : (e : MirrorError) → IsTargetError target (Some e) → IfNoTarget (Err e) (λ reference. (is_target target ≡ false) × (reference ≡ whole_text target))
  target_cause (Target reference) is = is
  target_cause (Pull e) is = absurd is
  target_cause (Push found digest error) is = absurd is
  target_cause WantOfMemory is = tt

-- a target is not refused
pub no_refusal : {Q : Type 0} (b : Bool) → b ≡ true → b ≡ false → Q
no_refusal true is other = absurd (cc other)
no_refusal false is other = absurd (cc is)
