-- What a copy did to its target, by the outcome of its pushes.
use Rattle.std.proofs.Common.{◌≡◌, ℕ, Bool, true, false, List, Option, Some, Result, Ok, Err, IfOk, IfErr, IsErr, refl, sym, ap, subst}
use Rattle.oci_auth.specs.declared.auth.RegistryAuth.{RegistryAuth}
use Rattle.oci_auth.specs.declared.auth_state.AuthState.{AuthState}
use Rattle.oci_auth.specs.declared.token_type.RegistryOperation.TheVariants.{Push as ForPush}
use Rattle.oci_names.specs.declared.reference.Reference.{Reference}
use Rattle.oci_protocol.specs.Runs.{Meets, Told}
use Rattle.oci_transport.specs.Link.{Link}
use Rattle.engine_terms.specs.Contexts.{Context}
use Rattle.engine_terms.specs.Error.{is_memory as of_memory}
use Rattle.engine_rows.specs.Confined.{Within}
use Rattle.engine_rows.specs.Held.{asking}
use Rattle.cosign_chain.specs.declared.image.VerifiedImage.{VerifiedImage}
use Rattle.cosign_rows.specs.Refusal.{is_memory}
use Rattle.cosign_rows.specs.declared.refusal.PullRefusal.{PullRefusal}
use Rattle.oci_engine.specs.Refusals.{FaultCounted}
use Rattle.pull_mirror.specs.Copies.{mirrored_row, with_stored}
use Rattle.pull_mirror.specs.Errors.{IfRefused, url_answered}
use Rattle.pull_mirror.specs.Found.{Follows}
use Rattle.pull_mirror.specs.Pushes.{digests_of, pushes}
use Rattle.pull_mirror.specs.Sides.{TargetSide, copy_of, pull_error_by, pull_error}
use Rattle.pull_mirror.specs.Stopped.{Stopped}
use Rattle.pull_mirror.specs.declared.refusals.MirrorError.{MirrorError}
use Rattle.pull_mirror.specs.declared.refusals.MirrorReport.{MirrorReport}
use Rattle.pull_mirror.specs.declared.refusals.PushRefusal.{PushRefusal}
use Rattle.pull_mirror.specs.declared.refusals.PushRefusal.TheVariants.{Refused, WantOfMemory}
use Rattle.pull_mirror.specs.declared.refusals.PushReport.{PushReport}
use Rattle.pull_mirror.proofs.Confining.{nothing_sent}

pub side_of : (s : Context) (target : Reference) (a : RegistryAuth) (v : VerifiedImage) (outcome : Result PushReport PushRefusal) {old new : Link} {k l : AuthState}
    → Meets of_memory (mirrored_row s target a v) old new k l (url_answered outcome)
    → IfOk outcome (λ report. report.pushed ≡ digests_of (pushes v target))
    → IfErr outcome (λ e. IfRefused e (λ digest error. Stopped s target (pushes v target) old new (with_stored target a k) l digest error × (of_memory error ≡ false)))
    → FaultCounted old new (url_answered outcome)
    → Told (Within (asking k s target ForPush (Some a)) s.settings l) old new
    → TargetSide s target a old new k l (copy_of v outcome)
side_of s target a v (Ok report) met pushed stopped fault confined = record { mirrored = met.outcome; pushed = pushed; stopped = tt; no_memory = tt; fault = tt; confined = confined }
side_of s target a v (Err (Refused digest error)) met pushed stopped fault confined = record { mirrored = tt; pushed = tt; stopped = stopped.0; no_memory = stopped.1; fault = λ is. fault (ap Err is); confined = confined }
side_of s target a v (Err WantOfMemory) met pushed stopped fault confined = record { mirrored = tt; pushed = tt; stopped = tt; no_memory = tt; fault = tt; confined = confined }

pub follows_copy : (v : VerifiedImage) (outcome : Result PushReport PushRefusal) → Follows (Ok v) (copy_of v outcome)
follows_copy v (Ok report) = refl
follows_copy v (Err (Refused digest error)) = refl
follows_copy v (Err WantOfMemory) = tt

-- ---- the pull was refused

pub follows_error : (e : PullRefusal) → Follows (Err e) (Err (pull_error e))
follows_error e = by_memory (is_memory e) refl where
  by_memory : (b : Bool) → is_memory e ≡ b → Follows (Err e) (Err (pull_error_by b e))
  by_memory true is = tt
  by_memory false is = (refl, is)

pub side_none : (s : Context) (target : Reference) (a : RegistryAuth) (link : Link) (k : AuthState) (e : PullRefusal) → TargetSide s target a link link k k (Err (pull_error e))
side_none s target a link k e = by_memory (is_memory e) where
  by_memory : (b : Bool) → TargetSide s target a link link k k (Err (pull_error_by b e))
  by_memory true = record { mirrored = tt; pushed = tt; stopped = tt; no_memory = tt; fault = tt; confined = nothing_sent s target (Some a) link k }
  by_memory false = record { mirrored = tt; pushed = tt; stopped = tt; no_memory = tt; fault = tt; confined = nothing_sent s target (Some a) link k }

-- ---- a result by its outcome

pub follows_as : (v : VerifiedImage) (outcome : Result PushReport PushRefusal) (r : Result MirrorReport MirrorError) → r ≡ copy_of v outcome → Follows (Ok v) r
follows_as v outcome r is = subst (Follows (Ok v)) (sym is) (follows_copy v outcome)

pub side_as : (s : Context) (target : Reference) (a : RegistryAuth) (v : VerifiedImage) (outcome : Result PushReport PushRefusal) (r : Result MirrorReport MirrorError) {old new : Link} {k l : AuthState} → r ≡ copy_of v outcome
    → Meets of_memory (mirrored_row s target a v) old new k l (url_answered outcome)
    → IfOk outcome (λ report. report.pushed ≡ digests_of (pushes v target))
    → IfErr outcome (λ e. IfRefused e (λ digest error. Stopped s target (pushes v target) old new (with_stored target a k) l digest error × (of_memory error ≡ false)))
    → FaultCounted old new (url_answered outcome)
    → Told (Within (asking k s target ForPush (Some a)) s.settings l) old new
    → TargetSide s target a old new k l r
side_as s target a v outcome r {old} {new} {k} {l} is met pushed stopped fault confined = subst (TargetSide s target a old new k l) (sym is) (side_of s target a v outcome met pushed stopped fault confined)

pub follows_refused : (pulled : Result VerifiedImage PullRefusal) (e : PullRefusal) (x : MirrorError) → pulled ≡ Err e → x ≡ pull_error e → Follows pulled (Err x)
follows_refused pulled e x pulled_is x_is = subst (λ y. Follows pulled (Err y)) (sym x_is) (subst (λ p. Follows p (Err (pull_error e))) (sym pulled_is) (follows_error e))

pub side_refused : (s : Context) (target : Reference) (a : RegistryAuth) (link : Link) (k : AuthState) (e : PullRefusal) (x : MirrorError) → x ≡ pull_error e → TargetSide s target a link link k k (Err x)
side_refused s target a link k e x is = subst (λ y. TargetSide s target a link link k k (Err y)) (sym is) (side_none s target a link k e)

pub follows_pulled : (pulled : Result VerifiedImage PullRefusal) (v : VerifiedImage) (r : Result MirrorReport MirrorError) → pulled ≡ Ok v → Follows (Ok v) r → Follows pulled r
follows_pulled pulled v r is follows = subst (λ p. Follows p r) (sym is) follows

pub not_refused : {Q : Type 0} (pulled : Result VerifiedImage PullRefusal) (v : VerifiedImage) → pulled ≡ Ok v → IsErr pulled → Q
not_refused pulled v is none = absurd (cc (subst IsErr is none))
