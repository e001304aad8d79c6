-- What a copy states about its pull and its pushes.
use Rattle.std.specs.Prelude.{◌≡◌, ℕ, false, List, Option, Some, None, Result, Ok, Err, IfSome, IfOk, IfErr}
use Rattle.engine_terms.specs.declared.error.OciDistributionError.{OciDistributionError}
use Rattle.cosign_chain.specs.declared.image.VerifiedImage.{VerifiedImage}
use Rattle.cosign_rows.specs.Refusal.{is_memory}
use Rattle.cosign_rows.specs.declared.refusal.PullRefusal.{PullRefusal}
use Rattle.pull_mirror.specs.declared.refusals.MirrorError.{MirrorError}
use Rattle.pull_mirror.specs.declared.refusals.MirrorError.TheVariants.{Target, Pull, Push, WantOfMemory}
use Rattle.pull_mirror.specs.declared.refusals.MirrorReport.{MirrorReport}

-- what the pull returned, if there was one and memory did not run out
abbrev pub pulled_of : Result MirrorReport MirrorError → Option (Result VerifiedImage PullRefusal)
pulled_of (Ok report) = Some (Ok report.found)
pulled_of (Err (Target reference)) = None
pulled_of (Err (Pull e)) = Some (Err e)
pulled_of (Err (Push found digest error)) = Some (Ok found)
pulled_of (Err WantOfMemory) = None

abbrev pub IfPulled : Result MirrorReport MirrorError → (Result VerifiedImage PullRefusal → Type 0) → Type 0
IfPulled r P = IfSome (pulled_of r) P

-- the image was pulled: it was copied, or a push was refused
abbrev pub IfFound : Result MirrorReport MirrorError → (VerifiedImage → Type 0) → Type 0
IfFound r P = IfPulled r (λ pulled. IfOk pulled P)

-- the pull was refused
abbrev pub IfNotFound : Result MirrorReport MirrorError → (PullRefusal → Type 0) → Type 0
IfNotFound r P = IfPulled r (λ pulled. IfErr pulled P)

-- a push was refused
abbrev pub IfStopped : Result MirrorReport MirrorError → (VerifiedImage → List ℕ → OciDistributionError → Type 0)
    → Type 0
IfStopped (Err (Push found digest error)) P = P found digest error
IfStopped _ P = Unit {0}

-- the target was refused
abbrev pub IfNoTarget : Result MirrorReport MirrorError → (List ℕ → Type 0) → Type 0
IfNoTarget (Err (Target reference)) P = P reference
IfNoTarget _ P = Unit {0}

-- what the copy does with what the pull returned
abbrev pub Follows : Result VerifiedImage PullRefusal → Result MirrorReport MirrorError → Type 0
Follows pulled (Ok report) = pulled ≡ Ok report.found
Follows pulled (Err (Target reference)) = ⊥
Follows pulled (Err (Pull e)) = (pulled ≡ Err e) × (is_memory e ≡ false)
Follows pulled (Err (Push found digest error)) = pulled ≡ Ok found
Follows pulled (Err WantOfMemory) = Unit {0}
