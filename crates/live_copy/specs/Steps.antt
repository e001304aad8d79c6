-- What the steps of the questions state, for the proofs.
use Rattle.std.specs.Prelude.{◌≡◌, ℕ, false, List, bytes_eq}
use Rattle.engine_terms.specs.Error.{is_memory}
use Rattle.engine_terms.specs.declared.error.OciDistributionError.{OciDistributionError}
use Rattle.live_copy.specs.FreeTargets.{is_unknown}
use Rattle.live_copy.specs.declared.refusals.TargetRefusal.{TargetRefusal}
use Rattle.live_copy.specs.declared.refusals.TargetRefusal.TheVariants.{Taken, Unread, WantOfMemory}

-- a tag of this reference names this digest and not this own one
abbrev pub SaysTaken : (reference digest own : List ℕ) → TargetRefusal → Type 0
SaysTaken reference digest own (Taken name other) =
    (name ≡ reference) × (other ≡ digest) × (bytes_eq digest own ≡ false)
SaysTaken reference digest own (Unread name error) = ⊥
SaysTaken reference digest own WantOfMemory = ⊥

-- the question about a tag of this reference was refused with this error
abbrev pub SaysUnread : List ℕ → OciDistributionError → TargetRefusal → Type 0
SaysUnread reference e (Taken name digest) = ⊥
SaysUnread reference e (Unread name error) =
    (name ≡ reference) × (error ≡ e) × (is_memory e ≡ false) × (is_unknown e ≡ false)
SaysUnread reference e WantOfMemory = Unit {0}
