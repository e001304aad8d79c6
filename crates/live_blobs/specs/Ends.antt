-- How a pull or a carry of blobs ends, by its exit status.
use Rattle.std.specs.Prelude.{◌≡◌, false, Result, Ok, Err}
use Rattle.engine_terms.specs.Error.{is_memory}
use Rattle.engine_terms.specs.declared.error.OciDistributionError.{OciDistributionError}
use Rattle.live_host.specs.Wire.{Wire}
use Rattle.live_host.specs.declared.streams.HostError.{HostError}
use Rattle.live_host.specs.declared.streams.HostError.TheVariants as host
use Rattle.live_pull.specs.declared.status.Status.{Status}
use Rattle.live_pull.specs.declared.status.Status.TheVariants as status

-- by the status: a result, or what broke the streams before it was sent; out of memory guarantees nothing
abbrev pub EndsBy : {A : Type 0} → (Result A OciDistributionError → Type 0) → (HostError → Type 0) → Status → Type 0
EndsBy {A} P Cut status.Pulled = (a : A) × P (Ok a)
EndsBy P Cut status.Refused = (e : OciDistributionError) × (is_memory e ≡ false) × P (Err e)
EndsBy P Cut status.UnreadableSettings = ⊥
EndsBy P Cut status.HostBroken = Cut host.Broken
EndsBy P Cut status.SinkFault = Cut host.Unwritten
EndsBy P Cut status.WantOfMemory = Unit {0}

-- memory did not run out
abbrev pub IsKept : {A : Type 0} → Result A OciDistributionError → Type 0
IsKept (Ok a) = Unit {0}
IsKept (Err e) = is_memory e ≡ false

-- how this result was sent, in frames for which `Gives` holds, or `Cuts` if something broke the streams
abbrev pub DeliversBy : {A : Type 0} → (Result A OciDistributionError → Wire → Wire → Type 0)
    → (Result A OciDistributionError → HostError → Wire → Wire → Type 0)
    → Result A OciDistributionError → Status → Wire → Wire → Type 0
DeliversBy Gives Cuts r s old new = EndsBy (λ x. (x ≡ r) × Gives x old new) (λ e. IsKept r × Cuts r e old new) s
