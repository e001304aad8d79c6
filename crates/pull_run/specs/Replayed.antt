-- A mirror over replays, before the parts of the case and of the target are put in.
use Rattle.std.specs.Prelude.{◌≡◌, false, List, [], Some, Result}
use Rattle.oci_protocol.specs.Runs.{Meets}
use Rattle.oci_transport.specs.declared.message.Exchange.{Exchange}
use Rattle.registry_calls.specs.Clients.{Kept}
use Rattle.cosign_chain.specs.declared.image.VerifiedImage.{VerifiedImage}
use Rattle.cosign_rows.specs.Refusal.{is_memory}
use Rattle.cosign_rows.specs.Verified.{Whole}
use Rattle.cosign_rows.specs.declared.refusal.PullRefusal.{PullRefusal}
use Rattle.recorded_case.specs.Registry.{answering_by}
use Rattle.recorded_case.specs.Replay.{state_of}
use Rattle.recorded_case.specs.declared.registry.Registry.{Registry}
use Rattle.recorded_case.specs.declared.replay.Replay.{Replay}
use Rattle.pulled_cases.specs.Pulls.{is_wanting}

-- a pull over a new replay of this registry, by a client in this state, with its conversation and its result
pub record PullsOver (row : Whole VerifiedImage) (registry : Registry) (k : Kept) (c : List Exchange)
    (outcome : Result VerifiedImage PullRefusal) : Type 0 where
  pub first : Replay
  pub last : Replay
  pub end : Kept
  pub untold : (state_of first).told ≡ Some []
  pub faultless : (state_of first).faults ≡ 0
  pub table : (state_of first).answers ≡ Some (answering_by registry)
  pub told : (state_of last).told ≡ Some c
  pub met : Meets is_memory row (state_of first) (state_of last) k end outcome
  pub whole : is_wanting outcome ≡ false
