use Rattle.std.proofs.Common.{◌≡◌, take}
use Rattle.recorded_case.specs.Replay.{state_of, FaultsOnlyWhereRecorded}
use Rattle.cosign_client.specs.State.{client_state}
use Rattle.pulled_cases.specs.PullsAt.{row_for, PullsAt}
use Rattle.pulled_cases.proofs.pulls.pull_each.Given as goal

-- the pulls so far; the settings and the keys of logs are unchanged, and the replay failed only if that is recorded
abbrev pub invariant-loop-moment : goal.invariant-loop-moment
invariant-loop-moment g l =
    PullsAt (row_for (λ b. (goal.VerificationConstraint-dyn g (b.vtable, b.value)).accepts b.value) l.terms (client_state l.fn.client).settings l.fn.client.rekor_pub_keys) (take l.moment-index l.moments) (state_of l.initial.replay) (state_of l.replay) (client_state l.fn.client).kept (client_state l.client).kept l.report
    × ((client_state l.client).settings ≡ (client_state l.fn.client).settings)
    × (l.client.rekor_pub_keys ≡ l.fn.client.rekor_pub_keys)
    × FaultsOnlyWhereRecorded l.replay
