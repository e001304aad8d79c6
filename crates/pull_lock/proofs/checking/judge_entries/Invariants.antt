use Rattle.std.specs.List.{All}
use Rattle.std.proofs.Common.{take}
use Rattle.cosign_layers.specs.Satisfying.{policy_context}
use Rattle.cosign_parts.specs.Trust.{trust}
use Rattle.std.specs.Prelude.{option_copied}
use Rattle.pull_lock.specs.Locked.{Locked}
use Rattle.pull_lock.proofs.checking.judge_entries.Given as goal

-- the entries so far are locked
abbrev pub invariant-loop-entry : goal.invariant-loop-entry
invariant-loop-entry g l = All (Locked (policy_context l.policy (λ b. (goal.VerificationConstraint-dyn g (b.vtable, b.value)).accepts b.value)
    (trust (g.V.SignatureVerifier.valid l.verifier) (g.O.Offline.vouched l.judge) l.log_keys)) (option_copied l.promise)) (take l.entry-index l.entries)
