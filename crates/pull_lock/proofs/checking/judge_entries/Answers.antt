use Rattle.std.proofs.Common.{◌<◌, length, arith}
use Rattle.std.specs.Prelude.{option_copied}
use Rattle.std.proofs.lemmas.List.{take_all}
use Rattle.cosign_layers.specs.Satisfying.{policy_context}
use Rattle.cosign_parts.specs.Trust.{trust}
use Rattle.pull_lock.specs.Locked.{Locked}
use Rattle.pull_lock.proofs.Verdicts.{one_more, fails}
use Rattle.pull_lock.proofs.checking.judge_entries.Goals as goal

pub loop-entry-preserved : goal.loop-entry-preserved
loop-entry-preserved g c =
    one_more (Locked (policy_context c.args.policy.now (λ b. (goal.VerificationConstraint-dyn g (b.vtable, b.value)).accepts b.value)
    (trust (g.V.SignatureVerifier.valid c.args.verifier.now) (g.O.Offline.vouched c.args.judge.now) c.args.log_keys.now)) (option_copied c.args.promise))
    c.args.entries.now c.loop-entry.entry-index c.entry-item.result c.in_ok-locked.locked c.loop-entry-test.true c.entry-item.is c.in_ok-locked.ensures c.if-not-locked.false c.loop-entry.invariant

pub returns-then-not-locked : goal.returns-then-not-locked
returns-then-not-locked g c =
    fails (Locked (policy_context c.args.policy.now (λ b. (goal.VerificationConstraint-dyn g (b.vtable, b.value)).accepts b.value)
    (trust (g.V.SignatureVerifier.valid c.args.verifier.now) (g.O.Offline.vouched c.args.judge.now) c.args.log_keys.now)) (option_copied c.args.promise))
    c.args.entries.now c.loop-entry.entry-index c.entry-item.result c.in_ok-locked.locked c.in_ok-image.image c.loop-entry-test.true c.entry-item.is c.in_ok-locked.ensures c.if-not-locked.true c.loop-entry.invariant c.in_ok-image.ensures

pub returns : goal.returns
returns g c = rw (take_all _ _ c.loop-entry-test.false) at c.loop-entry.invariant
