use Rattle.std.proofs.Common.{refl, ap, ◌∙◌, ◌∷◌, [], ◌++◌}
use Rattle.pull_mirror.proofs.Copying.{unsent, is_refusal, answered_by}
use Rattle.pull_mirror.proofs.sending.send_next.Goals as goal

pub returns-in_err-name-clause-run : goal.returns-in_err-name-clause-run
returns-in_err-name-clause-run g c = unsent c.from_residual.result c.from_residual.ensures.1

pub returns-in_err-name-clause-refusal : goal.returns-in_err-name-clause-refusal
returns-in_err-name-clause-refusal g c = is_refusal _ c.from_residual.result c.from_residual.ensures.1

pub returns-in_err-digest-clause-run : goal.returns-in_err-digest-clause-run
returns-in_err-digest-clause-run g c = unsent c.from_residual-in_err-digest.result c.from_residual-in_err-digest.ensures.1

pub returns-in_err-digest-clause-refusal : goal.returns-in_err-digest-clause-refusal
returns-in_err-digest-clause-refusal g c = is_refusal _ c.from_residual-in_err-digest.result c.from_residual-in_err-digest.ensures.1

pub returns-in_err-push-clause-run : goal.returns-in_err-push-clause-run
returns-in_err-push-clause-run g c = unsent c.from_residual-in_err-push.result c.from_residual-in_err-push.ensures.1

pub returns-in_err-push-clause-refusal : goal.returns-in_err-push-clause-refusal
returns-in_err-push-clause-refusal g c = is_refusal _ c.from_residual-in_err-push.result c.from_residual-in_err-push.ensures.1

pub returns-in-Ok-clause-run : goal.returns-in-Ok-clause-run
returns-in-Ok-clause-run g c = c.in-Ok.ensures.run

pub returns-in-Ok-clause-digests : goal.returns-in-Ok-clause-digests
returns-in-Ok-clause-digests g c = rw (c.in_ok-digest.ensures, c.digest_of-2.ensures) at c.in_ok-push.ensures.ok

pub same-name : goal.same-name
same-name g c = refl

pub returns-clause-run : goal.returns-clause-run
returns-clause-run g c = answered_by c.refusal_of.result c.refusal_of.ensures.shown c.in-Err.ensures.run

pub returns-clause-refusal : goal.returns-clause-refusal
returns-clause-refusal g c = rw (c.in_ok-name.ensures, c.digest_of.ensures) at c.refusal_of.ensures.refusal
