use Rattle.std.proofs.Common.{refl, ◌∙◌, ◌+◌}
use Rattle.std.proofs.lemmas.List.{take_all}
use Rattle.pull_admit.proofs.Reviewing.{decided_nothing, decided_next, keeps_none, keeps_next, keeps_cut, next_image, terms_as}
use Rattle.pull_admit.proofs.decisions.review_each.Goals as goal

pub loop-image-init : goal.loop-image-init
loop-image-init g c = (decided_nothing _ _ _ c.new-decisions.result c.new-decisions.ensures, keeps_none _ _ _, refl, refl)

pub returns-in_err-review_next-clause-keeps : goal.returns-in_err-review_next-clause-keeps
returns-in_err-review_next-clause-keeps g c =
    keeps_cut (c.loop-image.image-index + 1) c.args.images.now (keeps_next
    (terms_as g.V.SignatureVerifier.valid g.O.Offline.vouched (λ b. (goal.VerificationConstraint-dyn g (b.vtable, b.value)).accepts b.value) c.args.pulling.now c.loop-image.invariant.3 c.loop-image.invariant.2)
    (next_image c.args.images.now c.loop-image.image-index c.image-item.result c.loop-image-test.true c.image-item.is)
    c.loop-image.invariant.1 c.in_err-review_next.ensures.keeps)

pub loop-image-preserved : goal.loop-image-preserved
loop-image-preserved g c = (
  decided_next
      (terms_as g.V.SignatureVerifier.valid g.O.Offline.vouched (λ b. (goal.VerificationConstraint-dyn g (b.vtable, b.value)).accepts b.value) c.args.pulling.now c.loop-image.invariant.3 c.loop-image.invariant.2)
      (next_image c.args.images.now c.loop-image.image-index c.image-item.result c.loop-image-test.true c.image-item.is)
      c.loop-image.invariant.0 c.loop-image.invariant.1 c.in_ok-review_next.ensures.decided,
  keeps_next
      (terms_as g.V.SignatureVerifier.valid g.O.Offline.vouched (λ b. (goal.VerificationConstraint-dyn g (b.vtable, b.value)).accepts b.value) c.args.pulling.now c.loop-image.invariant.3 c.loop-image.invariant.2)
      (next_image c.args.images.now c.loop-image.image-index c.image-item.result c.loop-image-test.true c.image-item.is)
      c.loop-image.invariant.1 c.in_ok-review_next.ensures.keeps,
  c.in_ok-review_next.ensures.settings ∙ c.loop-image.invariant.2,
  c.in_ok-review_next.ensures.log_keys ∙ c.loop-image.invariant.3,
)

pub returns-clause-decided : goal.returns-clause-decided
returns-clause-decided g c = rw (take_all _ _ c.loop-image-test.false) at c.loop-image.invariant.0

pub returns-clause-keeps : goal.returns-clause-keeps
returns-clause-keeps g c = rw (take_all _ _ c.loop-image-test.false) at c.loop-image.invariant.1
