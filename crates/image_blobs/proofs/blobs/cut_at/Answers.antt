use Rattle.std.proofs.Common.{refl, sym, ◌∙◌}
use Rattle.std.proofs.lemmas.List.{drop_all}
use Rattle.engine_pull.proofs.AttemptSteps.{spills_on}
use Rattle.engine_pull.proofs.PlacesInTurn.{put_wanting, put_taken, put_passed}
use Rattle.image_blobs.proofs.CutPlaces.{put_last, put_over, put_at, put_unasked, put_asked}
use Rattle.image_blobs.proofs.WithinSize.{within_none, within_same, unwritten}
use Rattle.image_blobs.proofs.blobs.cut_at.Goals as goal

pub loop-url-init : goal.loop-url-init
loop-url-init g c = (record { met = λ end k l later r rest. rest }, refl)

pub returns-in_err-place-clause-run : goal.returns-in_err-place-clause-run
returns-in_err-place-clause-run g c = λ k. c.loop-url.invariant.0.met _ k k _ _ (put_wanting c.from_residual.ensures.1)

pub loop-url-preserved-in_default : goal.loop-url-preserved-in_default
loop-url-preserved-in_default g c = (record { met = λ end k l later r rest. c.loop-url.invariant.0.met end k l later r (put_over _ _ _ _ _ _ _ c.loop-url-test.true c.url-item.is (rw c.as_str.ensures at (sym c.in_ok-place.ensures ∙ c.in_default.is)) rest) }, c.loop-url.invariant.1)

pub returns-in_err-put-clause-run : goal.returns-in_err-put-clause-run
returns-in_err-put-clause-run g c = λ k. c.loop-url.invariant.0.met _ k k _ _ (put_at _ _ _ _ _ _ _ _ c.loop-url-test.true c.url-item.is (rw c.as_str.ensures at (sym c.in_ok-place.ensures ∙ c.in-Some.is)) (spills_on (c.in_err-put.ensures.run k _) c.from_residual-in_err-put.ensures.1))

pub returns-then-put-clause-run : goal.returns-then-put-clause-run
returns-then-put-clause-run g c = λ k. c.loop-url.invariant.0.met _ k k _ _ (put_at _ _ _ _ _ _ _ _ c.loop-url-test.true c.url-item.is (rw c.as_str.ensures at (sym c.in_ok-place.ensures ∙ c.in-Some.is)) (put_taken _ _ c.if-put.true (c.in_ok-put.ensures.run k _)))

pub returns-in_err-request-clause-run : goal.returns-in_err-request-clause-run
returns-in_err-request-clause-run g c = λ k. c.loop-url.invariant.0.met _ k k _ _ (put_at _ _ _ _ _ _ _ _ c.loop-url-test.true c.url-item.is (rw c.as_str.ensures at (sym c.in_ok-place.ensures ∙ c.in-Some.is)) (put_passed _ c.if-put.false (c.in_ok-put.ensures.run k _) (put_unasked _ _ _ _ _ _ c.in_err-request.ensures c.from_residual-in_err-request.ensures.1)))

pub loop-url-preserved : goal.loop-url-preserved
loop-url-preserved g c = (record { met = λ end k l later r rest. c.loop-url.invariant.0.met end k l later r (put_at _ _ _ _ _ _ _ _ c.loop-url-test.true c.url-item.is (rw c.as_str.ensures at (sym c.in_ok-place.ensures ∙ c.in-Some.is)) (put_passed _ c.if-put.false (c.in_ok-put.ensures.run k _) (put_asked _ _ _ _ _ _ c.in_ok-request.ensures rest))) }, unwritten c.if-put.false c.in_ok-put.ensures.unwritten ∙ c.loop-url.invariant.1)

pub returns-in_err-attempt-clause-run : goal.returns-in_err-attempt-clause-run
returns-in_err-attempt-clause-run g c = λ k. c.loop-url.invariant.0.met _ k k _ _ (put_last _ _ _ _ _ (drop_all _ _ c.loop-url-test.false) (spills_on (c.in_err-attempt.ensures.run k) c.from_residual-in_err-attempt.ensures.1))

pub returns-clause-run : goal.returns-clause-run
returns-clause-run g c = λ k. c.loop-url.invariant.0.met _ k k _ _ (put_last _ _ _ _ _ (drop_all _ _ c.loop-url-test.false) (c.in_ok-attempt.ensures.run k))

pub returns-in_err-place-clause-within : goal.returns-in_err-place-clause-within
returns-in_err-place-clause-within g c = within_same _ c.loop-url.invariant.1 (within_none _ _)

pub returns-in_err-put-clause-within : goal.returns-in_err-put-clause-within
returns-in_err-put-clause-within g c = within_same _ c.loop-url.invariant.1 c.in_err-put.ensures.within

pub returns-then-put-clause-within : goal.returns-then-put-clause-within
returns-then-put-clause-within g c = within_same _ c.loop-url.invariant.1 c.in_ok-put.ensures.within

pub returns-in_err-request-clause-within : goal.returns-in_err-request-clause-within
returns-in_err-request-clause-within g c = within_same _ c.loop-url.invariant.1 c.in_ok-put.ensures.within

pub returns-in_err-attempt-clause-within : goal.returns-in_err-attempt-clause-within
returns-in_err-attempt-clause-within g c = within_same _ c.loop-url.invariant.1 c.in_err-attempt.ensures.within

pub returns-clause-within : goal.returns-clause-within
returns-clause-within g c = within_same _ c.loop-url.invariant.1 c.in_ok-attempt.ensures.within
