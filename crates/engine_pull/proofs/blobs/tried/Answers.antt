use Rattle.std.proofs.Common.{sym, ◌∙◌}
use Rattle.std.proofs.lemmas.List.{drop_all}
use Rattle.engine_pull.proofs.AttemptSteps.{spills_on}
use Rattle.engine_pull.proofs.PlacesInTurn.{put_last, put_over, put_at, put_wanting, put_unasked, put_asked, put_taken, put_passed}
use Rattle.engine_pull.proofs.blobs.tried.Goals as goal

pub loop-url-init : goal.loop-url-init
loop-url-init g c = record { met = λ end k l later r rest. rest }

pub returns-in_err-place : goal.returns-in_err-place
returns-in_err-place g c = λ k. c.loop-url.invariant.met _ k k _ _ (put_wanting c.from_residual.ensures.1)

pub loop-url-preserved-in_default : goal.loop-url-preserved-in_default
loop-url-preserved-in_default g c = record { met = λ end k l later r rest. c.loop-url.invariant.met end k l later r (put_over _ _ _ _ _ _ c.loop-url-test.true c.url-item.is (rw c.as_str.ensures at (sym c.in_ok-place.ensures ∙ c.in_default.is)) rest) }

pub returns-in_err-put : goal.returns-in_err-put
returns-in_err-put g c = λ k. c.loop-url.invariant.met _ k k _ _ (put_at _ _ _ _ _ _ _ c.loop-url-test.true c.url-item.is (rw c.as_str.ensures at (sym c.in_ok-place.ensures ∙ c.in-Some.is)) (spills_on (c.in_err-put.ensures.run k _) c.from_residual-in_err-put.ensures.1))

pub returns-then-put : goal.returns-then-put
returns-then-put g c = λ k. c.loop-url.invariant.met _ k k _ _ (put_at _ _ _ _ _ _ _ c.loop-url-test.true c.url-item.is (rw c.as_str.ensures at (sym c.in_ok-place.ensures ∙ c.in-Some.is)) (put_taken _ _ c.if-put.true (c.in_ok-put.ensures.run k _)))

pub returns-in_err-request : goal.returns-in_err-request
returns-in_err-request g c = λ k. c.loop-url.invariant.met _ k k _ _ (put_at _ _ _ _ _ _ _ c.loop-url-test.true c.url-item.is (rw c.as_str.ensures at (sym c.in_ok-place.ensures ∙ c.in-Some.is)) (put_passed _ c.if-put.false (c.in_ok-put.ensures.run k _) (put_unasked _ _ _ _ _ c.in_err-request.ensures c.from_residual-in_err-request.ensures.1)))

pub loop-url-preserved : goal.loop-url-preserved
loop-url-preserved g c = record { met = λ end k l later r rest. c.loop-url.invariant.met end k l later r (put_at _ _ _ _ _ _ _ c.loop-url-test.true c.url-item.is (rw c.as_str.ensures at (sym c.in_ok-place.ensures ∙ c.in-Some.is)) (put_passed _ c.if-put.false (c.in_ok-put.ensures.run k _) (put_asked _ _ _ _ _ c.in_ok-request.ensures rest))) }

pub returns-in_err-attempt : goal.returns-in_err-attempt
returns-in_err-attempt g c = λ k. c.loop-url.invariant.met _ k k _ _ (put_last _ _ _ _ (drop_all _ _ c.loop-url-test.false) (spills_on (c.in_err-attempt.ensures k) c.from_residual-in_err-attempt.ensures.1))

pub returns : goal.returns
returns g c = λ k. c.loop-url.invariant.met _ k k _ _ (put_last _ _ _ _ (drop_all _ _ c.loop-url-test.false) (c.in_ok-attempt.ensures k))
