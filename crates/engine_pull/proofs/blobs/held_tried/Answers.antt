use Rattle.std.proofs.Common.{sym, ◌∙◌}
use Rattle.std.proofs.lemmas.List.{drop_all}
use Rattle.oci_protocol.proofs.Exits.{passed_on}
use Rattle.engine_rows.proofs.Exits.{wanting}
use Rattle.engine_pull.proofs.PlacesInTurn.{held_last, held_over, held_at, held_unasked, held_asked, held_taken, held_passed}
use Rattle.engine_pull.proofs.blobs.held_tried.Goals as goal

pub loop-url-init : goal.loop-url-init
loop-url-init g c = record { met = λ end k l r rest. rest }

pub returns-in_err-place : goal.returns-in_err-place
returns-in_err-place g c = λ k. c.loop-url.invariant.met _ k k _ (wanting c.from_residual.ensures.1)

pub loop-url-preserved-in_default : goal.loop-url-preserved-in_default
loop-url-preserved-in_default g c = record { met = λ end k l r rest. c.loop-url.invariant.met end k l r (held_over _ _ _ _ _ _ c.loop-url-test.true c.url-item.is (rw c.as_str.ensures at (sym c.in_ok-place.ensures ∙ c.in_default.is)) rest) }

pub returns-in_err-found : goal.returns-in_err-found
returns-in_err-found g c = λ k. c.loop-url.invariant.met _ k k _ (held_at _ _ _ _ _ _ _ c.loop-url-test.true c.url-item.is (rw c.as_str.ensures at (sym c.in_ok-place.ensures ∙ c.in-Some.is)) (passed_on (c.in_err-found.ensures.run k _) c.from_residual-in_err-found.ensures.1))

pub returns-in-Some-found : goal.returns-in-Some-found
returns-in-Some-found g c = λ k. c.loop-url.invariant.met _ k k _ (held_at _ _ _ _ _ _ _ c.loop-url-test.true c.url-item.is (rw c.as_str.ensures at (sym c.in_ok-place.ensures ∙ c.in-Some.is)) (held_taken _ _ _ c.in-Some-found.is (c.in_ok-found.ensures.run k _)))

pub returns-in_err-request : goal.returns-in_err-request
returns-in_err-request g c = λ k. c.loop-url.invariant.met _ k k _ (held_at _ _ _ _ _ _ _ c.loop-url-test.true c.url-item.is (rw c.as_str.ensures at (sym c.in_ok-place.ensures ∙ c.in-Some.is)) (held_passed _ c.in_default-found.is (c.in_ok-found.ensures.run k _) (held_unasked _ _ _ _ _ c.in_err-request.ensures c.from_residual-in_err-request.ensures.1)))

pub loop-url-preserved : goal.loop-url-preserved
loop-url-preserved g c = record { met = λ end k l r rest. c.loop-url.invariant.met end k l r (held_at _ _ _ _ _ _ _ c.loop-url-test.true c.url-item.is (rw c.as_str.ensures at (sym c.in_ok-place.ensures ∙ c.in-Some.is)) (held_passed _ c.in_default-found.is (c.in_ok-found.ensures.run k _) (held_asked _ _ _ _ _ c.in_ok-request.ensures rest))) }

pub returns-in_err-bytes : goal.returns-in_err-bytes
returns-in_err-bytes g c = λ k. c.loop-url.invariant.met _ k k _ (held_last _ _ _ _ (drop_all _ _ c.loop-url-test.false) (passed_on (c.in_err-bytes.ensures k) c.from_residual-in_err-bytes.ensures.1))

pub returns : goal.returns
returns g c = λ k. c.loop-url.invariant.met _ k k _ (held_last _ _ _ _ (drop_all _ _ c.loop-url-test.false) (c.in_ok-bytes.ensures k))
