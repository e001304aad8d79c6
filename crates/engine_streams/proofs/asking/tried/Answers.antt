use Rattle.std.proofs.lemmas.List.{drop_all}
use Rattle.oci_protocol.proofs.Exits.{passed_on}
use Rattle.engine_rows.proofs.Exits.{wanting}
use Rattle.engine_steps.proofs.HelperTrees.{not_ok}
use Rattle.engine_streams.proofs.NextPlaces.{leads_start, left_more, passed, first_refused, first_found, next_unasked, next_asked, last_asked}
use Rattle.engine_streams.proofs.asking.tried.Goals as goal

pub loop-url-init : goal.loop-url-init
loop-url-init g c = leads_start _ _

pub returns-in_err-place : goal.returns-in_err-place
returns-in_err-place g c = record { run = λ k. c.loop-url.invariant.met _ _ _ _ (wanting c.from_residual.ensures.1); left = not_ok _ _ _ c.from_residual.ensures.1 }

pub loop-url-preserved-in_default : goal.loop-url-preserved-in_default
loop-url-preserved-in_default g c = passed _ _ _ _ _ _ _ _ c.loop-url-test.true c.url-item.is (rw c.as_str.ensures at c.in_ok-place.ensures) c.in_default.is c.loop-url.invariant

pub returns-in_err-found : goal.returns-in_err-found
returns-in_err-found g c = record { run = λ k. c.loop-url.invariant.met _ _ _ _ (first_refused _ _ _ _ _ _ _ _ _ c.loop-url-test.true c.url-item.is (rw c.as_str.ensures at c.in_ok-place.ensures) c.in-Some.is (c.in_err-found.ensures.run k) c.from_residual-in_err-found.ensures.1); left = not_ok _ _ _ c.from_residual-in_err-found.ensures.1 }

pub returns-in-Some-found : goal.returns-in-Some-found
returns-in-Some-found g c = record { run = λ k. c.loop-url.invariant.met _ _ _ _ (first_found _ _ _ _ _ _ _ _ _ _ _ c.loop-url-test.true c.url-item.is (rw c.as_str.ensures at c.in_ok-place.ensures) c.in-Some.is (c.in_ok-found.ensures.run k) c.in-Some-found.is); left = left_more c.loop-url.invariant.told (rw c.in-Some-found.is at c.in_ok-found.ensures.left) }

pub returns-in_err-next : goal.returns-in_err-next
returns-in_err-next g c = record { run = λ k. c.loop-url.invariant.met _ _ _ _ (next_unasked _ _ _ _ _ _ _ _ _ _ _ c.loop-url-test.true c.url-item.is (rw c.as_str.ensures at c.in_ok-place.ensures) c.in-Some.is (c.in_ok-found.ensures.run k) c.in_default-found.is c.in_err-next.ensures c.from_residual-in_err-next.ensures.1); left = not_ok _ _ _ c.from_residual-in_err-next.ensures.1 }

pub loop-url-preserved : goal.loop-url-preserved
loop-url-preserved g c = next_asked _ _ _ _ _ _ _ _ _ _ _ c.loop-url-test.true c.url-item.is (rw c.as_str.ensures at c.in_ok-place.ensures) c.in-Some.is c.in_ok-found.ensures.run c.in_default-found.is c.in_ok-next.ensures c.loop-url.invariant

pub returns-in_err-opening : goal.returns-in_err-opening
returns-in_err-opening g c = record { run = λ k. c.loop-url.invariant.met _ _ _ _ (passed_on (last_asked _ _ _ _ _ (drop_all _ _ c.loop-url-test.false) (c.in_err-opening.ensures.run k)) c.from_residual-in_err-opening.ensures.1); left = not_ok _ _ _ c.from_residual-in_err-opening.ensures.1 }

pub returns : goal.returns
returns g c = record { run = λ k. c.loop-url.invariant.met _ _ _ _ (last_asked _ _ _ _ _ (drop_all _ _ c.loop-url-test.false) (c.in_ok-opening.ensures.run k)); left = left_more c.loop-url.invariant.told c.in_ok-opening.ensures.left }
