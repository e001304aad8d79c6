use Rattle.std.proofs.Common.{Ok}
use Rattle.image_blobs.proofs.CutPlaces.{says_on, asked_there, asked_elsewhere}
use Rattle.image_blobs.proofs.blobs.request_with.Goals as goal

pub returns-in_err-request : goal.returns-in_err-request
returns-in_err-request c = asked_there _ _ _ _ _ _ c.in_ok-goes.ensures c.if-goes.true (says_on _ _ _ c.in_err-request.ensures c.from_residual-in_err-request.ensures.1)

pub returns-then-goes : goal.returns-then-goes
returns-then-goes c = asked_there _ _ _ _ _ (Ok c.in_ok-request.request) c.in_ok-goes.ensures c.if-goes.true c.in_ok-request.ensures

pub returns-in_err-request-2 : goal.returns-in_err-request-2
returns-in_err-request-2 c = asked_elsewhere _ _ _ _ _ _ c.in_ok-goes.ensures c.if-goes.false (says_on _ _ _ c.in_err-request-2.ensures c.from_residual-in_err-request-2.ensures.1)

pub returns : goal.returns
returns c = asked_elsewhere _ _ _ _ _ (Ok c.in_ok-request-2.request) c.in_ok-goes.ensures c.if-goes.false c.in_ok-request-2.ensures
