use Rattle.live_host.specs.Wire.{wire}
use Rattle.live_check.proofs.Ends.{blob_cut, blob_unasked, passed_on}
use Rattle.live_check.proofs.blobs.blob_stands.Goals as goal

pub returns-in_err-tell-clause-cause : goal.returns-in_err-tell-clause-cause
returns-in_err-tell-clause-cause g c = passed_on _ _ _ (blob_unasked c.args.x.now _ _ _ _ c.in_ok-head.ensures.head c.in_err-tell.ensures.cause) c.from_residual-in_err-tell.ensures

pub returns-in_err-stood-clause-cause : goal.returns-in_err-stood-clause-cause
returns-in_err-stood-clause-cause g c = passed_on _ _ _ (blob_cut c.args.x.now _ _ _ (wire g.S.Source.state g.K.Sink.state c.tell.new.streams) _ c.in_ok-head.ensures.head c.in_ok-tell.ensures.told c.in_err-stood.ensures.cause) c.from_residual-in_err-stood.ensures
