use Rattle.std.proofs.Common.{[], refl}
use Rattle.live_host.specs.Heads.{begin_head}
use Rattle.live_host.specs.Wire.{wire}
use Rattle.live_host.proofs.FramesIn.{asks}
use Rattle.live_pull.specs.Settings.{settings_of}
use Rattle.live_pull.proofs.EarlyEnds.{begin_unheard, begin_untold, host_begins, passed_begin, unread_begins}
use Rattle.live_pull.proofs.live.begin.Goals as goal

pub returns-in_err-tell-clause-cause : goal.returns-in_err-tell-clause-cause
returns-in_err-tell-clause-cause g c = passed_begin _ _ _ _ (host_begins _ _ _ (begin_untold _ _ _ (rw c.in_ok-head.ensures.head at c.in_err-tell.ensures.cause))) c.from_residual-in_err-tell.ensures

pub returns-in_err-frame-clause-cause : goal.returns-in_err-frame-clause-cause
returns-in_err-frame-clause-cause g c = passed_begin _ _ _ _ (host_begins _ _ _ (begin_unheard _ _ (wire g.S.Source.state g.K.Sink.state c.tell.new.streams) _ (rw c.in_ok-head.ensures.head at c.in_ok-tell.ensures.told) c.in_err-frame.ensures.cause)) c.from_residual-in_err-frame.ensures

pub returns-in_err-settings-clause-cause : goal.returns-in_err-settings-clause-cause
returns-in_err-settings-clause-cause g c =
    passed_begin _ _ _ _ (unread_begins _ c.in_ok-frame.frame (wire g.S.Source.state g.K.Sink.state c.args.streams.now) (wire g.S.Source.state g.K.Sink.state c.tell.new.streams) (wire g.S.Source.state g.K.Sink.state c.hear.new.streams)
    (rw c.in_ok-head.ensures.head at c.in_ok-tell.ensures.told) c.in_ok-frame.ensures.heard c.in_err-settings.ensures.reads) c.from_residual-in_err-settings.ensures

pub returns-clause-begun : goal.returns-clause-begun
returns-clause-begun g c =
    asks c.in_ok-head.head begin_head _ [] settings_of c.in_ok-settings.settings c.in_ok-frame.frame c.in_ok-frame.frame _ _ _
    c.in_ok-head.ensures.head refl c.in_ok-tell.ensures.told c.in_ok-frame.ensures.heard refl c.in_ok-settings.ensures.reads
