use Rattle.live_host.proofs.FramesIn.{heard_none}
use Rattle.live_host.proofs.streams.hear.Goals as goal

pub returns-in-Err-SourceFault-clause-cause : goal.returns-in-Err-SourceFault-clause-cause
returns-in-Err-SourceFault-clause-cause g c = heard_none c.in-Err-SourceFault.field-0 _ _ (g.K.Sink.state c.args.streams.now.sink) c.in-Err-SourceFault.ensures.reads (λ h. cc (h, c.in-Err-SourceFault.field-0-is))

pub returns-in-Err-Ended-clause-cause : goal.returns-in-Err-Ended-clause-cause
returns-in-Err-Ended-clause-cause g c = heard_none c.in-Err-Ended.field-0 _ _ (g.K.Sink.state c.args.streams.now.sink) c.in-Err-Ended.ensures.reads (λ h. cc (h, c.in-Err-Ended.field-0-is))

pub returns-in-Err-TooLong-clause-cause : goal.returns-in-Err-TooLong-clause-cause
returns-in-Err-TooLong-clause-cause g c = heard_none c.in-Err-TooLong.field-0 _ _ (g.K.Sink.state c.args.streams.now.sink) c.in-Err-TooLong.ensures.reads (λ h. cc (h, c.in-Err-TooLong.field-0-is))

pub returns-in-Err-NoFrame-clause-cause : goal.returns-in-Err-NoFrame-clause-cause
returns-in-Err-NoFrame-clause-cause g c = heard_none c.in-Err-NoFrame.field-0 _ _ (g.K.Sink.state c.args.streams.now.sink) c.in-Err-NoFrame.ensures.reads (λ h. cc (h, c.in-Err-NoFrame.field-0-is))
