use Rattle.serde_json.specs.Written.{compact_text}
use Rattle.live_host.proofs.Causes.{on_err, part_behind, part_of_line}
use Rattle.live_host.proofs.FramesOut.{told_behind}
use Rattle.live_host.proofs.streams.put_frame.Goals as goal

pub returns-clause-whole : goal.returns-clause-whole
returns-clause-whole g c =
    told_behind (compact_text c.args.head.now) c.args.bytes.now (g.K.Sink.state c.args.sink.now) (g.K.Sink.state c.write_frame.new.sink) (g.K.Sink.state c.put_all.new.sink)
    c.in_ok-write_frame.ensures.whole c.in_ok-put_all.ensures.whole

pub returns-in_err-write_frame-clause-part : goal.returns-in_err-write_frame-clause-part
returns-in_err-write_frame-clause-part g c =
    on_err _ _ (part_of_line (compact_text c.args.head.now) c.args.bytes.now (g.K.Sink.state c.args.sink.now) (g.K.Sink.state c.write_frame.new.sink) c.write_frame.ensures.prefix)

pub returns-in_err-put_all-clause-part : goal.returns-in_err-put_all-clause-part
returns-in_err-put_all-clause-part g c =
    on_err _ _ (part_behind (compact_text c.args.head.now) c.args.bytes.now (g.K.Sink.state c.args.sink.now) (g.K.Sink.state c.write_frame.new.sink) (g.K.Sink.state c.put_all.new.sink)
    c.in_ok-write_frame.ensures.whole c.put_all.ensures.prefix)
