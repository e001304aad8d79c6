use Rattle.pull_run.proofs.Statuses.{no_input, put, none_made}
use Rattle.pull_run.proofs.program.serve.Goals as goal

pub returns-in-Err : goal.returns-in-Err
returns-in-Err g c =
    no_input g.T.Task.reads g.T.Task.Gives c.in-Err.status (g.S.Source.state c.args.source.now) (g.S.Source.state c.read_input.new.source) (g.K.Sink.state c.args.sink.now) c.in-Err.ensures.reads

pub make-requires : goal.make-requires
make-requires g c = c.in-Ok.ensures.valid

pub returns-in-Ok-make : goal.returns-in-Ok-make
returns-in-Ok-make g c =
    put g.T.Task.reads g.T.Task.Gives c.in-Ok.input c.in-Ok-make.report c.deliver.result (g.S.Source.state c.args.source.now) (g.S.Source.state c.read_input.new.source) (g.K.Sink.state c.args.sink.now) (g.K.Sink.state c.deliver.new.sink)
    c.in-Ok.ensures.reads c.in-Ok-make.ensures c.deliver.ensures

pub returns-in-Err-make : goal.returns-in-Err-make
returns-in-Err-make g c =
    none_made g.T.Task.reads g.T.Task.Gives c.in-Ok.input (g.S.Source.state c.args.source.now) (g.S.Source.state c.read_input.new.source) (g.K.Sink.state c.args.sink.now) c.in-Ok.ensures.reads
