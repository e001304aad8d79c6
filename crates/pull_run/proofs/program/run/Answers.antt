use Rattle.pull_run.proofs.Commands.{command_counts}
use Rattle.pull_run.proofs.CaseStatuses.{says_complete}
use Rattle.pull_run.proofs.Statuses.{says_unread, says_long, says_past, says_usage}
use Rattle.pull_run.proofs.program.run.Goals as goal

pub returns-clause-status : goal.returns-clause-status
returns-clause-status g c = (c.serve_command.result, c.code.ensures, rw c.command_of.ensures at c.serve_command.ensures)

pub returns-clause-usage : goal.returns-clause-usage
returns-clause-usage g c =
    says_usage c.args.words.now c.code.result (g.S.Source.state c.args.source.now) (g.S.Source.state c.serve_command.new.source) (g.K.Sink.state c.args.sink.now) (g.K.Sink.state c.serve_command.new.sink)
    (c.serve_command.result, c.code.ensures, rw c.command_of.ensures at c.serve_command.ensures)

pub returns-clause-unread : goal.returns-clause-unread
returns-clause-unread g c =
    says_unread c.args.words.now c.code.result (g.S.Source.state c.args.source.now) (g.S.Source.state c.serve_command.new.source) (g.K.Sink.state c.args.sink.now) (g.K.Sink.state c.serve_command.new.sink)
    (c.serve_command.result, c.code.ensures, rw c.command_of.ensures at c.serve_command.ensures)

pub returns-clause-long : goal.returns-clause-long
returns-clause-long g c =
    says_long c.args.words.now c.code.result (g.S.Source.state c.args.source.now) (g.S.Source.state c.serve_command.new.source) (g.K.Sink.state c.args.sink.now) (g.K.Sink.state c.serve_command.new.sink)
    (c.serve_command.result, c.code.ensures, rw c.command_of.ensures at c.serve_command.ensures)

pub returns-clause-past : goal.returns-clause-past
returns-clause-past g c =
    says_past c.args.words.now c.code.result (g.S.Source.state c.args.source.now) (g.S.Source.state c.serve_command.new.source) (g.K.Sink.state c.args.sink.now) (g.K.Sink.state c.serve_command.new.sink)
    (c.serve_command.result, c.code.ensures, rw c.command_of.ensures at c.serve_command.ensures)

pub returns-clause-completes : goal.returns-clause-completes
returns-clause-completes g c =
    says_complete c.args.words.now c.code.result (g.S.Source.state c.args.source.now) (g.S.Source.state c.serve_command.new.source) (g.K.Sink.state c.args.sink.now) (g.K.Sink.state c.serve_command.new.sink)
    (c.serve_command.result, c.code.ensures, rw c.command_of.ensures at c.serve_command.ensures)

pub serve_command-requires : goal.serve_command-requires
serve_command-requires g c = rw c.command_of.ensures (command_counts c.args.words.now)
