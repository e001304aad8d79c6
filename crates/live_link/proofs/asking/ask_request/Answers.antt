use Rattle.std.proofs.Common.{sym, ◌∙◌, subst}
use Rattle.live_link.specs.Writing.{frame_text}
use Rattle.live_link.specs.Asking.{Asks, Sends}
use Rattle.live_link.specs.Requests.{request_data}
use Rattle.live_link.proofs.Laws.{no_breach}
use Rattle.live_link.proofs.asking.ask_request.Goals as goal

pub returns : goal.returns
returns g c =
    Sends.was_sent c.ask-reply.result (no_breach _ (sym c.is_broken.ensures ∙ c.if-is_broken.false)) c.head_after.ensures
    (subst (λ body. Asks (frame_text (request_data c.args.request.now) body) c.ask-reply.result (g.S.Source.state c.args.source.now) (g.S.Source.state c.ask-reply.new.source) (g.K.Sink.state c.args.sink.now) (g.K.Sink.state c.ask-reply.new.sink)) c.as_slice.ensures
    (subst (λ o. Asks (frame_text o c.as_slice.result.now) c.ask-reply.result (g.S.Source.state c.args.source.now) (g.S.Source.state c.ask-reply.new.source) (g.K.Sink.state c.args.sink.now) (g.K.Sink.state c.ask-reply.new.sink)) c.requires.exact c.ask-reply.ensures))
