use Rattle.oci_protocol.proofs.Exits.{and_then, passed_on}
use Rattle.push_rows.specs.Calls.{stream_chunked}
use Rattle.push_rows.proofs.Endings.{begun_told, ended_told}
use Rattle.engine_push.proofs.PieceTree.{none_of_left, pushes_refused, cuts_refused, err_is, step_sent, step_behind, sent_behind}
use Rattle.engine_push.proofs.StreamTree.{ended_pushes, ended_refused, none_cut, begun_cut, ended_cut, whole_cut, sent_refused, sent_met, sent_then, some_sent}
use Rattle.engine_push.proofs.stream.stream_chunked.Goals as goal

pub returns-in_err-location-clause-run : goal.returns-in_err-location-clause-run
unfolding stream_chunked
returns-in_err-location-clause-run g c = sent_refused _ _ _ _ _ c.in_err-location.ensures.run c.from_residual.ensures.1

pub returns-in_err-location-clause-pushes : goal.returns-in_err-location-clause-pushes
returns-in_err-location-clause-pushes g c = pushes_refused (g.P.PieceSource.state c.args.pieces.now) (g.P.PieceSource.state c.args.pieces.now) _ _ c.from_residual.ensures.1 (none_of_left (g.P.PieceSource.state c.args.pieces.now) c.in_err-location.ensures.sends)

pub returns-in_err-location-clause-source : goal.returns-in_err-location-clause-source
returns-in_err-location-clause-source g c = err_is _ _ _ c.from_residual.ensures.1 (step_sent _ (g.P.PieceSource.state c.args.pieces.now) (g.P.PieceSource.state c.args.pieces.now) (g.T.Transport.state c.args.transport.now) (g.T.Transport.state c.upload_begun.new.transport) _ (begun_told _ _ _ c.in_err-location.ensures.run))

pub returns-in_err-sent-clause-run : goal.returns-in_err-sent-clause-run
unfolding stream_chunked
returns-in_err-sent-clause-run g c = sent_then _ _ _ _ _ _ c.in_ok-location.ensures.run c.in_err-sent.ensures.run.1 c.from_residual-in_err-sent.ensures.1

pub returns-in_err-sent-clause-pushes : goal.returns-in_err-sent-clause-pushes
returns-in_err-sent-clause-pushes g c = ended_refused (g.P.PieceSource.state c.args.pieces.now) (g.P.PieceSource.state c.pieces_sent.new.pieces) _ _ c.from_residual-in_err-sent.ensures.1 c.in_ok-location.ensures.sends c.in_err-sent.ensures.pushes

pub returns-in_err-sent-clause-source : goal.returns-in_err-sent-clause-source
returns-in_err-sent-clause-source g c = err_is _ _ _ c.from_residual-in_err-sent.ensures.1 (sent_behind _ (g.P.PieceSource.state c.args.pieces.now) (g.P.PieceSource.state c.pieces_sent.new.pieces) _ (g.T.Transport.state c.args.transport.now) (g.T.Transport.state c.upload_begun.new.transport) (g.T.Transport.state c.pieces_sent.new.transport) _ c.in_ok-location.ensures.sends c.in_err-sent.ensures.refused)

pub returns-in_err-url-clause-run : goal.returns-in_err-url-clause-run
unfolding stream_chunked
returns-in_err-url-clause-run g c = and_then _ (sent_met _ _ _ _ c.in_ok-location.ensures.run c.in_ok-sent.ensures.run.1) (passed_on c.in_err-url.ensures.run c.from_residual-in_err-url.ensures.1)

pub returns-in_err-url-clause-pushes : goal.returns-in_err-url-clause-pushes
returns-in_err-url-clause-pushes g c = pushes_refused (g.P.PieceSource.state c.args.pieces.now) (g.P.PieceSource.state c.pieces_sent.new.pieces) _ _ c.from_residual-in_err-url.ensures.1 (ended_pushes (g.P.PieceSource.state c.args.pieces.now) (g.P.PieceSource.state c.pieces_sent.new.pieces) c.in_ok-location.ensures.sends c.in_ok-sent.ensures.pushes c.in_err-url.ensures.sends)

pub returns-in_err-url-clause-source : goal.returns-in_err-url-clause-source
returns-in_err-url-clause-source g c = err_is _ _ _ c.from_residual-in_err-url.ensures.1 (step_sent _ (g.P.PieceSource.state c.args.pieces.now) (g.P.PieceSource.state c.pieces_sent.new.pieces) (g.T.Transport.state c.args.transport.now) (g.T.Transport.state c.upload_ended.new.transport) _ (step_behind _ _ (g.T.Transport.state c.args.transport.now) (g.T.Transport.state c.upload_begun.new.transport) (g.T.Transport.state c.upload_ended.new.transport) _ c.in_ok-location.ensures.sends (step_behind _ _ (g.T.Transport.state c.upload_begun.new.transport) (g.T.Transport.state c.pieces_sent.new.transport) (g.T.Transport.state c.upload_ended.new.transport) _ c.in_ok-sent.ensures.pushes.0 (ended_told _ _ _ _ _ _ c.in_err-url.ensures.run))))

pub returns-clause-run : goal.returns-clause-run
unfolding stream_chunked
returns-clause-run g c = and_then _ (sent_met _ _ _ _ c.in_ok-location.ensures.run c.in_ok-sent.ensures.run.1) c.in_ok-url.ensures.run

pub returns-clause-pushes : goal.returns-clause-pushes
returns-clause-pushes g c = some_sent (g.P.PieceSource.state c.args.pieces.now) (g.P.PieceSource.state c.pieces_sent.new.pieces) c.in_ok-location.ensures.sends c.in_ok-sent.ensures.pushes c.in_ok-url.ensures.sends

pub returns-clause-source : goal.returns-clause-source
returns-clause-source g c = tt

pub returns-in_err-location-clause-cuts : goal.returns-in_err-location-clause-cuts
returns-in_err-location-clause-cuts g c = cuts_refused (g.P.PieceSource.state c.args.pieces.now) (g.P.PieceSource.state c.args.pieces.now) _ _ c.from_residual.ensures.1 (none_cut (g.P.PieceSource.state c.args.pieces.now) c.in_err-location.ensures.sends)

pub returns-in_err-sent-clause-cuts : goal.returns-in_err-sent-clause-cuts
returns-in_err-sent-clause-cuts g c = cuts_refused (g.P.PieceSource.state c.args.pieces.now) (g.P.PieceSource.state c.pieces_sent.new.pieces) _ _ c.from_residual-in_err-sent.ensures.1 (begun_cut (g.P.PieceSource.state c.args.pieces.now) (g.P.PieceSource.state c.pieces_sent.new.pieces) c.in_ok-location.ensures.sends c.in_err-sent.ensures.cuts)

pub returns-in_err-url-clause-cuts : goal.returns-in_err-url-clause-cuts
returns-in_err-url-clause-cuts g c = cuts_refused (g.P.PieceSource.state c.args.pieces.now) (g.P.PieceSource.state c.pieces_sent.new.pieces) _ _ c.from_residual-in_err-url.ensures.1 (ended_cut (g.P.PieceSource.state c.args.pieces.now) (g.P.PieceSource.state c.pieces_sent.new.pieces) c.in_ok-location.ensures.sends c.in_ok-sent.ensures.cuts c.in_err-url.ensures.sends)

pub returns-clause-cuts : goal.returns-clause-cuts
returns-clause-cuts g c = whole_cut (g.P.PieceSource.state c.args.pieces.now) (g.P.PieceSource.state c.pieces_sent.new.pieces) c.in_ok-location.ensures.sends c.in_ok-sent.ensures.cuts c.in_ok-url.ensures.sends
