use Rattle.std.proofs.Common.{refl, Some}
use Rattle.oci_protocol.proofs.Exits.{refused, and_then}
use Rattle.engine_rows.proofs.Exits.{wanting}
use Rattle.push_rows.specs.Calls.{push_blob_stream_chunked}
use Rattle.push_rows.proofs.Endings.{begun_told, ended_told}
use Rattle.engine_push.proofs.PieceTree.{none_of_left, pushes_refused, cuts_refused, err_is, step_source, step_behind, sent_source, sent_behind}
use Rattle.engine_push.proofs.StreamTree.{ended_pushes, ended_refused, none_cut, begun_cut, all_cut, ended_cut, whole_cut, sent_refused, sent_met, sent_then, none_sent, some_sent, response_met, none_missing, took_none}
use Rattle.oci_names.specs.declared.algorithm.Algorithm.TheVariants.{Sha256}
use Rattle.engine_push.proofs.CallTree.{none_given, some_given}
use Rattle.engine_push.proofs.stream.push_blob_stream_chunked.Goals as goal

pub returns-in_err-location-clause-run : goal.returns-in_err-location-clause-run
unfolding push_blob_stream_chunked
returns-in_err-location-clause-run g c = sent_refused _ _ _ _ _ c.in_err-location.ensures.run c.from_residual.ensures.1

pub returns-in_err-location-clause-pushes : goal.returns-in_err-location-clause-pushes
returns-in_err-location-clause-pushes g c = pushes_refused (g.P.PieceSource.state c.args.pieces.now) (g.P.PieceSource.state c.args.pieces.now) _ _ c.from_residual.ensures.1 (none_of_left (g.P.PieceSource.state c.args.pieces.now) c.in_err-location.ensures.sends)

pub returns-in_err-location-clause-source : goal.returns-in_err-location-clause-source
returns-in_err-location-clause-source g c = err_is _ _ _ c.from_residual.ensures.1 (step_source _ _ (g.P.PieceSource.state c.args.pieces.now) (g.P.PieceSource.state c.args.pieces.now) (g.T.Transport.state c.args.transport.now) (g.T.Transport.state c.upload_begun.new.transport) _ (begun_told _ _ _ c.in_err-location.ensures.run))

pub returns-in_err-sent-clause-run : goal.returns-in_err-sent-clause-run
unfolding push_blob_stream_chunked
returns-in_err-sent-clause-run g c = sent_then _ _ _ _ _ _ c.in_ok-location.ensures.run c.in_err-sent.ensures.run.1 c.from_residual-in_err-sent.ensures.1

pub returns-in_err-sent-clause-pushes : goal.returns-in_err-sent-clause-pushes
returns-in_err-sent-clause-pushes g c = ended_refused (g.P.PieceSource.state c.args.pieces.now) (g.P.PieceSource.state c.pieces_sent.new.pieces) _ _ c.from_residual-in_err-sent.ensures.1 c.in_ok-location.ensures.sends c.in_err-sent.ensures.pushes

pub returns-in_err-sent-clause-source : goal.returns-in_err-sent-clause-source
returns-in_err-sent-clause-source g c = err_is _ _ _ c.from_residual-in_err-sent.ensures.1 (sent_source _ _ (g.P.PieceSource.state c.args.pieces.now) (g.P.PieceSource.state c.pieces_sent.new.pieces) (g.T.Transport.state c.args.transport.now) (g.T.Transport.state c.pieces_sent.new.transport) _ (sent_behind _ (g.P.PieceSource.state c.args.pieces.now) (g.P.PieceSource.state c.pieces_sent.new.pieces) _ (g.T.Transport.state c.args.transport.now) (g.T.Transport.state c.upload_begun.new.transport) (g.T.Transport.state c.pieces_sent.new.transport) _ c.in_ok-location.ensures.sends c.in_err-sent.ensures.refused))

pub returns-then-size-eq0-clause-run : goal.returns-then-size-eq0-clause-run
unfolding push_blob_stream_chunked
returns-then-size-eq0-clause-run g c = and_then _ (sent_met _ _ _ _ c.in_ok-location.ensures.run c.in_ok-sent.ensures.run.1) (none_given _ _ _ _ (rw c.in_ok-sent.ensures.run.2.0.size at c.if-size-eq0.true))

pub returns-then-size-eq0-clause-pushes : goal.returns-then-size-eq0-clause-pushes
returns-then-size-eq0-clause-pushes g c = none_sent (g.P.PieceSource.state c.args.pieces.now) (g.P.PieceSource.state c.pieces_sent.new.pieces) c.in_ok-location.ensures.sends c.in_ok-sent.ensures.pushes

pub returns-then-size-eq0-clause-source : goal.returns-then-size-eq0-clause-source
returns-then-size-eq0-clause-source g c = took_none (g.P.PieceSource.state c.args.pieces.now) (g.P.PieceSource.state c.pieces_sent.new.pieces) _ (rw c.in_ok-sent.ensures.run.2.0.size at c.if-size-eq0.true) c.in_ok-sent.ensures.run.2.1

pub returns-in_err-blob_digest-clause-run : goal.returns-in_err-blob_digest-clause-run
unfolding push_blob_stream_chunked
returns-in_err-blob_digest-clause-run g c = and_then _ (sent_met _ _ _ _ c.in_ok-location.ensures.run c.in_ok-sent.ensures.run.1) (and_then _ (some_given _ _ _ (rw c.in_ok-sent.ensures.run.2.0.size at c.if-size-eq0.false)) (wanting c.from_residual-in_err-blob_digest.ensures.1))

pub returns-in_err-blob_digest-clause-pushes : goal.returns-in_err-blob_digest-clause-pushes
returns-in_err-blob_digest-clause-pushes g c = pushes_refused (g.P.PieceSource.state c.args.pieces.now) (g.P.PieceSource.state c.pieces_sent.new.pieces) _ _ c.from_residual-in_err-blob_digest.ensures.1 (none_sent (g.P.PieceSource.state c.args.pieces.now) (g.P.PieceSource.state c.pieces_sent.new.pieces) c.in_ok-location.ensures.sends c.in_ok-sent.ensures.pushes)

pub returns-in_err-blob_digest-clause-source : goal.returns-in_err-blob_digest-clause-source
returns-in_err-blob_digest-clause-source g c = err_is _ _ _ c.from_residual-in_err-blob_digest.ensures.1 tt

pub pieces_sent-requires : goal.pieces_sent-requires
pieces_sent-requires g c = c.of.ensures

pub unreachable-requires : goal.unreachable-requires
unreachable-requires g c = none_missing (Some c.of.result) _ c.in_ok-sent.ensures.run.2.0.given refl c.in_default.is

pub unreachable-unreachable : goal.unreachable-unreachable
unreachable-unreachable g c = c.unreachable.result

pub same-end : goal.same-end
same-end g c = refl

pub returns-in_err-blob_url-clause-run : goal.returns-in_err-blob_url-clause-run
unfolding push_blob_stream_chunked
returns-in_err-blob_url-clause-run g c = and_then _ (sent_met _ _ _ _ c.in_ok-location.ensures.run c.in_ok-sent.ensures.run.1) (and_then _ (some_given _ _ _ (rw c.in_ok-sent.ensures.run.2.0.size at c.if-size-eq0.false)) (refused _ (rw (c.as_str-digest.ensures, (c.in_ok-blob_digest.ensures.text Sha256 _ (rw c.in-Some.is at c.in_ok-sent.ensures.run.2.0.hashed))) at c.in_err-blob_url.ensures.run) c.from_residual-in_err-blob_url.ensures.1))

pub returns-in_err-blob_url-clause-pushes : goal.returns-in_err-blob_url-clause-pushes
returns-in_err-blob_url-clause-pushes g c = pushes_refused (g.P.PieceSource.state c.args.pieces.now) (g.P.PieceSource.state c.pieces_sent.new.pieces) _ _ c.from_residual-in_err-blob_url.ensures.1 (ended_pushes (g.P.PieceSource.state c.args.pieces.now) (g.P.PieceSource.state c.pieces_sent.new.pieces) c.in_ok-location.ensures.sends c.in_ok-sent.ensures.pushes c.in_err-blob_url.ensures.sends)

pub returns-in_err-blob_url-clause-source : goal.returns-in_err-blob_url-clause-source
returns-in_err-blob_url-clause-source g c = err_is _ _ _ c.from_residual-in_err-blob_url.ensures.1 (step_source _ _ (g.P.PieceSource.state c.args.pieces.now) (g.P.PieceSource.state c.pieces_sent.new.pieces) (g.T.Transport.state c.args.transport.now) (g.T.Transport.state c.upload_ended.new.transport) _ (step_behind _ _ (g.T.Transport.state c.args.transport.now) (g.T.Transport.state c.upload_begun.new.transport) (g.T.Transport.state c.upload_ended.new.transport) _ c.in_ok-location.ensures.sends (step_behind _ _ (g.T.Transport.state c.upload_begun.new.transport) (g.T.Transport.state c.pieces_sent.new.transport) (g.T.Transport.state c.upload_ended.new.transport) _ c.in_ok-sent.ensures.pushes.0 (ended_told _ _ _ _ _ _ c.in_err-blob_url.ensures.run))))

pub returns-clause-run : goal.returns-clause-run
unfolding push_blob_stream_chunked
returns-clause-run g c = and_then _ (sent_met _ _ _ _ c.in_ok-location.ensures.run c.in_ok-sent.ensures.run.1) (and_then _ (some_given _ _ _ (rw c.in_ok-sent.ensures.run.2.0.size at c.if-size-eq0.false)) (and_then _ (rw (c.as_str-digest.ensures, (c.in_ok-blob_digest.ensures.text Sha256 _ (rw c.in-Some.is at c.in_ok-sent.ensures.run.2.0.hashed))) at c.in_ok-blob_url.ensures.run) (response_met _ _ _ _ _ _ (c.in_ok-blob_digest.ensures.text Sha256 _ (rw c.in-Some.is at c.in_ok-sent.ensures.run.2.0.hashed)) c.in_ok-sent.ensures.run.2.0.size)))

pub returns-clause-pushes : goal.returns-clause-pushes
returns-clause-pushes g c = some_sent (g.P.PieceSource.state c.args.pieces.now) (g.P.PieceSource.state c.pieces_sent.new.pieces) c.in_ok-location.ensures.sends c.in_ok-sent.ensures.pushes c.in_ok-blob_url.ensures.sends

pub returns-clause-source : goal.returns-clause-source
returns-clause-source g c = tt

pub same-blob_digest : goal.same-blob_digest
same-blob_digest g c = refl

pub returns-in_err-location-clause-cuts : goal.returns-in_err-location-clause-cuts
returns-in_err-location-clause-cuts g c = cuts_refused (g.P.PieceSource.state c.args.pieces.now) (g.P.PieceSource.state c.args.pieces.now) _ _ c.from_residual.ensures.1 (none_cut (g.P.PieceSource.state c.args.pieces.now) c.in_err-location.ensures.sends)

pub returns-in_err-sent-clause-cuts : goal.returns-in_err-sent-clause-cuts
returns-in_err-sent-clause-cuts g c = cuts_refused (g.P.PieceSource.state c.args.pieces.now) (g.P.PieceSource.state c.pieces_sent.new.pieces) _ _ c.from_residual-in_err-sent.ensures.1 (begun_cut (g.P.PieceSource.state c.args.pieces.now) (g.P.PieceSource.state c.pieces_sent.new.pieces) c.in_ok-location.ensures.sends c.in_err-sent.ensures.cuts)

pub returns-then-size-eq0-clause-cuts : goal.returns-then-size-eq0-clause-cuts
returns-then-size-eq0-clause-cuts g c = all_cut (g.P.PieceSource.state c.args.pieces.now) (g.P.PieceSource.state c.pieces_sent.new.pieces) c.in_ok-location.ensures.sends c.in_ok-sent.ensures.cuts

pub returns-in_err-blob_digest-clause-cuts : goal.returns-in_err-blob_digest-clause-cuts
returns-in_err-blob_digest-clause-cuts g c = cuts_refused (g.P.PieceSource.state c.args.pieces.now) (g.P.PieceSource.state c.pieces_sent.new.pieces) _ _ c.from_residual-in_err-blob_digest.ensures.1 (all_cut (g.P.PieceSource.state c.args.pieces.now) (g.P.PieceSource.state c.pieces_sent.new.pieces) c.in_ok-location.ensures.sends c.in_ok-sent.ensures.cuts)

pub returns-in_err-blob_url-clause-cuts : goal.returns-in_err-blob_url-clause-cuts
returns-in_err-blob_url-clause-cuts g c = cuts_refused (g.P.PieceSource.state c.args.pieces.now) (g.P.PieceSource.state c.pieces_sent.new.pieces) _ _ c.from_residual-in_err-blob_url.ensures.1 (ended_cut (g.P.PieceSource.state c.args.pieces.now) (g.P.PieceSource.state c.pieces_sent.new.pieces) c.in_ok-location.ensures.sends c.in_ok-sent.ensures.cuts c.in_err-blob_url.ensures.sends)

pub returns-clause-cuts : goal.returns-clause-cuts
returns-clause-cuts g c = whole_cut (g.P.PieceSource.state c.args.pieces.now) (g.P.PieceSource.state c.pieces_sent.new.pieces) c.in_ok-location.ensures.sends c.in_ok-sent.ensures.cuts c.in_ok-blob_url.ensures.sends
