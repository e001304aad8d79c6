use Rattle.std.proofs.Common.{refl}
use Rattle.oci_protocol.proofs.Exits.{refused, and_then, done, passed_on}
use Rattle.push_rows.specs.Calls.{stream_whole}
use Rattle.push_rows.proofs.Carried.{carries_none, carries_front}
use Rattle.push_rows.proofs.Endings.{begun_told, ended_told}
use Rattle.engine_push.proofs.PieceTree.{none_of_left, pushes_refused, err_is, step_source, step_behind, held_source}
use Rattle.engine_push.proofs.StreamTree.{size_unknown, begun_pushes, held_pushes, none_joined, joined_refused, begun_joined, ended_joined}
use Rattle.engine_push.proofs.CallTree.{size_refused, size_met}
use Rattle.engine_push.proofs.stream.stream_whole.Goals as goal

pub returns-in_default-clause-run : goal.returns-in_default-clause-run
unfolding stream_whole
returns-in_default-clause-run g c = rw c.in_default.is (size_unknown _ _ _)

pub returns-in_default-clause-pushes : goal.returns-in_default-clause-pushes
returns-in_default-clause-pushes g c = none_of_left (g.P.PieceSource.state c.args.pieces.now) (carries_front (carries_none _))

pub returns-in_default-clause-source : goal.returns-in_default-clause-source
returns-in_default-clause-source g c = c.in_default.is

pub returns-in_err-location-clause-run : goal.returns-in_err-location-clause-run
unfolding stream_whole
returns-in_err-location-clause-run g c = rw c.in-Some.is (and_then _ done (refused _ c.in_err-location.ensures.run c.from_residual.ensures.1))

pub returns-in_err-location-clause-pushes : goal.returns-in_err-location-clause-pushes
returns-in_err-location-clause-pushes g c = pushes_refused (g.P.PieceSource.state c.args.pieces.now) (g.P.PieceSource.state c.args.pieces.now) _ _ c.from_residual.ensures.1 (none_of_left (g.P.PieceSource.state c.args.pieces.now) c.in_err-location.ensures.sends)

pub returns-in_err-location-clause-source : goal.returns-in_err-location-clause-source
returns-in_err-location-clause-source g c = err_is _ _ _ c.from_residual.ensures.1 (step_source _ _ (g.P.PieceSource.state c.args.pieces.now) (g.P.PieceSource.state c.args.pieces.now) (g.T.Transport.state c.args.transport.now) (g.T.Transport.state c.upload_begun.new.transport) _ (begun_told _ _ _ c.in_err-location.ensures.run))

pub returns-in_err-bytes-clause-run : goal.returns-in_err-bytes-clause-run
unfolding stream_whole
returns-in_err-bytes-clause-run g c = rw c.in-Some.is (and_then _ done (and_then _ c.in_ok-location.ensures.run (refused _ (c.in_err-bytes.ensures.run _ _) c.from_residual-in_err-bytes.ensures.1)))

pub returns-in_err-bytes-clause-pushes : goal.returns-in_err-bytes-clause-pushes
returns-in_err-bytes-clause-pushes g c = pushes_refused (g.P.PieceSource.state c.args.pieces.now) (g.P.PieceSource.state c.pieces_read.new.pieces) _ _ c.from_residual-in_err-bytes.ensures.1 (none_of_left (g.P.PieceSource.state c.args.pieces.now) (carries_front c.in_ok-location.ensures.sends))

pub returns-in_err-bytes-clause-source : goal.returns-in_err-bytes-clause-source
returns-in_err-bytes-clause-source g c = err_is _ _ _ c.from_residual-in_err-bytes.ensures.1 (held_source _ _ (g.P.PieceSource.state c.args.pieces.now) (g.P.PieceSource.state c.pieces_read.new.pieces) (g.T.Transport.state c.args.transport.now) (g.T.Transport.state c.upload_begun.new.transport) _ c.in_err-bytes.ensures.refused)

pub returns-then-as_slice-size-clause-run : goal.returns-then-as_slice-size-clause-run
unfolding stream_whole
returns-then-as_slice-size-clause-run g c = rw c.in-Some.is (and_then _ done (and_then _ c.in_ok-location.ensures.run (and_then _ (c.in_ok-bytes.ensures.run _ _) (size_refused _ _ _ _ _ (rw c.as_slice.ensures at c.if-as_slice-size.true)))))

pub returns-then-as_slice-size-clause-pushes : goal.returns-then-as_slice-size-clause-pushes
returns-then-as_slice-size-clause-pushes g c = none_of_left (g.P.PieceSource.state c.args.pieces.now) (carries_front c.in_ok-location.ensures.sends)

pub returns-then-as_slice-size-clause-source : goal.returns-then-as_slice-size-clause-source
returns-then-as_slice-size-clause-source g c = (c.in-Some.size, c.in_ok-bytes.bytes, c.in-Some.is, c.in_ok-bytes.ensures.gives, rw c.as_slice.ensures at c.if-as_slice-size.true)

pub same-location : goal.same-location
same-location g c = refl

pub same-bytes : goal.same-bytes
same-bytes g c = refl

pub returns-in_err-url-clause-run : goal.returns-in_err-url-clause-run
unfolding stream_whole
returns-in_err-url-clause-run g c = rw c.in-Some.is (and_then _ done (and_then _ c.in_ok-location.ensures.run (and_then _ (c.in_ok-bytes.ensures.run _ _) (and_then _ (size_met _ _ _ _ (rw c.as_slice.ensures at c.if-as_slice-size.false)) (passed_on c.in_err-url.ensures.run c.from_residual-in_err-url.ensures.1)))))

pub returns-in_err-url-clause-pushes : goal.returns-in_err-url-clause-pushes
returns-in_err-url-clause-pushes g c = held_pushes (g.P.PieceSource.state c.args.pieces.now) (g.P.PieceSource.state c.pieces_read.new.pieces) _ _ _ c.from_residual-in_err-url.ensures.1 c.in_ok-bytes.ensures.gives c.in_ok-location.ensures.sends c.in_err-url.ensures.sends

pub returns-in_err-url-clause-source : goal.returns-in_err-url-clause-source
returns-in_err-url-clause-source g c = err_is _ _ _ c.from_residual-in_err-url.ensures.1 (step_source _ _ (g.P.PieceSource.state c.args.pieces.now) (g.P.PieceSource.state c.pieces_read.new.pieces) (g.T.Transport.state c.args.transport.now) (g.T.Transport.state c.upload_ended.new.transport) _ (step_behind _ _ (g.T.Transport.state c.args.transport.now) (g.T.Transport.state c.upload_begun.new.transport) (g.T.Transport.state c.upload_ended.new.transport) _ c.in_ok-location.ensures.sends (ended_told _ _ _ _ _ _ c.in_err-url.ensures.run)))

pub returns-clause-run : goal.returns-clause-run
unfolding stream_whole
returns-clause-run g c = rw c.in-Some.is (and_then _ done (and_then _ c.in_ok-location.ensures.run (and_then _ (c.in_ok-bytes.ensures.run _ _) (and_then _ (size_met _ _ _ _ (rw c.as_slice.ensures at c.if-as_slice-size.false)) c.in_ok-url.ensures.run))))

pub returns-clause-pushes : goal.returns-clause-pushes
returns-clause-pushes g c = begun_pushes (g.P.PieceSource.state c.args.pieces.now) (g.P.PieceSource.state c.pieces_read.new.pieces) _ c.in_ok-bytes.ensures.gives c.in_ok-location.ensures.sends c.in_ok-url.ensures.sends

pub returns-clause-source : goal.returns-clause-source
returns-clause-source g c = tt

pub returns-in_default-clause-cuts : goal.returns-in_default-clause-cuts
returns-in_default-clause-cuts g c = none_joined (g.P.PieceSource.state c.args.pieces.now) (g.P.PieceSource.state c.args.pieces.now) (carries_front (carries_none _))

pub returns-in_err-location-clause-cuts : goal.returns-in_err-location-clause-cuts
returns-in_err-location-clause-cuts g c = joined_refused (g.P.PieceSource.state c.args.pieces.now) (g.P.PieceSource.state c.args.pieces.now) _ _ c.from_residual.ensures.1 (none_joined (g.P.PieceSource.state c.args.pieces.now) (g.P.PieceSource.state c.args.pieces.now) c.in_err-location.ensures.sends)

pub returns-in_err-bytes-clause-cuts : goal.returns-in_err-bytes-clause-cuts
returns-in_err-bytes-clause-cuts g c = joined_refused (g.P.PieceSource.state c.args.pieces.now) (g.P.PieceSource.state c.pieces_read.new.pieces) _ _ c.from_residual-in_err-bytes.ensures.1 (none_joined (g.P.PieceSource.state c.args.pieces.now) (g.P.PieceSource.state c.pieces_read.new.pieces) (carries_front c.in_ok-location.ensures.sends))

pub returns-then-as_slice-size-clause-cuts : goal.returns-then-as_slice-size-clause-cuts
returns-then-as_slice-size-clause-cuts g c = none_joined (g.P.PieceSource.state c.args.pieces.now) (g.P.PieceSource.state c.pieces_read.new.pieces) (carries_front c.in_ok-location.ensures.sends)

pub returns-in_err-url-clause-cuts : goal.returns-in_err-url-clause-cuts
returns-in_err-url-clause-cuts g c = joined_refused (g.P.PieceSource.state c.args.pieces.now) (g.P.PieceSource.state c.pieces_read.new.pieces) _ _ c.from_residual-in_err-url.ensures.1 (ended_joined (g.P.PieceSource.state c.args.pieces.now) (g.P.PieceSource.state c.pieces_read.new.pieces) _ c.in_ok-bytes.ensures.gathers c.in_ok-location.ensures.sends c.in_err-url.ensures.sends)

pub returns-clause-cuts : goal.returns-clause-cuts
returns-clause-cuts g c = begun_joined (g.P.PieceSource.state c.args.pieces.now) (g.P.PieceSource.state c.pieces_read.new.pieces) _ c.in_ok-bytes.ensures.gathers c.in_ok-location.ensures.sends c.in_ok-url.ensures.sends
