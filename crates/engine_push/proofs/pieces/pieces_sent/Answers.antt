use Rattle.std.proofs.Common.{inl, [], ap, arith, length, refl, ◌∙◌, ◌++◌}
use Rattle.byte_streams.proofs.Springs.{Consumes-then}
use Rattle.engine_steps.proofs.HelperTrees.{not_ok}
use Rattle.oci_transport.specs.Pieces.{joined}
use Rattle.engine_push.specs.Sources.{cuts}
use Rattle.push_rows.specs.Uploads.{chunks}
use Rattle.push_rows.proofs.Carried.{carries_front, front_behind_more, joined_both, joined_chunks}
use Rattle.push_rows.proofs.Endings.{chunks_told}
use Rattle.engine_push.proofs.PieceTree.{pumping_start, pump_refused, pump_longer, pump_ended, pump_cut, pumped, nil_of, all_taken, front_of_left, pushes_all, pushes_refused, err_is, no_piece_sent, took_more, step_sent, sent_behind, pump_bytes, cut_ended, cut_held, cut_part, cuts_refused}
use Rattle.engine_push.proofs.pieces.pieces_sent.Goals as goal

pub loop-next-init : goal.loop-next-init
loop-next-init g c = (pumping_start _ _ _ _ _ _ _ c.requires, refl)

pub returns-in_err-piece-clause-run : goal.returns-in_err-piece-clause-run
returns-in_err-piece-clause-run g c = ([], pump_refused _ _ _ _ _ _ c.loop-next.invariant.0 _ _ (c.in_err-piece.ensures.run _ _) c.from_residual.ensures.1, not_ok _ _ _ c.from_residual.ensures.1)

pub returns-in_err-piece-clause-pushes : goal.returns-in_err-piece-clause-pushes
returns-in_err-piece-clause-pushes g c = pushes_refused (g.P.PieceSource.state c.args.pieces.now) (g.P.PieceSource.state c.next_piece.new.pieces) _ _ c.from_residual.ensures.1 (front_of_left (g.P.PieceSource.state c.args.pieces.now) (g.P.PieceSource.state c.loop-next.pieces) _ _ (pump_bytes _ _ _ _ _ _ c.loop-next.invariant.0) c.loop-next.invariant.0.taken (carries_front c.loop-next.invariant.0.carried))

pub returns-in_err-piece-clause-refused : goal.returns-in_err-piece-clause-refused
returns-in_err-piece-clause-refused g c = err_is _ _ _ c.from_residual.ensures.1 (no_piece_sent _ (g.P.PieceSource.state c.args.pieces.now) (g.P.PieceSource.state c.loop-next.pieces) (g.P.PieceSource.state c.next_piece.new.pieces) (g.T.Transport.state c.args.transport.now) (g.T.Transport.state c.loop-next.transport) _ c.loop-next.invariant.0.count c.in_err-piece.ensures.refused)

pub returns-then-more-call-clause-run : goal.returns-then-more-call-clause-run
returns-then-more-call-clause-run g c = ([], pump_longer _ _ _ _ _ _ c.loop-next.invariant.0 _ (rw c.as_slice-bytes.ensures at c.if-more-call.true), tt)

pub returns-then-more-call-clause-pushes : goal.returns-then-more-call-clause-pushes
returns-then-more-call-clause-pushes g c = front_of_left (g.P.PieceSource.state c.args.pieces.now) (g.P.PieceSource.state c.loop-next.pieces) _ _ (pump_bytes _ _ _ _ _ _ c.loop-next.invariant.0) c.loop-next.invariant.0.taken (carries_front c.loop-next.invariant.0.carried)

pub returns-then-more-eq0-clause-run : goal.returns-then-more-eq0-clause-run
returns-then-more-eq0-clause-run g c = (c.loop-next.invariant.0.bytes, pump_ended _ _ _ _ _ _ c.loop-next.invariant.0 c.in_ok-piece.piece (rw c.as_slice-bytes.ensures at c.if-more-eq0.true), (record { size = c.loop-next.invariant.0.size_is; hashed = c.loop-next.invariant.0.hashed; given = c.loop-next.invariant.1 }, ((all_taken (g.P.PieceSource.state c.args.pieces.now) (g.P.PieceSource.state c.loop-next.pieces) (g.P.PieceSource.state c.next_piece.new.pieces) _ _ c.loop-next.invariant.0.taken c.in_ok-piece.ensures.prefix (rw c.as_slice-bytes.ensures at c.if-more-eq0.true)), (c.in_ok-piece.ensures.end (nil_of _ (rw c.as_slice-bytes.ensures at c.if-more-eq0.true))))))

pub returns-then-more-eq0-clause-pushes : goal.returns-then-more-eq0-clause-pushes
returns-then-more-eq0-clause-pushes g c = pushes_all (g.P.PieceSource.state c.args.pieces.now) (g.P.PieceSource.state c.next_piece.new.pieces) _ _ (pump_bytes _ _ _ _ _ _ c.loop-next.invariant.0) (all_taken (g.P.PieceSource.state c.args.pieces.now) (g.P.PieceSource.state c.loop-next.pieces) (g.P.PieceSource.state c.next_piece.new.pieces) _ _ c.loop-next.invariant.0.taken c.in_ok-piece.ensures.prefix (rw c.as_slice-bytes.ensures at c.if-more-eq0.true)) (c.in_ok-piece.ensures.end (nil_of _ (rw c.as_slice-bytes.ensures at c.if-more-eq0.true))) c.loop-next.invariant.0.carried

pub returns-in_err-next-clause-run : goal.returns-in_err-next-clause-run
returns-in_err-next-clause-run g c = ([], pump_cut _ _ _ _ _ _ c.loop-next.invariant.0 _ _ _ (omega (arith, c.if-more-eq0.false, ap length c.as_slice-bytes.ensures)) (omega (arith, c.if-more-call.false, ap length c.as_slice-bytes.ensures)) (rw c.as_slice-bytes.ensures at c.in_err-next.ensures.run) c.from_residual-in_err-next.ensures.1, not_ok _ _ _ c.from_residual-in_err-next.ensures.1)

pub returns-in_err-next-clause-pushes : goal.returns-in_err-next-clause-pushes
returns-in_err-next-clause-pushes g c = pushes_refused (g.P.PieceSource.state c.args.pieces.now) (g.P.PieceSource.state c.next_piece.new.pieces) _ _ c.from_residual-in_err-next.ensures.1 (front_of_left (g.P.PieceSource.state c.args.pieces.now) (g.P.PieceSource.state c.next_piece.new.pieces) (c.loop-next.invariant.0.bytes ++ c.in_ok-piece.piece) (cuts c.loop-next.invariant.0.pieces ++ chunks c.in_ok-piece.piece) (joined_both (cuts c.loop-next.invariant.0.pieces) (chunks c.in_ok-piece.piece) ∙ ap (λ xs. xs ++ joined (chunks c.in_ok-piece.piece)) (pump_bytes _ _ _ _ _ _ c.loop-next.invariant.0) ∙ ap (λ xs. c.loop-next.invariant.0.bytes ++ xs) (joined_chunks c.in_ok-piece.piece)) (Consumes-then _ (g.P.PieceSource.state c.loop-next.pieces).left _ _ _ c.loop-next.invariant.0.taken c.in_ok-piece.ensures.prefix) (front_behind_more c.loop-next.invariant.0.carried (rw c.as_slice-bytes.ensures at c.in_err-next.ensures.sends)))

pub returns-in_err-next-clause-refused : goal.returns-in_err-next-clause-refused
returns-in_err-next-clause-refused g c = err_is _ _ _ c.from_residual-in_err-next.ensures.1 (sent_behind _ (g.P.PieceSource.state c.args.pieces.now) (g.P.PieceSource.state c.next_piece.new.pieces) _ (g.T.Transport.state c.args.transport.now) (g.T.Transport.state c.loop-next.transport) (g.T.Transport.state c.chunks_sent.new.transport) _ c.loop-next.invariant.0.carried (step_sent _ (g.P.PieceSource.state c.args.pieces.now) (g.P.PieceSource.state c.next_piece.new.pieces) (g.T.Transport.state c.loop-next.transport) (g.T.Transport.state c.chunks_sent.new.transport) _ (chunks_told _ _ _ _ _ _ c.in_err-next.ensures.run)))

pub loop-next-preserved : goal.loop-next-preserved
loop-next-preserved g c = (pumped _ _ _ _ _ _ c.loop-next.invariant.0 c.in_ok-piece.piece _ _ _ (omega (arith, c.if-more-eq0.false, ap length c.as_slice-bytes.ensures)) (omega (arith, c.if-more-call.false, ap length c.as_slice-bytes.ensures)) (omega (arith, ap length c.as_slice-bytes.ensures)) (rw c.as_slice-bytes.ensures at c.in_ok-next.ensures.run) (rw c.as_slice-bytes.ensures at c.in_ok-next.ensures.sends) c.in_ok-piece.ensures.prefix c.in_ok-piece.ensures.next c.in_ok-piece.ensures.count (rw c.as_slice-bytes.ensures at (c.hash.ensures.hashed _ c.loop-next.invariant.0.hashed)), c.hash.ensures.given ∙ c.loop-next.invariant.1)

pub returns-then-more-call-clause-refused : goal.returns-then-more-call-clause-refused
returns-then-more-call-clause-refused g c = inl (took_more _ (g.P.PieceSource.state c.args.pieces.now) (g.P.PieceSource.state c.loop-next.pieces) (g.P.PieceSource.state c.next_piece.new.pieces) c.loop-next.invariant.0.pieces c.loop-next.invariant.0.bytes c.in_ok-piece.piece c.loop-next.invariant.0.bytes_are c.loop-next.invariant.0.taken c.loop-next.invariant.0.ahead c.in_ok-piece.ensures.prefix c.in_ok-piece.ensures.next (omega (arith, c.loop-next.invariant.0.small, c.loop-next.invariant.0.size_is)) (omega (arith, c.if-more-call.true, ap length c.as_slice-bytes.ensures, c.loop-next.invariant.0.size_is)))

pub returns-in_err-piece-clause-cuts : goal.returns-in_err-piece-clause-cuts
returns-in_err-piece-clause-cuts g c = cuts_refused (g.P.PieceSource.state c.args.pieces.now) (g.P.PieceSource.state c.next_piece.new.pieces) _ _ c.from_residual.ensures.1 (cut_held _ _ _ _ _ _ c.loop-next.invariant.0 [] c.in_err-piece.ensures.keeps)

pub returns-then-more-call-clause-cuts : goal.returns-then-more-call-clause-cuts
returns-then-more-call-clause-cuts g c = cut_held _ _ _ _ _ _ c.loop-next.invariant.0 c.in_ok-piece.piece c.in_ok-piece.ensures.next

pub returns-then-more-eq0-clause-cuts : goal.returns-then-more-eq0-clause-cuts
returns-then-more-eq0-clause-cuts g c = cut_ended _ _ _ _ _ _ c.loop-next.invariant.0 c.in_ok-piece.piece (rw c.as_slice-bytes.ensures at c.if-more-eq0.true) c.in_ok-piece.ensures.next c.in_ok-piece.ensures.last

pub returns-in_err-next-clause-cuts : goal.returns-in_err-next-clause-cuts
returns-in_err-next-clause-cuts g c = cuts_refused (g.P.PieceSource.state c.args.pieces.now) (g.P.PieceSource.state c.next_piece.new.pieces) _ _ c.from_residual-in_err-next.ensures.1 (cut_part _ _ _ _ _ _ c.loop-next.invariant.0 c.in_ok-piece.piece c.in_ok-piece.ensures.next (rw c.as_slice-bytes.ensures at c.in_err-next.ensures.sends))
