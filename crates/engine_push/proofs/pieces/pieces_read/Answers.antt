use Rattle.std.proofs.Common.{ap, arith, length}
use Rattle.engine_push.proofs.PieceTree.{holding_start, hold_refused, hold_longer, hold_ended, hold_wanting, held_more, nil_of, all_taken, gives_refused, err_is, no_piece_held, took_more, gathered, gathers_refused}
use Rattle.engine_push.proofs.pieces.pieces_read.Goals as goal

pub loop-held-init : goal.loop-held-init
loop-held-init g c = rw c.empty-held.ensures (holding_start _ _)

pub returns-in_err-piece-clause-run : goal.returns-in_err-piece-clause-run
returns-in_err-piece-clause-run g c = hold_refused _ _ c.loop-held.invariant _ _ c.in_err-piece.ensures.run c.from_residual.ensures.1

pub returns-in_err-piece-clause-gives : goal.returns-in_err-piece-clause-gives
returns-in_err-piece-clause-gives g c = gives_refused (g.P.PieceSource.state c.args.pieces.now) (g.P.PieceSource.state c.next_piece.new.pieces) _ _ c.from_residual.ensures.1

pub returns-in_err-piece-clause-refused : goal.returns-in_err-piece-clause-refused
returns-in_err-piece-clause-refused g c = err_is _ _ _ c.from_residual.ensures.1 (no_piece_held _ (g.P.PieceSource.state c.args.pieces.now) (g.P.PieceSource.state c.loop-held.pieces) (g.P.PieceSource.state c.next_piece.new.pieces) _ c.loop-held.invariant.count c.in_err-piece.ensures.refused)

pub returns-then-more-limit-clause-run : goal.returns-then-more-limit-clause-run
returns-then-more-limit-clause-run g c = hold_longer _ _ c.loop-held.invariant _ (rw (c.as_slice.ensures, c.as_slice-in-loop-held.ensures) at c.if-more-limit.true)

pub returns-then-more-eq0-clause-run : goal.returns-then-more-eq0-clause-run
returns-then-more-eq0-clause-run g c = hold_ended _ _ c.loop-held.invariant c.in_ok-piece.piece (rw c.as_slice.ensures at c.if-more-eq0.true)

pub returns-then-more-eq0-clause-gives : goal.returns-then-more-eq0-clause-gives
returns-then-more-eq0-clause-gives g c = (all_taken (g.P.PieceSource.state c.args.pieces.now) (g.P.PieceSource.state c.loop-held.pieces) (g.P.PieceSource.state c.next_piece.new.pieces) _ _ c.loop-held.invariant.taken c.in_ok-piece.ensures.prefix (rw c.as_slice.ensures at c.if-more-eq0.true), c.in_ok-piece.ensures.end (nil_of _ (rw c.as_slice.ensures at c.if-more-eq0.true)))

pub returns-in_err-held-clause-run : goal.returns-in_err-held-clause-run
returns-in_err-held-clause-run g c = hold_wanting _ _ c.loop-held.invariant _ c.from_residual-in_err-held.ensures.1

pub returns-in_err-held-clause-gives : goal.returns-in_err-held-clause-gives
returns-in_err-held-clause-gives g c = gives_refused (g.P.PieceSource.state c.args.pieces.now) (g.P.PieceSource.state c.next_piece.new.pieces) _ _ c.from_residual-in_err-held.ensures.1

pub returns-in_err-held-clause-refused : goal.returns-in_err-held-clause-refused
returns-in_err-held-clause-refused g c = err_is _ _ _ c.from_residual-in_err-held.ensures.1 tt

pub loop-held-preserved : goal.loop-held-preserved
loop-held-preserved g c = rw c.in_ok-held.ensures (held_more _ _ c.loop-held.invariant _ (omega (arith, c.if-more-eq0.false, ap length c.as_slice.ensures)) (omega (arith, c.if-more-limit.false, ap length c.as_slice.ensures, ap length c.as_slice-in-loop-held.ensures)) c.in_ok-piece.ensures.prefix c.in_ok-piece.ensures.next c.in_ok-piece.ensures.count)

pub returns-then-more-limit-clause-refused : goal.returns-then-more-limit-clause-refused
returns-then-more-limit-clause-refused g c = took_more _ (g.P.PieceSource.state c.args.pieces.now) (g.P.PieceSource.state c.loop-held.pieces) (g.P.PieceSource.state c.next_piece.new.pieces) c.loop-held.invariant.pieces c.loop-held.held c.in_ok-piece.piece c.loop-held.invariant.held_are c.loop-held.invariant.taken c.loop-held.invariant.ahead c.in_ok-piece.ensures.prefix c.in_ok-piece.ensures.next c.loop-held.invariant.small (omega (arith, c.if-more-limit.true, ap length c.as_slice.ensures, ap length c.as_slice-in-loop-held.ensures))

pub returns-in_err-piece-clause-gathers : goal.returns-in_err-piece-clause-gathers
returns-in_err-piece-clause-gathers g c = gathers_refused (g.P.PieceSource.state c.args.pieces.now) (g.P.PieceSource.state c.next_piece.new.pieces) _ _ c.from_residual.ensures.1

pub returns-then-more-eq0-clause-gathers : goal.returns-then-more-eq0-clause-gathers
returns-then-more-eq0-clause-gathers g c = gathered _ _ c.loop-held.invariant c.in_ok-piece.piece (rw c.as_slice.ensures at c.if-more-eq0.true) c.in_ok-piece.ensures.next c.in_ok-piece.ensures.last

pub returns-in_err-held-clause-gathers : goal.returns-in_err-held-clause-gathers
returns-in_err-held-clause-gathers g c = gathers_refused (g.P.PieceSource.state c.args.pieces.now) (g.P.PieceSource.state c.next_piece.new.pieces) _ _ c.from_residual-in_err-held.ensures.1
