use Rattle.std.proofs.Common.{arith}
use Rattle.oci_transport.proofs.TakenBytes.{takes_as, taken_none, taken_more, taken_ends, taken_past, taken_calm, within_last, within_failed, still_within}
use Rattle.oci_transport.proofs.body.read_body.Goals as goal

pub returns-then-more-eq0-clause-unbroken : goal.returns-then-more-eq0-clause-unbroken
returns-then-more-eq0-clause-unbroken g c = taken_ends _ _ _ _ _ c.loop-piece.invariant.taken (takes_as c.as_slice-more.ensures c.in-Ok.ensures.taken) c.if-more-eq0.true

pub returns-then-more-limit-clause-long : goal.returns-then-more-limit-clause-long
returns-then-more-limit-clause-long g c = λ _. taken_past _ _ _ _ _ _ c.loop-piece.invariant.taken c.loop-piece.invariant.small (takes_as c.as_slice-more.ensures c.in-Ok.ensures.taken) (rw c.as_slice.ensures at c.if-more-limit.true)

pub loop-piece-preserved : goal.loop-piece-preserved
loop-piece-preserved g c = rw c.in_ok-body.ensures (record {
  small = still_within _ _ _ c.loop-piece.invariant.small (rw (c.as_slice.ensures, c.as_slice-more.ensures) at c.if-more-limit.false);
  taken = taken_more _ _ _ _ _ c.loop-piece.invariant.taken c.piece.ensures.told c.piece.ensures.steady c.piece.ensures.count c.in-Ok.ensures.taken;
})

pub loop-piece-init : goal.loop-piece-init
loop-piece-init g c = rw c.empty-body.ensures (record { small = omega arith; taken = taken_none _ })

pub returns-then-more-eq0-clause-calm : goal.returns-then-more-eq0-clause-calm
returns-then-more-eq0-clause-calm g c = taken_calm _ _ _ _ _ c.loop-piece.invariant.taken (takes_as c.as_slice-more.ensures c.in-Ok.ensures.taken)

pub returns-then-more-eq0-clause-pieces : goal.returns-then-more-eq0-clause-pieces
returns-then-more-eq0-clause-pieces g c = within_last _ _ _ _ _ _ c.loop-piece.invariant.taken c.loop-piece.invariant.small (takes_as c.as_slice-more.ensures c.in-Ok.ensures.taken)

pub returns-then-more-limit-clause-pieces : goal.returns-then-more-limit-clause-pieces
returns-then-more-limit-clause-pieces g c = within_last _ _ _ _ _ _ c.loop-piece.invariant.taken c.loop-piece.invariant.small (takes_as c.as_slice-more.ensures c.in-Ok.ensures.taken)

pub returns-in_err-body-clause-pieces : goal.returns-in_err-body-clause-pieces
returns-in_err-body-clause-pieces g c = within_last _ _ _ _ _ _ c.loop-piece.invariant.taken c.loop-piece.invariant.small c.in-Ok.ensures.taken
