use Rattle.std.proofs.Common.{refl, ◌∙◌, arith}
use Rattle.image_blobs.proofs.HashedBytes.{hashed_more, hashed_over, hashed_failed, within_failed, within_piece}
use Rattle.image_blobs.proofs.checked.hashed.Goals as goal

pub returns-in-Err-clause-reads : goal.returns-in-Err-clause-reads
returns-in-Err-clause-reads g c = hashed_failed (g.S.Source.state c.args.source.now) (g.S.Source.state c.loop-count.source) (g.S.Source.state c.take.new.self) c.loop-count.invariant.1 (c.in-Err.ensures.fault)

pub returns-in-Err-clause-most : goal.returns-in-Err-clause-most
returns-in-Err-clause-most g c = within_failed _ _ _ _ _ (g.S.Source.state c.args.source.now) (g.S.Source.state c.loop-count.source) (g.S.Source.state c.take.new.self) c.loop-count.invariant.1 c.in-Err.ensures.stays

pub returns-then-count-eq0-clause-most : goal.returns-then-count-eq0-clause-most
returns-then-count-eq0-clause-most g c = within_piece _ _ _ _ c.take.new.room _ _ (g.S.Source.state c.args.source.now) (g.S.Source.state c.loop-count.source) (g.S.Source.state c.take.new.self) c.loop-count.invariant.1 c.in-Ok.ensures.prefix c.in-Ok.ensures.most (c.take.auto.room ∙ c.loop-count.auto.room)

pub returns-then-count-left-clause-reads : goal.returns-then-count-left-clause-reads
returns-then-count-left-clause-reads g c = hashed_over _ _ _ _ _ _ (g.S.Source.state c.args.source.now) (g.S.Source.state c.loop-count.source) (g.S.Source.state c.take.new.self) c.loop-count.invariant.1 c.in-Ok.ensures.prefix c.in-Ok.ensures.most c.if-count-left.true

pub returns-then-count-left-clause-most : goal.returns-then-count-left-clause-most
returns-then-count-left-clause-most g c = within_piece _ _ _ _ c.take.new.room _ _ (g.S.Source.state c.args.source.now) (g.S.Source.state c.loop-count.source) (g.S.Source.state c.take.new.self) c.loop-count.invariant.1 c.in-Ok.ensures.prefix c.in-Ok.ensures.most (c.take.auto.room ∙ c.loop-count.auto.room)

pub loop-count-preserved : goal.loop-count-preserved
loop-count-preserved g c = (omega (arith, c.in-Ok.ensures.most, c.if-count-eq0.false), hashed_more _ _ c.in-Ok.count c.take.new.room _ _ _ _ (g.S.Source.state c.args.source.now) (g.S.Source.state c.loop-count.source) (g.S.Source.state c.take.new.self) c.loop-count.invariant.1 c.in-Ok.ensures.prefix c.in-Ok.ensures.most c.if-count-left.false c.in-Ok.ensures.count refl (λ d m h. c.update.ensures d m h))
