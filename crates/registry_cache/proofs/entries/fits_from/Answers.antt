use Rattle.std.proofs.Common.{◌-◌, arith, refl}
use Rattle.registry_cache.proofs.Backs.{within_is, all_fit, over_count, over_weight, counted_more}
use Rattle.registry_cache.proofs.entries.fits_from.Goals as goal
use Rattle.registry_cache.proofs.entries.fits_from.Goals.{then-bounds-count-via-then-bounds-count, then-bounds-count-via-else-bounds-count+then-bounds-weight}

pub returns-then-bounds-count-clause-rest : goal.returns-then-bounds-count-clause-rest
returns-then-bounds-count-clause-rest c =
    let b = c.args.bounds.now in
    let es = c.args.entries.now in
    let start = c.loop-start.start in
    elim c.then-bounds-count.branch [
      | then-bounds-count-via-then-bounds-count w ↦
          within_is b start es (omega arith) c.loop-start.invariant.2 (over_count b es (start - 1) _ refl w.if-bounds-count.true)
      | then-bounds-count-via-else-bounds-count+then-bounds-weight w ↦
          within_is b start es (omega arith) c.loop-start.invariant.2
          (over_weight b es (start - 1) c.saturating_add-weight.result
          (counted_more es start c.index-entries-start.result _ _ _ (omega arith) c.loop-start.invariant.0 c.index-entries-start.is c.loop-start.invariant.1 c.weight.ensures c.saturating_add-weight.ensures)
          w.if-bounds-weight.true)
    ]

pub returns-clause-rest : goal.returns-clause-rest
returns-clause-rest c = all_fit c.args.bounds.now c.loop-start.start c.args.entries.now (omega arith) c.loop-start.invariant.2
