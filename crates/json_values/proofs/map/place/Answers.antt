use Rattle.std.proofs.Common.{sym, ap, ◌∙◌, subst, length, ◌/◌, ◌+◌}
use Rattle.json_values.specs.Places.{by_bytes, place_of}
use Rattle.json_values.proofs.Halves.{Searching, searching_before, searching_here, searching_after, half_within}
use Rattle.json_values.proofs.map.place.Goals as goal

pub loop-left-preserved-in-Less : goal.loop-left-preserved-in-Less
loop-left-preserved-in-Less g c =
    let order = ap (by_bytes c.args.name.now) (ap (λ e. e.0) c.index-left-middle.is ∙ sym c.as_str.ensures) ∙ sym c.cmp.ensures ∙ c.in-Less.is in
    searching_before c.args.name.now _ _ _ _ _ c.index-left-middle.result c.loop-left.invariant (half_within _ c.loop-left-test.ensures) c.index-left-middle.is order

pub returns-in-Equal-clause-place : goal.returns-in-Equal-clause-place
returns-in-Equal-clause-place g c =
    let order = ap (by_bytes c.args.name.now) (ap (λ e. e.0) c.index-left-middle.is ∙ sym c.as_str.ensures) ∙ sym c.cmp.ensures ∙ c.in-Equal.is in
    searching_here c.args.name.now _ _ _ _ _ c.index-left-middle.result c.loop-left.invariant (half_within _ c.loop-left-test.ensures) c.index-left-middle.is order

pub loop-left-preserved : goal.loop-left-preserved
loop-left-preserved g c =
    let order = ap (by_bytes c.args.name.now) (ap (λ e. e.0) c.index-left-middle.is ∙ sym c.as_str.ensures) ∙ sym c.cmp.ensures ∙ c.in-Greater.is in
    subst (Searching c.args.name.now (place_of c.args.name.now c.args.entries.now) (length c.args.entries.now) (c.loop-left.before + (length c.loop-left.left.now / 2 + 1))) (sym c.split_at.ensures.back)
    (searching_after c.args.name.now _ _ _ _ _ c.index-left-middle.result c.loop-left.invariant (half_within _ c.loop-left-test.ensures) c.index-left-middle.is order)
