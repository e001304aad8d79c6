use Rattle.std.proofs.Common.{sym, ap, ◌∙◌, arith}
use Rattle.std.specs.FinMap as finmap
use Rattle.std.specs.List.{flat_map}
use Rattle.serde_json.specs.View.{view}
use Rattle.live_link.specs.Requests.{values_data}
use Rattle.live_link.proofs.HeaderTexts.{within, take_whole, flat_next}
use Rattle.live_link.proofs.requests.headers_values.Goals as goal

pub loop-name-preserved : goal.loop-name-preserved
loop-name-preserved c = (
  omega (arith, within (finmap.keys c.args.headers.now) c.loop-name.place c.in-Some.name.now (sym c.in-Some.ensures.name), c.in-Some-checked_add.ensures.1),
  flat_next view (values_data c.args.headers.now) (finmap.keys c.args.headers.now) c.loop-name.place c.in-Some-checked_add.next c.in-Some.name.now c.loop-name.values.items c.add_values.new.values.items
      (sym c.in-Some.ensures.name) (omega (arith, c.in-Some-checked_add.ensures.1)) c.loop-name.invariant.1 c.in_ok-add_values.ensures,
)

pub returns : goal.returns
returns c = c.loop-name.invariant.1 ∙ ap (flat_map (values_data c.args.headers.now)) (take_whole (finmap.keys c.args.headers.now) c.loop-name.place (sym c.in_default.ensures.name))
