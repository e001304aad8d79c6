use Rattle.std.proofs.Common.{sym, ap, ◌∙◌, arith, ◌++◌, map}
use Rattle.serde_json.specs.View.{view}
use Rattle.oci_transport.specs.Headers.{values_of}
use Rattle.live_link.specs.Requests.{header_data}
use Rattle.live_link.proofs.HeaderTexts.{within, take_whole, mapped_next}
use Rattle.live_link.proofs.requests.add_values.Goals as goal

pub loop-value-preserved : goal.loop-value-preserved
loop-value-preserved c = (
  omega (arith, within (values_of c.args.name.now c.args.headers.now) c.loop-value.place c.in-Some.value.now (sym c.in-Some.ensures), c.in-Some-checked_add.ensures.1),
  mapped_next view (λ value. header_data (c.args.name.now, value)) (values_of c.args.name.now c.args.headers.now) c.loop-value.place c.in-Some-checked_add.next c.in-Some.value.now c.loop-value.values.items c.push.new.self.items c.in_ok-header_value.field-0 (map view c.args.values.now.items)
      (sym c.in-Some.ensures) (omega (arith, c.in-Some-checked_add.ensures.1)) c.loop-value.invariant.1 c.in_ok-push.ensures.items c.in_ok-header_value.ensures,
)

pub returns : goal.returns
returns c = c.loop-value.invariant.1 ∙ ap (λ values. map view c.args.values.now.items ++ map (λ value. header_data (c.args.name.now, value)) values) (take_whole (values_of c.args.name.now c.args.headers.now) c.loop-value.place (sym c.in_default.ensures))
