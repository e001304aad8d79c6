use Rattle.std.proofs.Common.{ap, ◌∙◌, map, arith}
use Rattle.std.proofs.lemmas.List.{take_all}
use Rattle.serde_json.specs.View.{view, items_of}
use Rattle.oci_docs.specs.Nfc.{composed_items}
use Rattle.oci_docs.proofs.Steps.{composed_view, items_composed}
use Rattle.oci_docs.proofs.nfc.+composed.Goals as goal

pub compose_items-returns : goal.compose_items-returns
compose_items-returns t c =
    let items = c.deref-item-items.result.now in
    ap items_of c.loop-item.invariant
    ∙ ap (λ vs. items_of (map composed_view vs)) (take_all c.loop-item.item-index items (omega arith))
    ∙ items_composed items
    ∙ ap (λ vs. composed_items (items_of (map view vs))) c.deref-item-items.ensures.value
