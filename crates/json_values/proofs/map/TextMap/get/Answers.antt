use Rattle.std.proofs.Common.{sym, ◌∙◌, ap, subst}
use Rattle.std.specs.FinMap as map
use Rattle.std.specs.FinMap.Entries.{find}
use Rattle.json_values.specs.Places.{by_bytes, Sorted}
use Rattle.json_values.proofs.map.TextMap.get.Goals as goal

pub find-requires : goal.find-requires
find-requires g c = subst Sorted (sym c.as_slice.ensures.value) c.self.invariant

pub returns : goal.returns
returns g c =
    c.find.ensures ∙ ap (find by_bytes c.args.name.now) c.as_slice.ensures.value
    ∙ sym (map.get-from_sorted by_bytes c.self.inside.entries.items c.args.name.now c.self.invariant)
    ∙ ap (λ m. map.get m c.args.name.now) c.self.view_is
