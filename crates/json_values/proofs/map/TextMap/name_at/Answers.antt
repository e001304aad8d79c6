use Rattle.std.proofs.Common.{sym, ◌∙◌, ap, map, slice_get}
use Rattle.std.specs.FinMap as map
use Rattle.json_values.proofs.Maps.{names_of}
use Rattle.json_values.proofs.map.TextMap.name_at.Goals as goal

pub returns : goal.returns
returns g c =
    c.name_in.ensures ∙ ap (λ es. slice_get (map (λ e. e.0) es) c.args.place) c.as_slice.ensures.value
    ∙ sym (ap (λ ns. slice_get ns c.args.place) (names_of c.self.inside.entries.items c.self.invariant))
    ∙ ap (λ m. slice_get (map.keys m) c.args.place) c.self.view_is
