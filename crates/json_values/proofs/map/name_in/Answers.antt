use Rattle.std.proofs.Common.{sym, ◌∙◌, ap, option_map, arith}
use Rattle.json_values.proofs.Maps.{name_at, slice_get-found, slice_get-past}
use Rattle.json_values.proofs.map.name_in.Goals as goal

pub returns-then-place-entries : goal.returns-then-place-entries
returns-then-place-entries g c =
    let es = c.args.entries.now in
    sym (name_at es c.args.place ∙ ap (option_map (λ e. e.0)) (slice_get-found es c.args.place _ (omega arith)))

pub returns-else-place-entries : goal.returns-else-place-entries
returns-else-place-entries g c =
    let es = c.args.entries.now in
    sym (name_at es c.args.place ∙ ap (option_map (λ e. e.0)) (slice_get-past es c.args.place (omega arith)))
