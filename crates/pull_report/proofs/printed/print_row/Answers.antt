use Rattle.std.proofs.Common.{◌++◌, ap, sym, ◌∙◌}
use Rattle.std.proofs.lemmas.List.{append_assoc}
use Rattle.pull_report.specs.Words.{behind_spaces}
use Rattle.pull_report.proofs.Words.{spaced_behind}
use Rattle.pull_report.proofs.printed.print_row.Goals as goal

pub returns : goal.returns
returns g c =
    let prints = g.R.PrintedRow.prints c.args.kept in
    c.in_ok-write_prints.ensures
    ∙ (ap (λ out. out ++ behind_spaces prints) c.in_ok-word.ensures
    ∙ (append_assoc c.args.out.now c.args.name.now (behind_spaces prints)
    ∙ ap (λ print. c.args.out.now ++ print) (sym (spaced_behind c.args.name.now prints))))
