use Rattle.std.proofs.Common.{rules, ◌≡◌, subst}
use Rattle.std.specs.Fmt.{HasWritten, HasWrittenStyled}
use Rattle.engine_terms.specs.Shown.{shown_body}
use Rattle.engine_terms.proofs.InlineTexts.{written}
use Rattle.engine_terms.proofs.token_body.TokenBodyDebug.fmt.Goals as goal

pub returns-clause-writes : goal.returns-clause-writes
returns-clause-writes g c plain ok =
    let shown = written _ _ _ c.in_ok-write.ensures.writes c.new-shown.ensures.intact c.new-shown.ensures.text in
    let text : c.as_str.result.now ≡ shown_body c.args.self.now = search rules in
    subst (λ bs. HasWritten g.W.Write.write_str_gives c.args.f.now bs c.write_str.new.self) text
    (c.write_str.ensures.writes plain ok)

pub returns-clause-styled : goal.returns-clause-styled
returns-clause-styled g c flush ok =
    let shown = written _ _ _ c.in_ok-write.ensures.writes c.new-shown.ensures.intact c.new-shown.ensures.text in
    let text : c.as_str.result.now ≡ shown_body c.args.self.now = search rules in
    subst (λ bs. HasWrittenStyled g.W.Write.write_str_gives c.args.f.now bs c.write_str.new.self) text
    (c.write_str.ensures.styled flush ok)
