use Rattle.std.proofs.Common.{◌≡◌, rules, subst}
use Rattle.std.specs.Fmt.{HasWrittenStyled}
use Rattle.oci_auth.specs.Shown.{shown_basic}
use Rattle.oci_auth.proofs.Formatters.{written, basic_text}
use Rattle.oci_auth.proofs.shown.write_basic.Goals as goal

pub returns : goal.returns
returns g c flush ok =
    let done = written g.W.Write.write_str_gives _ c.write-result.new.self _ _ c.write-result.result c.write-result.ensures.writes ok (basic_text c.args.user.now c.if-not-is_ascii.ensures.cases) flush in
    let same = done.1 in
    let end : c.write-result.new.self.formatter.now ≡ c.f-1.given.0 = search rules in
    subst (HasWrittenStyled g.W.Write.write_str_gives c.args.f.now (shown_basic c.args.user.now)) end done.0
