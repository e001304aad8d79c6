use Rattle.std.proofs.Common.{◌≡◌, ◌++◌, subst}
use Rattle.std.specs.Prelude.{OnOk}
use Rattle.pull_report.proofs.Refusals.{with_document, with_body}
use Rattle.pull_report.proofs.registry.OciDistributionErrorPrinted.write_print.Goals as goal

pub returns-in-AmbiguousManifest : goal.returns-in-AmbiguousManifest
returns-in-AmbiguousManifest c =
    let call = c.print_row-in-AmbiguousManifest in
    subst (λ print. OnOk call.result (call.new.out ≡ c.args.out.now ++ print))
    (with_document _ _ _ c.name-name.ensures c.in-AmbiguousManifest.is) call.ensures

pub returns-in-AuthenticationFailure : goal.returns-in-AuthenticationFailure
returns-in-AuthenticationFailure c =
    let call = c.print_row-in-AuthenticationFailure in
    subst (λ print. OnOk call.result (call.new.out ≡ c.args.out.now ++ print))
    (with_body _ _ _ c.name-name.ensures c.in-AuthenticationFailure.is) call.ensures
