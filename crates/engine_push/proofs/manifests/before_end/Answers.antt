use Rattle.std.proofs.Common.{sym}
use Rattle.engine_push.proofs.ManifestTree.{found_end, no_end}
use Rattle.engine_push.proofs.manifests.before_end.Goals as goal

pub returns-in-Some : goal.returns-in-Some
returns-in-Some c =
    let cases = c.in-Some.ensures.cases in
    sym (found_end c.args.end.now c.args.text.now c.in-Some.front.now cases.0 cases.1 cases.2)

pub returns-in-None : goal.returns-in-None
returns-in-None c = sym (no_end c.args.end.now c.args.text.now c.in-None.ensures.cases)
