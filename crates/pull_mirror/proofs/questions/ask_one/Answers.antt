use Rattle.std.proofs.Common.{refl}
use Rattle.pull_mirror.proofs.Asking.{passed, there_as, unasked}
use Rattle.pull_mirror.specs.Asked.{IsAbout}
use Rattle.pull_mirror.proofs.questions.ask_one.Goals as goal

pub returns-in_err-name-clause-run : goal.returns-in_err-name-clause-run
returns-in_err-name-clause-run g c = unasked c.from_residual.result c.from_residual.ensures.1

pub returns-in_err-name-clause-about : goal.returns-in_err-name-clause-about
returns-in_err-name-clause-about g c = passed (IsAbout c.args.digest.now) c.from_residual.result _ c.from_residual.ensures.1 tt
