use Rattle.pull_admit.proofs.Agreeing.{responses_same}
use Rattle.pull_admit.proofs.verdicts.responses_agree.Goals as goal

pub returns : goal.returns
returns c = responses_same
