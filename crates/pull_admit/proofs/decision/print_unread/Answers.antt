use Rattle.pull_admit.proofs.Texts.{three}
use Rattle.pull_admit.proofs.decision.print_unread.Goals as goal

pub returns : goal.returns
returns c = three c.args.out.now _ _ _ _ _ _ c.in_ok-word.ensures c.in_ok-word-2.ensures c.in_ok-write_print.ensures
