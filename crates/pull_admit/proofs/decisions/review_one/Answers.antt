use Rattle.pull_admit.proofs.OneImages.{unparsed, unread_ok}
use Rattle.pull_admit.proofs.decisions.review_one.Goals as goal

pub returns-then-not-parses-clause-decided : goal.returns-then-not-parses-clause-decided
returns-then-not-parses-clause-decided g c =
    unread_ok _ c.args.image.now _ _ c.unreadable.result c.unreadable.ensures (unparsed c.in_ok-parses.parses _ (rw c.as_str-text.ensures at c.in_ok-parses.ensures) c.if-not-parses.true)
