use Rattle.std.proofs.Common.{sym, ◌∙◌}
use Rattle.pull_mirror.proofs.Digests.{adds_none, adds_one}
use Rattle.pull_mirror.proofs.documents.add_digest.Goals as goal

pub returns-then-contains : goal.returns-then-contains
returns-then-contains c = adds_none c.args.digest.now c.args.asked.now (rw c.as_str.ensures at (sym c.contains.ensures ∙ c.if-contains.true))

pub returns : goal.returns
returns c = adds_one c.args.digest.now _ _ _ (rw c.as_str.ensures at (sym c.contains.ensures ∙ c.if-contains.false)) c.in_ok-digest.ensures c.in_ok-push.ensures.ok (rw c.in_ok-name.ensures at c.in_ok-insert.ensures.ok)
