use Rattle.std.proofs.Common.{sym, ap, ◌∙◌}
use Rattle.pull_mirror.specs.Pushes.{Blob}
use Rattle.pull_mirror.proofs.Planned.{adds_none, adds_one}
use Rattle.pull_mirror.proofs.planning.add_blob.Goals as goal

pub returns-then-contains : goal.returns-then-contains
returns-then-contains c = adds_none c.args.digest.now c.args.bytes.now c.args.blobs.now (rw c.as_str.ensures at (sym c.contains.ensures ∙ c.if-contains.true))

pub returns : goal.returns
returns c =
    adds_one c.args.digest.now c.args.bytes.now c.args.blobs.now _ _ (rw c.as_str.ensures at (sym c.contains.ensures ∙ c.if-contains.false))
    (ap (λ d. Blob d c.args.bytes.now) c.in_ok-digest.ensures) c.in_ok-push.ensures.ok (rw c.in_ok-name.ensures at c.in_ok-insert.ensures.ok)
