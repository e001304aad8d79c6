use Rattle.std.proofs.Common.{sym, ◌∙◌}
use Rattle.pull_lock.proofs.FileLaws.{not_canonical, not_in_order}
use Rattle.pull_lock.proofs.reading.read_exactly.Goals as goal

pub returns-then-not-is_same : goal.returns-then-not-is_same
returns-then-not-is_same c =
    not_canonical c.args.bytes.now c.in_ok-text.text c.in-Some.lock c.is_same.result (sym c.in-Some.is ∙ c.in_ok-lock.ensures) c.in_ok-text.ensures.value c.in_ok-text.ensures.text c.is_same.ensures c.if-not-is_same.true

pub returns-then-not-increases : goal.returns-then-not-increases
returns-then-not-increases c =
    not_in_order c.args.bytes.now c.in_ok-text.text c.in-Some.lock c.is_same.result c.increases.result (sym c.in-Some.is ∙ c.in_ok-lock.ensures) c.in_ok-text.ensures.text c.is_same.ensures c.if-not-is_same.false
    (rw c.as_slice.ensures at c.increases.ensures) c.if-not-increases.true
