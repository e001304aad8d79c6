use Rattle.std.proofs.Common.{ap, sym, ◌∙◌, subst}
use Rattle.pull_lock.specs.Entries.{GivesText}
use Rattle.pull_lock.proofs.Entries.{a_text, no_text}
use Rattle.pull_lock.proofs.entry.text_in.Goals as goal

pub returns-in_ok-new-in-Ok : goal.returns-in_ok-new-in-Ok
returns-in_ok-new-in-Ok c =
    a_text c.args.bytes.now c.as_slice.result.now c.in_ok-new-in-Ok.field-0 c.as_slice.ensures (c.in_ok-new-in-Ok.ensures ∙ c.in-Ok.ensures.cases.0) c.in-Ok.ensures.cases.1

pub returns-in-Err : goal.returns-in-Err
returns-in-Err c = no_text c.args.bytes.now c.as_slice.result.now c.as_slice.ensures c.in-Err.ensures.cases.0
