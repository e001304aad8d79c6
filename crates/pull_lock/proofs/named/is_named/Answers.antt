use Rattle.std.proofs.Common.{ap, ◌∙◌}
use Rattle.pull_lock.specs.Tests.{parsed}
use Rattle.pull_lock.proofs.Names.{not_parsed, parsed_named}
use Rattle.pull_lock.proofs.named.is_named.Goals as goal

pub returns-in_default : goal.returns-in_default
returns-in_default c = not_parsed c.args.entry.now c.in_ok-image.field-0 c.in_default.is (c.in_ok-image.ensures ∙ ap parsed c.as_str.ensures)

pub returns : goal.returns
returns c = parsed_named c.args.entry.now c.in_ok-image.field-0 c.in-Some.image c.in_ok-named.named c.in-Some.is (c.in_ok-image.ensures ∙ ap parsed c.as_str.ensures) c.in_ok-named.ensures
