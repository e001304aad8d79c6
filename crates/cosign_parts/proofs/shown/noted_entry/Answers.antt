use Rattle.std.proofs.Common.{option_copied, sym, ap, ◌∙◌}
use Rattle.cosign_parts.proofs.Shows.{noted}
use Rattle.cosign_parts.proofs.shown.noted_entry.Goals as goal

pub returns-in_ok-found-in-Some : goal.returns-in_ok-found-in-Some
returns-in_ok-found-in-Some c = noted _ c.in-Some.text.now c.in_ok-found-in-Some.found (sym (ap option_copied c.in-Some.is) ∙ c.get.ensures) (rw c.as_str.ensures at c.in_ok-found-in-Some.ensures)
