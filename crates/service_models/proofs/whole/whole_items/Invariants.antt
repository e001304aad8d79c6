use Rattle.std.proofs.Common.{◌≡◌, take}
use Rattle.service_models.proofs.whole.whole_items.Given as goal

abbrev pub invariant-loop-number : goal.invariant-loop-number
invariant-loop-number l = l.items ≡ take l.number-index l.numbers
