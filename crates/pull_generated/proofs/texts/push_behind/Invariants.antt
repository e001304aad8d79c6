use Rattle.std.proofs.Common.{◌≡◌, ◌++◌, codes, flat_map, take}
use Rattle.pull_generated.proofs.texts.push_behind.Given as goal

abbrev pub invariant-loop-one : goal.invariant-loop-one
invariant-loop-one l = l.text ≡ l.fn.text ++ flat_map (λ one. codes "," ++ one) (take l.one-index l.others)
