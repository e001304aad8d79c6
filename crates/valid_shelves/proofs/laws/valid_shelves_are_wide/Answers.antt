use Rattle.cosign_layers.specs.Satisfying.{policy_context}
use Rattle.cosign_laws.proofs.ShelfPulls.{valid_wide}
use Rattle.valid_shelves.proofs.laws.valid_shelves_are_wide.Goals as goal

pub returns : goal.returns
returns g c = λ own trust s image a accepted shelf valid. valid_wide (policy_context c.args.policy.now own trust) s image a accepted shelf valid
