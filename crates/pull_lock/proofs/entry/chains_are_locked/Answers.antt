use Rattle.cosign_layers.specs.Satisfying.{policy_context}
use Rattle.pull_lock.proofs.Parts.{chain_locked}
use Rattle.pull_lock.proofs.entry.chains_are_locked.Goals as goal

pub returns : goal.returns
returns g c = λ own trust image accepted promise found chain reads. chain_locked (policy_context c.args.policy.now own trust) image accepted promise found chain reads
