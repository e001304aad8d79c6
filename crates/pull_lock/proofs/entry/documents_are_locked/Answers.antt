use Rattle.cosign_layers.specs.Satisfying.{policy_context}
use Rattle.pull_lock.proofs.LockedDocuments.{documents_locked}
use Rattle.pull_lock.proofs.entry.documents_are_locked.Goals as goal

pub returns : goal.returns
returns g c = λ own trust image accepted promise d holds reads some allowed. documents_locked (policy_context c.args.policy.now own trust) image accepted promise d holds reads some allowed
