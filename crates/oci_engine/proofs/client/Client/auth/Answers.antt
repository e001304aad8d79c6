use Rattle.request_laws.proofs.CallConfinement.{given_confined}
use Rattle.engine_terms.specs.Contexts.{within}
use Rattle.engine_laws.proofs.TokenCauses.{token_reason, token_fault}
use Rattle.oci_engine.proofs.client.Client.auth.Goals as goal

pub returns-clause-causes : goal.returns-clause-causes
returns-clause-causes g c = token_reason (within c.args.self.now.settings c.args.moment) c.args.image.now c.args.authentication.now c.args.operation (rw c.lend-memory.ensures at c.token_given-answer.ensures.run)

pub returns-clause-fault : goal.returns-clause-fault
returns-clause-fault g c = token_fault (within c.args.self.now.settings c.args.moment) c.args.image.now c.args.authentication.now c.args.operation (rw c.lend-memory.ensures at c.token_given-answer.ensures.run)

pub returns-clause-confined : goal.returns-clause-confined
returns-clause-confined g c = given_confined (within c.args.self.now.settings c.args.moment) c.args.image.now c.args.authentication.now c.args.operation (rw c.lend-memory.ensures at c.token_given-answer.ensures.run)

pub returns-clause-run : goal.returns-clause-run
returns-clause-run g c = rw c.lend-memory.ensures at c.token_given-answer.ensures.run
