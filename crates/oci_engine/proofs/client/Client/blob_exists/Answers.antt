use Rattle.engine_terms.specs.Contexts.{within}
use Rattle.call_laws.proofs.ExistenceLaws.{exists_confined, exists_answered, exists_reason, exists_fault, exists_no_url, exists_bad}
use Rattle.oci_engine.proofs.client.Client.blob_exists.Goals as goal

pub returns-clause-confined : goal.returns-clause-confined
returns-clause-confined g c = exists_confined (within c.args.self.now.settings c.args.moment) c.args.image.now c.args.digest.now (rw c.lend-memory.ensures at c.blob_exists-answer.ensures)

pub returns-clause-answered : goal.returns-clause-answered
returns-clause-answered g c = exists_answered (within c.args.self.now.settings c.args.moment) c.args.image.now c.args.digest.now (rw c.lend-memory.ensures at c.blob_exists-answer.ensures)

pub returns-clause-causes : goal.returns-clause-causes
returns-clause-causes g c = exists_reason (within c.args.self.now.settings c.args.moment) c.args.image.now c.args.digest.now (rw c.lend-memory.ensures at c.blob_exists-answer.ensures)

pub returns-clause-fault : goal.returns-clause-fault
returns-clause-fault g c = exists_fault (within c.args.self.now.settings c.args.moment) c.args.image.now c.args.digest.now (rw c.lend-memory.ensures at c.blob_exists-answer.ensures)

pub returns-clause-invalid_url : goal.returns-clause-invalid_url
returns-clause-invalid_url g c = λ none. exists_no_url (within c.args.self.now.settings c.args.moment) c.args.image.now c.args.digest.now (rw c.lend-memory.ensures at c.blob_exists-answer.ensures) none

pub returns-clause-bad_header : goal.returns-clause-bad_header
returns-clause-bad_header g c = λ bad. exists_bad (within c.args.self.now.settings c.args.moment) c.args.image.now c.args.digest.now (rw c.lend-memory.ensures at c.blob_exists-answer.ensures) bad

pub returns-clause-run : goal.returns-clause-run
returns-clause-run g c = rw c.lend-memory.ensures at c.blob_exists-answer.ensures
