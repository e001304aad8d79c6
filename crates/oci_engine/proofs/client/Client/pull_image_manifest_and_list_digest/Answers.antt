use Rattle.engine_laws.proofs.CallCauses.{found_reason, found_fault}
use Rattle.request_laws.proofs.ExactRefusals.{found_url, found_bad, met_only, met_early}
use Rattle.request_laws.proofs.CallConfinement.{found_confined}
use Rattle.engine_terms.specs.Contexts.{within}
use Rattle.oci_engine.proofs.client.Client.pull_image_manifest_and_list_digest.Goals as goal

pub returns-clause-causes : goal.returns-clause-causes
returns-clause-causes g c = found_reason (within c.args.self.now.settings c.args.moment) c.args.image.now c.args.auth.now (rw c.lend-memory.ensures at c.pull_image_manifest_and_list_digest-answer.ensures)

pub returns-clause-fault : goal.returns-clause-fault
returns-clause-fault g c = found_fault (within c.args.self.now.settings c.args.moment) c.args.image.now c.args.auth.now (rw c.lend-memory.ensures at c.pull_image_manifest_and_list_digest-answer.ensures)

pub returns-clause-invalid_url : goal.returns-clause-invalid_url
returns-clause-invalid_url g c = λ none. met_only _ (found_url (within c.args.self.now.settings c.args.moment) c.args.image.now c.args.auth.now none) (rw c.lend-memory.ensures at c.pull_image_manifest_and_list_digest-answer.ensures)

pub returns-clause-bad_header : goal.returns-clause-bad_header
returns-clause-bad_header g c = λ bad. met_early (found_bad (within c.args.self.now.settings c.args.moment) c.args.image.now c.args.auth.now bad) (rw c.lend-memory.ensures at c.pull_image_manifest_and_list_digest-answer.ensures)

pub returns-clause-confined : goal.returns-clause-confined
returns-clause-confined g c = found_confined (within c.args.self.now.settings c.args.moment) c.args.image.now c.args.auth.now (rw c.lend-memory.ensures at c.pull_image_manifest_and_list_digest-answer.ensures)

pub returns-clause-run : goal.returns-clause-run
returns-clause-run g c = rw c.lend-memory.ensures at c.pull_image_manifest_and_list_digest-answer.ensures
