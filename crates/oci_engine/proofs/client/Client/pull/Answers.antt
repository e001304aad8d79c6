use Rattle.engine_laws.proofs.CallCauses.{image_reason, image_fault}
use Rattle.request_laws.proofs.ExactRefusals.{image_url, image_bad, met_only, met_early}
use Rattle.request_laws.proofs.CallConfinement.{image_confined}
use Rattle.engine_terms.specs.Contexts.{within}
use Rattle.oci_engine.proofs.client.Client.pull.Goals as goal

pub returns-clause-causes : goal.returns-clause-causes
returns-clause-causes g c = image_reason (within c.args.self.now.settings c.args.moment) c.args.image.now c.args.auth.now c.args.accepted_media_types.now (rw c.lend-memory.ensures at c.pull-answer.ensures)

pub returns-clause-fault : goal.returns-clause-fault
returns-clause-fault g c = image_fault (within c.args.self.now.settings c.args.moment) c.args.image.now c.args.auth.now c.args.accepted_media_types.now (rw c.lend-memory.ensures at c.pull-answer.ensures)

pub returns-clause-invalid_url : goal.returns-clause-invalid_url
returns-clause-invalid_url g c = λ none. met_only _ (image_url (within c.args.self.now.settings c.args.moment) c.args.image.now c.args.auth.now c.args.accepted_media_types.now none) (rw c.lend-memory.ensures at c.pull-answer.ensures)

pub returns-clause-bad_header : goal.returns-clause-bad_header
returns-clause-bad_header g c = λ bad. met_early (image_bad (within c.args.self.now.settings c.args.moment) c.args.image.now c.args.auth.now c.args.accepted_media_types.now bad) (rw c.lend-memory.ensures at c.pull-answer.ensures)

pub returns-clause-confined : goal.returns-clause-confined
returns-clause-confined g c = image_confined (within c.args.self.now.settings c.args.moment) c.args.image.now c.args.auth.now c.args.accepted_media_types.now (rw c.lend-memory.ensures at c.pull-answer.ensures)

pub returns-clause-run : goal.returns-clause-run
returns-clause-run g c = rw c.lend-memory.ensures at c.pull-answer.ensures
