use Rattle.engine_terms.specs.Contexts.{within}
use Rattle.request_laws.proofs.ExactRefusals.{met_only, met_early}
use Rattle.push_laws.proofs.CallCauses.{blob_reason, blob_fault}
use Rattle.push_laws.proofs.Confinement.{blob_confined}
use Rattle.push_laws.proofs.EarlyPushes.{blob_url, blob_bad}
use Rattle.oci_engine.proofs.client.Client.push_blob.Goals as goal

pub returns-clause-confined : goal.returns-clause-confined
returns-clause-confined g c = blob_confined (within c.args.self.now.settings c.args.moment) c.args.image_ref.now _ _ (rw c.lend-memory.ensures at c.push_blob-answer.ensures)

pub returns-clause-causes : goal.returns-clause-causes
returns-clause-causes g c = blob_reason (within c.args.self.now.settings c.args.moment) c.args.image_ref.now _ _ _ (rw c.lend-memory.ensures at c.push_blob-answer.ensures)

pub returns-clause-fault : goal.returns-clause-fault
returns-clause-fault g c = blob_fault (within c.args.self.now.settings c.args.moment) c.args.image_ref.now _ _ _ (rw c.lend-memory.ensures at c.push_blob-answer.ensures)

pub returns-clause-invalid_url : goal.returns-clause-invalid_url
returns-clause-invalid_url g c = λ none. met_only _ (blob_url (within c.args.self.now.settings c.args.moment) c.args.image_ref.now _ _ none) (rw c.lend-memory.ensures at c.push_blob-answer.ensures)

pub returns-clause-bad_header : goal.returns-clause-bad_header
returns-clause-bad_header g c = λ bad. met_early (blob_bad (within c.args.self.now.settings c.args.moment) c.args.image_ref.now _ _ bad) (rw c.lend-memory.ensures at c.push_blob-answer.ensures)

pub returns-clause-run : goal.returns-clause-run
returns-clause-run g c = rw c.lend-memory.ensures at c.push_blob-answer.ensures
