use Rattle.engine_rows.specs.Blobs.{IntoMemory}
use Rattle.engine_laws.proofs.CallResults.{blob_body, blob_last, blob_named}
use Rattle.engine_laws.proofs.CallCauses.{blob_reason, blob_fault}
use Rattle.request_laws.proofs.ExactRefusals.{blob_url, blob_bad, met_only, met_early}
use Rattle.request_laws.proofs.CallConfinement.{blob_confined}
use Rattle.engine_terms.specs.Contexts.{within}
use Rattle.oci_engine.proofs.client.Client.pulled_blob.Goals as goal

pub returns-clause-body : goal.returns-clause-body
returns-clause-body g c = blob_body IntoMemory (within c.args.self.now.settings c.args.moment) c.args.image.now _ (rw (c.as_layer_descriptor-layer.ensures, c.lend-memory.ensures) at c.pulled_blob-answer.ensures)

pub returns-clause-named : goal.returns-clause-named
returns-clause-named g c = blob_named IntoMemory (within c.args.self.now.settings c.args.moment) c.args.image.now _ (rw (c.as_layer_descriptor-layer.ensures, c.lend-memory.ensures) at c.pulled_blob-answer.ensures)

pub returns-clause-causes : goal.returns-clause-causes
returns-clause-causes g c = blob_reason IntoMemory (within c.args.self.now.settings c.args.moment) c.args.image.now _ (rw (c.as_layer_descriptor-layer.ensures, c.lend-memory.ensures) at c.pulled_blob-answer.ensures)

pub returns-clause-fault : goal.returns-clause-fault
returns-clause-fault g c = blob_fault IntoMemory (within c.args.self.now.settings c.args.moment) c.args.image.now _ (rw (c.as_layer_descriptor-layer.ensures, c.lend-memory.ensures) at c.pulled_blob-answer.ensures)

pub returns-clause-last : goal.returns-clause-last
returns-clause-last g c = blob_last IntoMemory (within c.args.self.now.settings c.args.moment) c.args.image.now _ (rw (c.as_layer_descriptor-layer.ensures, c.lend-memory.ensures) at c.pulled_blob-answer.ensures)

pub returns-clause-invalid_url : goal.returns-clause-invalid_url
returns-clause-invalid_url g c = λ none. met_only _ (blob_url IntoMemory (within c.args.self.now.settings c.args.moment) c.args.image.now _ none) (rw (c.as_layer_descriptor-layer.ensures, c.lend-memory.ensures) at c.pulled_blob-answer.ensures)

pub returns-clause-bad_header : goal.returns-clause-bad_header
returns-clause-bad_header g c = λ bad. met_early (blob_bad IntoMemory (within c.args.self.now.settings c.args.moment) c.args.image.now _ bad) (rw (c.as_layer_descriptor-layer.ensures, c.lend-memory.ensures) at c.pulled_blob-answer.ensures)

pub returns-clause-confined : goal.returns-clause-confined
returns-clause-confined g c = blob_confined IntoMemory (within c.args.self.now.settings c.args.moment) c.args.image.now _ (rw (c.as_layer_descriptor-layer.ensures, c.lend-memory.ensures) at c.pulled_blob-answer.ensures)

pub returns-clause-run : goal.returns-clause-run
returns-clause-run g c = rw (c.as_layer_descriptor-layer.ensures, c.lend-memory.ensures) at c.pulled_blob-answer.ensures
