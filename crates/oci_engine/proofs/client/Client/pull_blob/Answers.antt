use Rattle.engine_rows.specs.Blobs.{IntoSink}
use Rattle.engine_laws.proofs.CallResults.{blob_took}
use Rattle.engine_laws.proofs.CallCauses.{spilled_reason, spilled_fault}
use Rattle.request_laws.proofs.ExactRefusals.{blob_url, blob_bad, spilled_only, spilled_early}
use Rattle.request_laws.proofs.CallConfinement.{spilled_confined}
use Rattle.engine_terms.specs.Contexts.{within}
use Rattle.oci_engine.proofs.client.Client.pull_blob.Goals as goal

pub returns-clause-took : goal.returns-clause-took
returns-clause-took g c = blob_took (within c.args.self.now.settings c.args.moment) c.args.image.now _ (rw (c.as_layer_descriptor-layer.ensures, c.lend-memory.ensures) at c.pull_blob-answer.ensures)

pub returns-clause-causes : goal.returns-clause-causes
returns-clause-causes g c = spilled_reason (within c.args.self.now.settings c.args.moment) c.args.image.now _ (rw (c.as_layer_descriptor-layer.ensures, c.lend-memory.ensures) at c.pull_blob-answer.ensures)

pub returns-clause-fault : goal.returns-clause-fault
returns-clause-fault g c = spilled_fault (within c.args.self.now.settings c.args.moment) c.args.image.now _ (rw (c.as_layer_descriptor-layer.ensures, c.lend-memory.ensures) at c.pull_blob-answer.ensures)

pub returns-clause-sink : goal.returns-clause-sink
returns-clause-sink g c = c.pull_blob-answer.ensures.fault

pub returns-clause-invalid_url : goal.returns-clause-invalid_url
returns-clause-invalid_url g c = λ none. spilled_only _ (blob_url IntoSink (within c.args.self.now.settings c.args.moment) c.args.image.now _ none) (rw (c.as_layer_descriptor-layer.ensures, c.lend-memory.ensures) at c.pull_blob-answer.ensures)

pub returns-clause-bad_header : goal.returns-clause-bad_header
returns-clause-bad_header g c = λ bad. spilled_early (blob_bad IntoSink (within c.args.self.now.settings c.args.moment) c.args.image.now _ bad) (rw (c.as_layer_descriptor-layer.ensures, c.lend-memory.ensures) at c.pull_blob-answer.ensures)

pub returns-clause-confined : goal.returns-clause-confined
returns-clause-confined g c = spilled_confined (within c.args.self.now.settings c.args.moment) c.args.image.now _ (rw (c.as_layer_descriptor-layer.ensures, c.lend-memory.ensures) at c.pull_blob-answer.ensures)

pub returns-clause-run : goal.returns-clause-run
returns-clause-run g c = rw (c.as_layer_descriptor-layer.ensures, c.lend-memory.ensures) at c.pull_blob-answer.ensures
