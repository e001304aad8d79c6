use Rattle.engine_terms.specs.Contexts.{within}
use Rattle.call_laws.proofs.StreamCalls.{stream_confined, stream_reason, stream_fault}
use Rattle.call_laws.proofs.StreamRefusalLaws.{stream_no_url, stream_bad}
use Rattle.oci_engine.proofs.client.Client.pull_blob_stream.Goals as goal

pub returns-clause-confined : goal.returns-clause-confined
returns-clause-confined g c = stream_confined (within c.args.self.now.settings c.args.moment) c.args.image.now _ (rw (c.as_layer_descriptor-layer.ensures, c.lend-memory.ensures) at c.pull_blob_stream-answer.ensures.run)

pub returns-clause-causes : goal.returns-clause-causes
returns-clause-causes g c = stream_reason (within c.args.self.now.settings c.args.moment) c.args.image.now _ _ (rw (c.as_layer_descriptor-layer.ensures, c.lend-memory.ensures) at c.pull_blob_stream-answer.ensures.run)

pub returns-clause-fault : goal.returns-clause-fault
returns-clause-fault g c = stream_fault (within c.args.self.now.settings c.args.moment) c.args.image.now _ _ (rw (c.as_layer_descriptor-layer.ensures, c.lend-memory.ensures) at c.pull_blob_stream-answer.ensures.run)

pub returns-clause-invalid_url : goal.returns-clause-invalid_url
returns-clause-invalid_url g c = λ none. stream_no_url (within c.args.self.now.settings c.args.moment) c.args.image.now _ _ none (rw (c.as_layer_descriptor-layer.ensures, c.lend-memory.ensures) at c.pull_blob_stream-answer.ensures.run)

pub returns-clause-bad_header : goal.returns-clause-bad_header
returns-clause-bad_header g c = λ bad. stream_bad (within c.args.self.now.settings c.args.moment) c.args.image.now _ _ bad (rw (c.as_layer_descriptor-layer.ensures, c.lend-memory.ensures) at c.pull_blob_stream-answer.ensures.run)

pub returns-clause-run : goal.returns-clause-run
returns-clause-run g c = rw (c.as_layer_descriptor-layer.ensures, c.lend-memory.ensures) at c.pull_blob_stream-answer.ensures.run
