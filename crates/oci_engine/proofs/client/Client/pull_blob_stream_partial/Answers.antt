use Rattle.engine_terms.specs.Contexts.{within}
use Rattle.call_laws.proofs.StreamCalls.{partial_confined, partial_reason, partial_fault}
use Rattle.call_laws.proofs.StreamRefusalLaws.{partial_past, partial_no_url, partial_bad}
use Rattle.oci_engine.proofs.client.Client.pull_blob_stream_partial.Goals as goal

pub returns-clause-confined : goal.returns-clause-confined
returns-clause-confined g c = partial_confined (within c.args.self.now.settings c.args.moment) c.args.image.now _ _ c.ranges.offset.fits (rw (c.as_layer_descriptor-layer.ensures, c.lend-memory.ensures) at c.pull_blob_stream_partial-answer.ensures.run)

pub returns-clause-causes : goal.returns-clause-causes
returns-clause-causes g c = partial_reason (within c.args.self.now.settings c.args.moment) c.args.image.now _ _ _ c.ranges.offset.fits (rw (c.as_layer_descriptor-layer.ensures, c.lend-memory.ensures) at c.pull_blob_stream_partial-answer.ensures.run)

pub returns-clause-fault : goal.returns-clause-fault
returns-clause-fault g c = partial_fault (within c.args.self.now.settings c.args.moment) c.args.image.now _ _ _ (rw (c.as_layer_descriptor-layer.ensures, c.lend-memory.ensures) at c.pull_blob_stream_partial-answer.ensures.run)

pub returns-clause-past : goal.returns-clause-past
returns-clause-past g c = λ past. partial_past (within c.args.self.now.settings c.args.moment) c.args.image.now _ _ _ past (rw (c.as_layer_descriptor-layer.ensures, c.lend-memory.ensures) at c.pull_blob_stream_partial-answer.ensures.run)

pub returns-clause-invalid_url : goal.returns-clause-invalid_url
returns-clause-invalid_url g c = λ fits none. partial_no_url (within c.args.self.now.settings c.args.moment) c.args.image.now _ _ _ fits none (rw (c.as_layer_descriptor-layer.ensures, c.lend-memory.ensures) at c.pull_blob_stream_partial-answer.ensures.run)

pub returns-clause-bad_header : goal.returns-clause-bad_header
returns-clause-bad_header g c = λ fits bad. partial_bad (within c.args.self.now.settings c.args.moment) c.args.image.now _ _ _ fits bad (rw (c.as_layer_descriptor-layer.ensures, c.lend-memory.ensures) at c.pull_blob_stream_partial-answer.ensures.run)

pub returns-clause-run : goal.returns-clause-run
returns-clause-run g c = rw (c.as_layer_descriptor-layer.ensures, c.lend-memory.ensures) at c.pull_blob_stream_partial-answer.ensures.run
