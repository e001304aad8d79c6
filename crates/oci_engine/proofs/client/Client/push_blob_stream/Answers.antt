use Rattle.engine_terms.specs.Contexts.{within}
use Rattle.request_laws.proofs.ExactRefusals.{met_only, met_early}
use Rattle.push_laws.proofs.CallCauses.{stream_reason, stream_fault}
use Rattle.push_laws.proofs.Confinement.{stream_confined}
use Rattle.push_laws.proofs.EarlyPushes.{stream_url, stream_bad}
use Rattle.oci_engine.proofs.client.Client.push_blob_stream.Goals as goal

pub returns-clause-confined : goal.returns-clause-confined
returns-clause-confined g c = stream_confined (within c.args.self.now.settings c.args.moment) c.args.image.now _ _ (rw c.lend-memory.ensures at c.push_blob_stream-answer.ensures.run)

pub returns-clause-causes : goal.returns-clause-causes
returns-clause-causes g c = stream_reason (within c.args.self.now.settings c.args.moment) c.args.image.now _ _ _ (rw c.lend-memory.ensures at c.push_blob_stream-answer.ensures.run)

pub returns-clause-fault : goal.returns-clause-fault
returns-clause-fault g c = stream_fault (within c.args.self.now.settings c.args.moment) c.args.image.now _ _ _ (rw c.lend-memory.ensures at c.push_blob_stream-answer.ensures.run)

pub returns-clause-invalid_url : goal.returns-clause-invalid_url
returns-clause-invalid_url g c = λ sized none. met_only _ (stream_url (within c.args.self.now.settings c.args.moment) c.args.image.now _ _ sized none) (rw c.lend-memory.ensures at c.push_blob_stream-answer.ensures.run)

pub returns-clause-bad_header : goal.returns-clause-bad_header
returns-clause-bad_header g c = λ sized bad. met_early (stream_bad (within c.args.self.now.settings c.args.moment) c.args.image.now _ _ sized bad) (rw c.lend-memory.ensures at c.push_blob_stream-answer.ensures.run)

pub returns-clause-run : goal.returns-clause-run
returns-clause-run g c = rw c.lend-memory.ensures at c.push_blob_stream-answer.ensures.run
