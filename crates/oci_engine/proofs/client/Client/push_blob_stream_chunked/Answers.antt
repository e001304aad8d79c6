use Rattle.engine_terms.specs.Contexts.{within}
use Rattle.request_laws.proofs.ExactRefusals.{met_only, met_early}
use Rattle.push_laws.proofs.CallCauses.{named_reason, named_fault}
use Rattle.push_laws.proofs.Confinement.{named_confined}
use Rattle.push_laws.proofs.EarlyPushes.{named_url, named_bad}
use Rattle.oci_engine.proofs.client.Client.push_blob_stream_chunked.Goals as goal

pub returns-clause-confined : goal.returns-clause-confined
returns-clause-confined g c = named_confined (within c.args.self.now.settings c.args.moment) c.args.image.now (rw c.lend-memory.ensures at c.push_blob_stream_chunked-answer.ensures.run)

pub returns-clause-causes : goal.returns-clause-causes
returns-clause-causes g c = named_reason (within c.args.self.now.settings c.args.moment) c.args.image.now _ (rw c.lend-memory.ensures at c.push_blob_stream_chunked-answer.ensures.run)

pub returns-clause-fault : goal.returns-clause-fault
returns-clause-fault g c = named_fault (within c.args.self.now.settings c.args.moment) c.args.image.now _ (rw c.lend-memory.ensures at c.push_blob_stream_chunked-answer.ensures.run)

pub returns-clause-invalid_url : goal.returns-clause-invalid_url
returns-clause-invalid_url g c = λ none. met_only _ (named_url (within c.args.self.now.settings c.args.moment) c.args.image.now none) (rw c.lend-memory.ensures at c.push_blob_stream_chunked-answer.ensures.run)

pub returns-clause-bad_header : goal.returns-clause-bad_header
returns-clause-bad_header g c = λ bad. met_early (named_bad (within c.args.self.now.settings c.args.moment) c.args.image.now bad) (rw c.lend-memory.ensures at c.push_blob_stream_chunked-answer.ensures.run)

pub returns-clause-run : goal.returns-clause-run
returns-clause-run g c = rw c.lend-memory.ensures at c.push_blob_stream_chunked-answer.ensures.run
