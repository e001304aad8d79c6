use Rattle.engine_terms.specs.Contexts.{within}
use Rattle.request_laws.proofs.ExactRefusals.{met_only, met_early}
use Rattle.push_laws.proofs.EarlyPublishes.{raw_url, raw_bad}
use Rattle.push_laws.proofs.PublishedCalls.{raw_reason, raw_fault, raw_confined}
use Rattle.push_laws.proofs.SentDocuments.{raw_sends, raw_named}
use Rattle.oci_engine.proofs.client.Client.push_manifest_raw.Goals as goal

pub returns-clause-confined : goal.returns-clause-confined
returns-clause-confined g c = raw_confined (within c.args.self.now.settings c.args.moment) c.args.image.now _ _ (rw c.lend-memory.ensures at c.push_manifest_raw-answer.ensures)

pub returns-clause-causes : goal.returns-clause-causes
returns-clause-causes g c = raw_reason (within c.args.self.now.settings c.args.moment) c.args.image.now _ _ _ (rw c.lend-memory.ensures at c.push_manifest_raw-answer.ensures)

pub returns-clause-fault : goal.returns-clause-fault
returns-clause-fault g c = raw_fault (within c.args.self.now.settings c.args.moment) c.args.image.now _ _ _ (rw c.lend-memory.ensures at c.push_manifest_raw-answer.ensures)

pub returns-clause-invalid_url : goal.returns-clause-invalid_url
returns-clause-invalid_url g c = λ none. met_only _ (raw_url (within c.args.self.now.settings c.args.moment) c.args.image.now _ _ none) (rw c.lend-memory.ensures at c.push_manifest_raw-answer.ensures)

pub returns-clause-bad_header : goal.returns-clause-bad_header
returns-clause-bad_header g c = λ bad. met_early (raw_bad (within c.args.self.now.settings c.args.moment) c.args.image.now _ _ bad) (rw c.lend-memory.ensures at c.push_manifest_raw-answer.ensures)

pub returns-clause-sends : goal.returns-clause-sends
returns-clause-sends g c = raw_sends (within c.args.self.now.settings c.args.moment) c.args.image.now _ _ _ (rw c.lend-memory.ensures at c.push_manifest_raw-answer.ensures)

pub returns-clause-named : goal.returns-clause-named
returns-clause-named g c = raw_named (within c.args.self.now.settings c.args.moment) c.args.image.now _ _ _ (rw c.lend-memory.ensures at c.push_manifest_raw-answer.ensures)

pub returns-clause-run : goal.returns-clause-run
returns-clause-run g c = rw c.lend-memory.ensures at c.push_manifest_raw-answer.ensures
