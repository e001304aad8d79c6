use Rattle.engine_terms.specs.Contexts.{within}
use Rattle.request_laws.proofs.ExactRefusals.{met_only, met_early}
use Rattle.push_laws.proofs.EarlyPublishes.{image_url, image_bad}
use Rattle.push_laws.proofs.PublishedCalls.{image_reason, image_fault, image_confined}
use Rattle.push_laws.proofs.SentImages.{image_sends}
use Rattle.oci_engine.proofs.client.Client.push.Goals as goal

pub returns-clause-confined : goal.returns-clause-confined
returns-clause-confined g c = image_confined (within c.args.self.now.settings c.args.moment) c.args.image_ref.now _ _ _ _ (rw c.lend-memory.ensures at c.push-answer.ensures)

pub returns-clause-causes : goal.returns-clause-causes
returns-clause-causes g c = image_reason (within c.args.self.now.settings c.args.moment) c.args.image_ref.now _ _ _ _ _ (rw c.lend-memory.ensures at c.push-answer.ensures)

pub returns-clause-fault : goal.returns-clause-fault
returns-clause-fault g c = image_fault (within c.args.self.now.settings c.args.moment) c.args.image_ref.now _ _ _ _ _ (rw c.lend-memory.ensures at c.push-answer.ensures)

pub returns-clause-invalid_url : goal.returns-clause-invalid_url
returns-clause-invalid_url g c = λ none. met_only _ (image_url (within c.args.self.now.settings c.args.moment) c.args.image_ref.now _ _ _ _ none) (rw c.lend-memory.ensures at c.push-answer.ensures)

pub returns-clause-bad_header : goal.returns-clause-bad_header
returns-clause-bad_header g c = λ bad. met_early (image_bad (within c.args.self.now.settings c.args.moment) c.args.image_ref.now _ _ _ _ bad) (rw c.lend-memory.ensures at c.push-answer.ensures)

pub returns-clause-sends : goal.returns-clause-sends
returns-clause-sends g c = image_sends (within c.args.self.now.settings c.args.moment) c.args.image_ref.now _ _ _ _ _ (rw c.lend-memory.ensures at c.push-answer.ensures)

pub returns-clause-run : goal.returns-clause-run
returns-clause-run g c = rw c.lend-memory.ensures at c.push-answer.ensures
