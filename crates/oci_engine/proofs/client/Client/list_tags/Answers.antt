use Rattle.std.specs.Prelude.{option_copied}
use Rattle.oci_docs.specs.Tags.{tag_response_of}
use Rattle.engine_terms.specs.Contexts.{within}
use Rattle.engine_pull.specs.Listings.{tags_text}
use Rattle.call_laws.proofs.ListLaws.{list_confined, list_answered, list_reason, list_fault, list_no_url, list_bad}
use Rattle.oci_engine.proofs.client.Client.list_tags.Goals as goal

pub returns-clause-confined : goal.returns-clause-confined
returns-clause-confined g c = list_confined tag_response_of (within c.args.self.now.settings c.args.moment) c.args.image.now (tags_text c.args.self.now.settings c.args.image.now) c.args.n (option_copied c.args.last) c.args.auth.now (rw c.lend-memory.ensures at c.list_tags-answer.ensures)

pub returns-clause-answered : goal.returns-clause-answered
returns-clause-answered g c = list_answered tag_response_of (within c.args.self.now.settings c.args.moment) c.args.image.now (tags_text c.args.self.now.settings c.args.image.now) c.args.n (option_copied c.args.last) c.args.auth.now (rw c.lend-memory.ensures at c.list_tags-answer.ensures)

pub returns-clause-causes : goal.returns-clause-causes
returns-clause-causes g c = list_reason tag_response_of (within c.args.self.now.settings c.args.moment) c.args.image.now (tags_text c.args.self.now.settings c.args.image.now) c.args.n (option_copied c.args.last) c.args.auth.now (rw c.lend-memory.ensures at c.list_tags-answer.ensures)

pub returns-clause-fault : goal.returns-clause-fault
returns-clause-fault g c = list_fault tag_response_of (within c.args.self.now.settings c.args.moment) c.args.image.now (tags_text c.args.self.now.settings c.args.image.now) c.args.n (option_copied c.args.last) c.args.auth.now (rw c.lend-memory.ensures at c.list_tags-answer.ensures)

pub returns-clause-invalid_url : goal.returns-clause-invalid_url
returns-clause-invalid_url g c = λ none. list_no_url tag_response_of (within c.args.self.now.settings c.args.moment) c.args.image.now (tags_text c.args.self.now.settings c.args.image.now) c.args.n (option_copied c.args.last) c.args.auth.now (rw c.lend-memory.ensures at c.list_tags-answer.ensures) none

pub returns-clause-bad_header : goal.returns-clause-bad_header
returns-clause-bad_header g c = λ bad. list_bad tag_response_of (within c.args.self.now.settings c.args.moment) c.args.image.now (tags_text c.args.self.now.settings c.args.image.now) c.args.n (option_copied c.args.last) c.args.auth.now (rw c.lend-memory.ensures at c.list_tags-answer.ensures) bad

pub returns-clause-run : goal.returns-clause-run
returns-clause-run g c = rw c.lend-memory.ensures at c.list_tags-answer.ensures
