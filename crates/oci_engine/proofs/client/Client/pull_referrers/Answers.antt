use Rattle.std.specs.Prelude.{option_copied}
use Rattle.engine_laws.proofs.ReferrersCauses.{referrers_reason, referrers_fault, no_digest}
use Rattle.engine_laws.proofs.ReferrersConfinement.{referrers_confined}
use Rattle.engine_laws.proofs.ReferrersRefusals.{referrers_no_url, referrers_bad, of_digest}
use Rattle.request_laws.proofs.ExactRefusals.{met_only, met_early}
use Rattle.oci_names.specs.Reference.{digest_of}
use Rattle.engine_terms.specs.Contexts.{within}
use Rattle.oci_engine.proofs.client.Client.pull_referrers.Goals as goal

pub returns-clause-causes : goal.returns-clause-causes
returns-clause-causes g c = referrers_reason (within c.args.self.now.settings c.args.moment) c.args.image.now (option_copied c.args.artifact_type) (rw c.lend-memory.ensures at c.pull_referrers-answer.ensures)

pub returns-clause-fault : goal.returns-clause-fault
returns-clause-fault g c = referrers_fault (within c.args.self.now.settings c.args.moment) c.args.image.now (option_copied c.args.artifact_type) (rw c.lend-memory.ensures at c.pull_referrers-answer.ensures)

pub returns-clause-no_digest : goal.returns-clause-no_digest
returns-clause-no_digest g c = λ none. met_only _ (no_digest (within c.args.self.now.settings c.args.moment) c.args.image.now (option_copied c.args.artifact_type) none) (rw c.lend-memory.ensures at c.pull_referrers-answer.ensures)

pub returns-clause-confined : goal.returns-clause-confined
returns-clause-confined g c = referrers_confined (within c.args.self.now.settings c.args.moment) c.args.image.now (option_copied c.args.artifact_type) (rw c.lend-memory.ensures at c.pull_referrers-answer.ensures)

pub returns-clause-invalid_url : goal.returns-clause-invalid_url
returns-clause-invalid_url g c = of_digest _ (digest_of c.args.image.now) (λ digest is none. met_only _ (referrers_no_url (within c.args.self.now.settings c.args.moment) c.args.image.now (option_copied c.args.artifact_type) digest is none) (rw c.lend-memory.ensures at c.pull_referrers-answer.ensures))

pub returns-clause-bad_header : goal.returns-clause-bad_header
returns-clause-bad_header g c = of_digest _ (digest_of c.args.image.now) (λ digest is bad. met_early (referrers_bad (within c.args.self.now.settings c.args.moment) c.args.image.now (option_copied c.args.artifact_type) digest is bad) (rw c.lend-memory.ensures at c.pull_referrers-answer.ensures))

pub returns-clause-run : goal.returns-clause-run
returns-clause-run g c = rw c.lend-memory.ensures at c.pull_referrers-answer.ensures
