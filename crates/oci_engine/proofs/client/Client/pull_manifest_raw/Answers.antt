use Rattle.std.proofs.Common.{◌∙◌}
use Rattle.oci_protocol.proofs.Exits.{passed_on}
use Rattle.engine_rows.proofs.Exits.{wanting}
use Rattle.engine_laws.proofs.CallCauses.{listed_reason, raw_fault}
use Rattle.engine_laws.proofs.CallResults.{raw_body, raw_named, raw_given}
use Rattle.request_laws.proofs.ExactRefusals.{raw_url, raw_bad, met_only, met_early, listed_met}
use Rattle.request_laws.proofs.CallConfinement.{raw_confined}
use Rattle.engine_terms.specs.Contexts.{within}
use Rattle.oci_engine.proofs.client.Client.pull_manifest_raw.Goals as goal

pub returns-in_err-types-clause-run : goal.returns-in_err-types-clause-run
returns-in_err-types-clause-run g c = wanting c.from_residual.ensures.1

pub returns-clause-body : goal.returns-clause-body
returns-clause-body g c = raw_body (within c.args.self.now.settings c.args.moment) c.args.image.now c.args.auth.now _ (rw c.lend-memory.ensures at c.in_ok-found.ensures)

pub returns-clause-named : goal.returns-clause-named
returns-clause-named g c = raw_named (within c.args.self.now.settings c.args.moment) c.args.image.now c.args.auth.now _ (rw c.lend-memory.ensures at c.in_ok-found.ensures)

pub returns-clause-given : goal.returns-clause-given
returns-clause-given g c = raw_given (within c.args.self.now.settings c.args.moment) c.args.image.now c.args.auth.now _ (rw c.lend-memory.ensures at c.in_ok-found.ensures)

pub returns-in_err-found-clause-causes : goal.returns-in_err-found-clause-causes
returns-in_err-found-clause-causes g c = listed_reason (within c.args.self.now.settings c.args.moment) c.args.image.now c.args.auth.now _ _ (c.as_str.ensures ∙ c.in_ok-types.ensures) (passed_on (rw c.lend-memory.ensures at c.in_err-found.ensures) c.from_residual-in_err-found.ensures.1)

pub returns-in_err-found-clause-fault : goal.returns-in_err-found-clause-fault
returns-in_err-found-clause-fault g c = raw_fault (within c.args.self.now.settings c.args.moment) c.args.image.now c.args.auth.now _ (passed_on (rw c.lend-memory.ensures at c.in_err-found.ensures) c.from_residual-in_err-found.ensures.1)

pub returns-clause-invalid_url : goal.returns-clause-invalid_url
returns-clause-invalid_url g c = λ none. met_only _ (raw_url (within c.args.self.now.settings c.args.moment) c.args.image.now c.args.auth.now _ none) (rw c.lend-memory.ensures at c.in_ok-found.ensures)

pub returns-in_err-found-clause-invalid_url : goal.returns-in_err-found-clause-invalid_url
returns-in_err-found-clause-invalid_url g c = λ none. met_only _ (raw_url (within c.args.self.now.settings c.args.moment) c.args.image.now c.args.auth.now _ none) (passed_on (rw c.lend-memory.ensures at c.in_err-found.ensures) c.from_residual-in_err-found.ensures.1)

pub returns-clause-bad_header : goal.returns-clause-bad_header
returns-clause-bad_header g c = λ bad. met_early (raw_bad (within c.args.self.now.settings c.args.moment) c.args.image.now c.args.auth.now _ bad) (listed_met (within c.args.self.now.settings c.args.moment) c.args.image.now c.args.auth.now _ _ (c.as_str.ensures ∙ c.in_ok-types.ensures) (rw c.lend-memory.ensures at c.in_ok-found.ensures))

pub returns-in_err-found-clause-bad_header : goal.returns-in_err-found-clause-bad_header
returns-in_err-found-clause-bad_header g c = λ bad. met_early (raw_bad (within c.args.self.now.settings c.args.moment) c.args.image.now c.args.auth.now _ bad) (listed_met (within c.args.self.now.settings c.args.moment) c.args.image.now c.args.auth.now _ _ (c.as_str.ensures ∙ c.in_ok-types.ensures) (passed_on (rw c.lend-memory.ensures at c.in_err-found.ensures) c.from_residual-in_err-found.ensures.1))

pub returns-clause-confined : goal.returns-clause-confined
returns-clause-confined g c = raw_confined (within c.args.self.now.settings c.args.moment) c.args.image.now c.args.auth.now _ (rw c.lend-memory.ensures at c.in_ok-found.ensures)

pub returns-in_err-types-clause-confined : goal.returns-in_err-types-clause-confined
returns-in_err-types-clause-confined g c = raw_confined (within c.args.self.now.settings c.args.moment) c.args.image.now c.args.auth.now _ (returns-in_err-types-clause-run g c)

pub returns-in_err-found-clause-confined : goal.returns-in_err-found-clause-confined
returns-in_err-found-clause-confined g c = raw_confined (within c.args.self.now.settings c.args.moment) c.args.image.now c.args.auth.now _ (passed_on (rw c.lend-memory.ensures at c.in_err-found.ensures) c.from_residual-in_err-found.ensures.1)

pub returns-in_err-found-clause-run : goal.returns-in_err-found-clause-run
returns-in_err-found-clause-run g c = listed_met (within c.args.self.now.settings c.args.moment) c.args.image.now c.args.auth.now _ _ (c.as_str.ensures ∙ c.in_ok-types.ensures) (passed_on (rw c.lend-memory.ensures at c.in_err-found.ensures) c.from_residual-in_err-found.ensures.1)

pub returns-clause-run : goal.returns-clause-run
returns-clause-run g c = listed_met (within c.args.self.now.settings c.args.moment) c.args.image.now c.args.auth.now _ _ (c.as_str.ensures ∙ c.in_ok-types.ensures) (rw c.lend-memory.ensures at c.in_ok-found.ensures)
