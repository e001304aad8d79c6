use Rattle.json_events.proofs.Causes.{first_is_bad, refusal_stays}
use Rattle.json_events.proofs.laws.first_refusal_has_its_cause.Goals as goal

pub returns-clause-first : goal.returns-clause-first
returns-clause-first c = first_is_bad

pub returns-clause-stays : goal.returns-clause-stays
returns-clause-stays c = refusal_stays
