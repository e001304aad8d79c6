use Rattle.json_events.proofs.ValueTexts.{new_comes}
use Rattle.json_events.proofs.Unique.{unique, plain}
use Rattle.json_events.proofs.laws.one_text.Goals as goal

pub returns-clause-one : goal.returns-clause-one
returns-clause-one c = unique

pub returns-clause-has : goal.returns-clause-has
returns-clause-has c = λ d value. (λ none. let came = new_comes d none value in (came.text, came.canonical), λ has. plain d has.0 has.1)
