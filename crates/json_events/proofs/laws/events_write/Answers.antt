use Rattle.json_events.proofs.DraftsAfter.{events_write, front_goes_out, holds_first, holds_next}
use Rattle.json_events.proofs.Shapes.{texts_so_far}
use Rattle.json_events.proofs.WholeLists.{finished_spells}
use Rattle.json_events.proofs.laws.events_write.Goals as goal

pub returns-clause-values : goal.returns-clause-values
returns-clause-values c = events_write

pub returns-clause-first : goal.returns-clause-first
returns-clause-first c = holds_first

pub returns-clause-next : goal.returns-clause-next
returns-clause-next c = holds_next

pub returns-clause-spells : goal.returns-clause-spells
returns-clause-spells c = finished_spells

pub returns-clause-prefix : goal.returns-clause-prefix
returns-clause-prefix c = front_goes_out

pub returns-clause-so_far : goal.returns-clause-so_far
returns-clause-so_far c = texts_so_far
