use Rattle.recorded_case.proofs.ShelfFaults.{shelf_calm}
use Rattle.recorded_case.proofs.replay.Replay.conversation.Goals as goal

pub returns-in-Shelf-clause-faults_recorded : goal.returns-in-Shelf-clause-faults_recorded
returns-in-Shelf-clause-faults_recorded c = rw c.in-Shelf.is (shelf_calm c.in-Shelf.shelf.transport.served.shelf c.conversation-in-Shelf.result.now c.conversation-in-Shelf.ensures.faults_recorded)
