use Rattle.live_pull.proofs.Justifies.{delivered_ends, early_ends}
use Rattle.live_pull.proofs.documents.serve_documents.Goals as goal

pub returns-in-Ok : goal.returns-in-Ok
returns-in-Ok g c = record { status = delivered_ends c.args.settings _ _ _ c.in-Ok.outcome c.end_delivered.result.status (rw c.in-Ok.is at c.search_and_decide-streams.ensures.decided) c.end_delivered.ensures }

pub returns-in-Err : goal.returns-in-Err
returns-in-Err g c = record { status = rw c.end_with.ensures (early_ends c.args.settings _ _ c.in-Err.status (rw c.in-Err.is at c.search_and_decide-streams.ensures.decided)) }
