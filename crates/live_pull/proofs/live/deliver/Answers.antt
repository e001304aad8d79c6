use Rattle.live_pull.proofs.live.deliver.Goals as goal

pub returns-in-Err : goal.returns-in-Err
returns-in-Err g c = rw c.in-Err.is (c.deliver_refusal.ensures c.args.blobs)
