use Rattle.pull_mirror.proofs.EntrySending.{entry_planned}
use Rattle.pull_mirror.proofs.planning.entry_pushes.Goals as goal

pub returns : goal.returns
returns c =
    entry_planned _ _ _ c.add_blob.new.blobs _ c.in_ok-document.document ((rw c.as_slice-config.ensures at c.in_ok-add_blob.ensures) _ (rw (c.as_slice.ensures, c.as_slice-2.ensures) at c.in_ok-blobs.ensures)) c.in_ok-document.ensures c.in_ok-push.ensures.ok
