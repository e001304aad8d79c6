use Rattle.pull_mirror.proofs.Planned.{all_planned}
use Rattle.pull_mirror.proofs.planning.blob_pushes.Goals as goal

pub returns : goal.returns
returns c =
    all_planned _ _ _ _ _ (c.in_ok-add_bytes-2.ensures _ ((rw c.as_slice-3.ensures at c.in_ok-add_bytes.ensures) _
    ((rw c.as_slice-config.ensures at c.in_ok-add_blob.ensures) _ (rw (c.as_slice.ensures, c.as_slice-2.ensures) at c.in_ok-blobs.ensures))))
