use Rattle.engine_rows.proofs.Exits.{wanting}
use Rattle.pull_mirror.proofs.sending.send.Goals as goal

pub returns-in_err-body-in-Manifest-clause-run : goal.returns-in_err-body-in-Manifest-clause-run
returns-in_err-body-in-Manifest-clause-run g c = wanting c.from_residual.ensures.1

pub returns-in-Blob-clause-run : goal.returns-in-Blob-clause-run
returns-in-Blob-clause-run g c = rw c.in-Blob.is (rw c.as_str.ensures at c.push_blob.ensures.run)

pub returns-in-Blob-clause-settings : goal.returns-in-Blob-clause-settings
returns-in-Blob-clause-settings g c = c.push_blob.ensures.settings

pub returns-in_ok-body-in-Manifest-clause-run : goal.returns-in_ok-body-in-Manifest-clause-run
returns-in_ok-body-in-Manifest-clause-run g c = rw c.in-Manifest.is (rw (c.in_ok-body-in-Manifest.ensures, c.as_str-kind.ensures) at c.push_manifest_raw.ensures.run)

pub returns-in_ok-body-in-Manifest-clause-settings : goal.returns-in_ok-body-in-Manifest-clause-settings
returns-in_ok-body-in-Manifest-clause-settings g c = c.push_manifest_raw.ensures.settings
