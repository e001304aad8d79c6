use Rattle.oci_protocol.proofs.Exits.{passed_on, done}
use Rattle.engine_pull.proofs.manifests.manifest_by.Goals as goal

pub returns-in-Image : goal.returns-in-Image
returns-in-Image g c = rw c.in-Image.is done

pub returns-in_err-found : goal.returns-in_err-found
returns-in_err-found g c = rw c.in-ImageIndex.is (passed_on c.in_err-found.ensures c.from_residual.ensures.1)

pub returns : goal.returns
returns g c = rw c.in-ImageIndex.is c.in_ok-found.ensures
