use Rattle.oci_auth.proofs.Commas.{split_begins}
use Rattle.oci_auth.proofs.split.comma_in.Goals as goal

pub loop-at-init : goal.loop-at-init
loop-at-init c = split_begins c.args.bytes.now
