use Rattle.std.proofs.Common.{refl, false, None}
use Rattle.oci_link.proofs.Steps.{new_told}
use Rattle.oci_link.proofs.guarded.Guarded.new.Goals as goal

pub returns-clause-told : goal.returns-clause-told
returns-clause-told g c = λ fresh. new_told (record { transport = c.args.transport; rules = c.args.rules; unsent = c.new.result; since = 0; lost = false; closed = false; realm = None }) _ fresh c.new.ensures refl refl refl
