use Rattle.registry_calls.proofs.NoMirror.{no_mirror}
use Rattle.registry_calls.proofs.reference.OciReference.parse.Goals as goal

pub invariant_of-result : goal.invariant_of-result
invariant_of-result c = record { direct = no_mirror c.args.text.now c.in-Ok.inner c.in-Ok.ensures.ok }
