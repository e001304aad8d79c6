use Rattle.std.proofs.Common.{rules}
use Rattle.oci_auth.proofs.Places.{own_put}
use Rattle.oci_auth.proofs.kept.KeptTokens.put.Goals as goal

pub invariant_of-self-2 : goal.invariant_of-self-2
invariant_of-self-2 c = own_put c.args.moment c.self.inside.inner.items c.insert.new.self.items c.args.kept (search rules) c.self.invariant
