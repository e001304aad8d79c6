use Rattle.oci_auth.proofs.Places.{is_kept}
use Rattle.oci_auth.proofs.kept.KeptTokens.insert.Goals as goal

pub returns-clause-last : goal.returns-clause-last
returns-clause-last c = rw (c.cut.ensures.exact, c.in_ok-put.ensures.ok) (is_kept c.args.most c.args.moment c.args.self.now c.args.kept)
