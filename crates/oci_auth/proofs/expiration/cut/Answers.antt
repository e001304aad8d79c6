use Rattle.std.proofs.Common.{lit<}
use Rattle.std.proofs.lemmas.Str.Pattern.{split_parts}
use Rattle.oci_auth.proofs.Dots.{cuts}
use Rattle.oci_auth.proofs.expiration.cut.Goals as goal

pub returns : goal.returns
returns c = cuts c.args.text.now c.split_once.result (split_parts 46 c.args.text.now c.split_once.result c.split_once.ensures.cases (lit< tt))
