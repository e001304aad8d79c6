use Rattle.std.proofs.Common.{Result, sym, subst}
use Rattle.std.specs.Prelude.{OnOk}
use Rattle.oci_names.specs.declared.parse_error.ParseError.{ParseError}
use Rattle.oci_names.specs.declared.reference.Reference.{Reference}
use Rattle.pod_reviews.specs.Pins.{PinsBy}
use Rattle.pod_reviews.proofs.pins.push_allowed.Goals as goal

pub returns-in-Ok-clause-means : goal.returns-in-Ok-clause-means
returns-in-Ok-clause-means c =
    subst (λ (found : Result Reference ParseError). OnOk c.push_new.result (PinsBy found c.args.digest.now)) (sym (rw c.as_str.ensures at c.in-Ok.ensures.ok)) c.push_new.ensures.means
