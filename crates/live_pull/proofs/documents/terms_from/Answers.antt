use Rattle.std.proofs.Common.{refl}
use Rattle.live_pull.proofs.documents.terms_from.Goals as goal

pub returns : goal.returns
returns g c = λ image auth constraints. record { image = image; auth = auth; accepted = refl; moment = refl; keys = refl; constraints = constraints }
