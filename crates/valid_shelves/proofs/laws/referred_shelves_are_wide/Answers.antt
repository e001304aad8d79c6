use Rattle.valid_shelves.proofs.ReferredShelf.{referred_wide}
use Rattle.valid_shelves.proofs.laws.referred_shelves_are_wide.Goals as goal

pub returns : goal.returns
returns g c = λ own trust s image a accepted algorithm tag first list packed bundles referred. referred_wide referred
