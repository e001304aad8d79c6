use Rattle.cosign_laws.proofs.RightShelf.{small_valid}
use Rattle.valid_shelves.proofs.laws.small_shelves_are_valid.Goals as goal

pub returns : goal.returns
returns g c = λ own trust s image a accepted tag packed signing small. small_valid small
