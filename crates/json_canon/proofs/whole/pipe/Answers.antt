use Rattle.json_canon.proofs.PipedBack.{piped_back}
use Rattle.json_canon.proofs.whole.pipe.Goals as goal

pub returns-clause-canonical : goal.returns-clause-canonical
returns-clause-canonical c = piped_back _ _ c.piped-text.ensures
