use Rattle.json_canon.proofs.PipedBack.{texts_tell, texts_read_back}
use Rattle.json_canon.proofs.laws.texts_tell_values.Goals as goal

pub returns-clause-tell : goal.returns-clause-tell
returns-clause-tell c = texts_tell

pub returns-clause-read : goal.returns-clause-read
returns-clause-read c = texts_read_back
