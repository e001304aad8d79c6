use Rattle.engine_answers.proofs.answers.header_in.Goals as goal

pub returns : goal.returns
returns c = rw c.first.ensures at c.digest_header_value.ensures
