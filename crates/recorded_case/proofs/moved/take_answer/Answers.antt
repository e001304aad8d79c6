use Rattle.recorded_case.proofs.AnswerParts.{answer_of_parts}
use Rattle.recorded_case.proofs.moved.take_answer.Goals as goal

pub returns : goal.returns
returns c =
    answer_of_parts _ _ _ _ _ _ _ c.in_ok-only.ensures c.in_ok-status.ensures c.in_ok-headers.ensures
    c.in_ok-pieces.ensures c.in_ok-fails_before.ensures
