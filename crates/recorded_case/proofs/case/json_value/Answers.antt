use Rattle.std.proofs.Common.{◌≡◌, true, false, sym}
use Rattle.json_values.proofs.JsonTexts.{json_of-read, json_of-refused}
use Rattle.recorded_case.proofs.case.json_value.Goals as goal

false_is_not_true : false ≡ true → ⊥
false_is_not_true p = cc

pub returns-in-Ok : goal.returns-in-Ok
returns-in-Ok c = let h = c.in-Ok.ensures.ok in sym (json_of-read _ _ h.0 h.1)

pub returns-in-Err-2 : goal.returns-in-Err-2
returns-in-Err-2 c =
    sym (json_of-refused _ (c.in-Err.ensures.err (λ m. false_is_not_true (c.if-is_memory.ensures.1 m))))
