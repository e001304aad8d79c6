use Rattle.json_tables.proofs.Refusals.{passed_on, behind}
use Rattle.locked_cases.specs.ChainInput.{signature_of}
use Rattle.locked_cases.proofs.chain_input.WrittenSignatureReads.read_value.Goals as goal

pub returns-in_err-content : goal.returns-in_err-content
unfolding signature_of
returns-in_err-content c =
    passed_on _ _ _ (behind _ _ c.in_ok-only.ensures (behind _ _ c.in_ok-kind.ensures (c.in_err-content.ensures.refused _))) c.from_residual-in_err-content.ensures
