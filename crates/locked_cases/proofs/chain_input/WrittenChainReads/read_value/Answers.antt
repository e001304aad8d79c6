use Rattle.json_tables.proofs.Refusals.{passed_on, behind}
use Rattle.locked_cases.specs.ChainInput.{chain_of}
use Rattle.locked_cases.proofs.chain_input.WrittenChainReads.read_value.Goals as goal

pub returns-in_err-digest : goal.returns-in_err-digest
unfolding chain_of
returns-in_err-digest c =
    passed_on _ _ _ (behind _ _ c.in_ok-only.ensures (behind _ _ c.in_ok-entry.ensures (c.in_err-digest.ensures.refused _))) c.from_residual-in_err-digest.ensures
